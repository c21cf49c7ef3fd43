-- The entry of section 5 is inside the image.
use Rattle.std.proofs.Common.{◌∙◌}
use Rattle.asking.proofs.EntryLaws.{entry_5}
use Rattle.asking.proofs.index.shadow_place.Goals as goal

pub entry-requires-clause-inside : goal.entry-requires-clause-inside
entry-requires-clause-inside c = (entry_5 c.args.image.now.laid c.args.j c.requires).inside

pub returns : goal.returns
returns c = c.entry.ensures.0 ∙ (entry_5 c.args.image.now.laid c.args.j c.requires).reads
