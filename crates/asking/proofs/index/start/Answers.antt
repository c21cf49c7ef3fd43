-- The entry of section 4 is inside the image.
use Rattle.std.proofs.Common.{◌∙◌}
use Rattle.asking.proofs.EntryLaws.{entry_4}
use Rattle.asking.proofs.index.start.Goals as goal

pub entry-requires-clause-inside : goal.entry-requires-clause-inside
entry-requires-clause-inside c = (entry_4 c.args.image.now.laid c.args.j c.requires).inside

pub returns : goal.returns
returns c = c.entry.ensures.0 ∙ (entry_4 c.args.image.now.laid c.args.j c.requires).reads
