-- The entry of section 2 is inside the image.
use Rattle.std.proofs.Common.{◌∙◌}
use Rattle.asking.proofs.EntryLaws.{entry_2}
use Rattle.asking.proofs.index.shadow.Goals as goal

pub entry-requires-clause-inside : goal.entry-requires-clause-inside
entry-requires-clause-inside c = (entry_2 c.args.image.now.laid c.args.i c.requires).inside

pub returns : goal.returns
returns c = c.entry.ensures.0 ∙ (entry_2 c.args.image.now.laid c.args.i c.requires).reads
