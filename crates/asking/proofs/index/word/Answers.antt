-- The entry of section 3 is inside the image.
use Rattle.std.proofs.Common.{◌∙◌}
use Rattle.asking.proofs.EntryLaws.{entry_3}
use Rattle.asking.proofs.index.word.Goals as goal

pub entry-requires-clause-inside : goal.entry-requires-clause-inside
entry-requires-clause-inside c = (entry_3 c.args.image.now.laid c.args.q c.requires).inside

pub returns : goal.returns
returns c = c.entry.ensures.0 ∙ (entry_3 c.args.image.now.laid c.args.q c.requires).reads
