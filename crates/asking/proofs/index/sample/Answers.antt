-- The entry of section 9 is inside the image.
use Rattle.std.proofs.Common.{◌∙◌}
use Rattle.asking.proofs.EntryLaws.{entry_9}
use Rattle.asking.proofs.index.sample.Goals as goal

pub entry-requires-clause-inside : goal.entry-requires-clause-inside
entry-requires-clause-inside c = (entry_9 c.args.image.now.laid c.args.q c.requires).inside

pub returns : goal.returns
returns c = (c.entry.ensures.0 ∙ (entry_9 c.args.image.now.laid c.args.q c.requires).reads, c.entry.ensures.1)
