-- A word more is read. Assumes nothing.
use Rattle.std.proofs.Common.{arith, ◌∙◌}
use Rattle.format.proofs.Over.{over_none, over_next, over_done}
use Rattle.listing.proofs.TableLaws.{words_many, word_at_lem}
use Rattle.listing.proofs.read_words.Goals as goal

pub loop-i-init : goal.loop-i-init
loop-i-init c = over_none _ _ _ (words_many c.args.input.now c.requires.0) (omega (arith, c.requires.1))

pub loop-i-preserved : goal.loop-i-preserved
loop-i-preserved c =
    over_next c.loop-i.invariant c.loop-i-test.true _ (c.get.ensures.0 ∙ word_at_lem c.args.input.now c.requires.0 _ c.loop-i-test.true)

pub returns : goal.returns
returns c = over_done c.loop-i.invariant (omega arith)
