-- A byte above 242 ends the test.
use Rattle.std.proofs.Common.{◌∙◌, refl, sym, arith}
use borrow.Author.Tests.{le-leb, lt-leb}
use Rattle.format.specs.Proper.{bytes_low}
use Rattle.proper.proofs.FirstLaws.{every_more, every_stop, every_end}
use Rattle.proper.proofs.first.bytes_low.Goals as goal

pub loop-b-init : goal.loop-b-init
unfolding bytes_low
loop-b-init c = refl

pub returns-then-b-gt242 : goal.returns-then-b-gt242
returns-then-b-gt242 c =
    sym (c.loop-b.invariant ∙ every_stop _ c.args.bs.now c.loop-b.b-index c.loop-b-test.true (lt-leb _ 242 (omega arith)))

pub loop-b-preserved : goal.loop-b-preserved
loop-b-preserved c =
    c.loop-b.invariant ∙ every_more _ c.args.bs.now c.loop-b.b-index c.loop-b-test.true (le-leb _ 242 (omega arith))

pub returns : goal.returns
returns c = sym (c.loop-b.invariant ∙ every_end _ c.args.bs.now c.loop-b.b-index (omega arith))
