-- A word's ones are its marks.
use Rattle.std.proofs.Common.{arith}
use Rattle.proper.proofs.OnesLaws.{counted_none, counted_more, counted_few, counted_all}
use Rattle.proper.proofs.marked.count_marks.Goals as goal

pub loop-w-init : goal.loop-w-init
loop-w-init c = counted_none _

pub overflow_add-count : goal.overflow_add-count
overflow_add-count c =
    omega (arith, counted_few (counted_more c.loop-w.invariant c.loop-w-test.true c.marks_in-count.ensures) c.requires.2)

pub loop-w-preserved : goal.loop-w-preserved
loop-w-preserved c = counted_more c.loop-w.invariant c.loop-w-test.true c.marks_in-count.ensures

pub returns : goal.returns
returns c = counted_all c.loop-w.invariant c.loop-w-test.false
