-- A sample is the marks counted so far.
use Rattle.std.proofs.Common.{arith, below_none}
use Rattle.proper.proofs.OnesLaws.{length_words, counted_none, counted_more, counted_few, sampled_wrong, sampled_more, sampled_all}
use Rattle.proper.proofs.marked.mark_samples_right.Goals as goal

pub loop-w-init : goal.loop-w-init
loop-w-init c = record { counted = counted_none _; right = λ trits H k. below_none _ }

pub get-requires-clause-inside : goal.get-requires-clause-inside
get-requires-clause-inside c =
    let pre = c.requires in
    omega (arith, length_words pre.2, pre.3)

pub returns-then-get-sum : goal.returns-then-get-sum
returns-then-get-sum c = sampled_wrong c.loop-w.invariant c.loop-w-test.true c.get.ensures.0 (omega arith)

pub overflow_add-sum : goal.overflow_add-sum
overflow_add-sum c =
    omega (arith, counted_few (counted_more c.loop-w.invariant.counted c.loop-w-test.true c.marks_in-sum.ensures) c.requires.2)

pub loop-w-preserved : goal.loop-w-preserved
loop-w-preserved c = sampled_more c.loop-w.invariant c.loop-w-test.true c.get.ensures.0 (omega arith) c.marks_in-sum.ensures

pub returns : goal.returns
returns c =
    let pre = c.requires in
    sampled_all c.loop-w.invariant c.loop-w-test.false (λ i l. omega (arith, c.type_inv.part i)) pre.2 pre.3
