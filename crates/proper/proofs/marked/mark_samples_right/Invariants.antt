-- The samples of the words before `w` are right, and `sum` is the next.
use Rattle.proper.proofs.OnesLaws.{Sampled}
use Rattle.proper.proofs.marked.mark_samples_right.Given as goal

abbrev pub invariant-loop-w : goal.invariant-loop-w
invariant-loop-w l = Sampled l.marks l.part l.w l.sum
