-- The marks of the words before `w` are counted.
use Rattle.proper.proofs.OnesLaws.{Counted}
use Rattle.proper.proofs.marked.count_marks.Given as goal

abbrev pub invariant-loop-w : goal.invariant-loop-w
invariant-loop-w l = Counted l.marks l.w l.count
