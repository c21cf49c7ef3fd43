-- The first `i` entries are marked.
use Rattle.proper.proofs.MapLaws.{Filled}
use Rattle.proper.proofs.marked.set_marks.Given as goal

abbrev pub invariant-loop-i : goal.invariant-loop-i
invariant-loop-i l = Filled l.hs l.i l.map
