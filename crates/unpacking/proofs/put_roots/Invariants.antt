-- The words before `i` are put.
use Rattle.unpacking.proofs.FillLaws.{Listed}
use Rattle.unpacking.proofs.put_roots.Given as goal

abbrev pub invariant-loop-i : goal.invariant-loop-i
invariant-loop-i l = Listed l.fn.table l.table l.i
