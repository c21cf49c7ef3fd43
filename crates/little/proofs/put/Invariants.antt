-- The bytes before `byte` are put, and the rest of the number is to come.
use Rattle.little.proofs.Laws.{Puts}
use Rattle.little.proofs.put.Given as goal

abbrev pub invariant-loop-byte : goal.invariant-loop-byte
invariant-loop-byte g l = Puts l.n l.initial.byte-items l.byte-index l.rest l.byte-items
