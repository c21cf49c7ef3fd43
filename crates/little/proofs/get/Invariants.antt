-- The bytes that the iterator gave make the number so far.
use Rattle.std.proofs.Common.{take, drop}
use Rattle.little.proofs.Laws.{Reading}
use Rattle.little.proofs.get.Given as goal

abbrev pub invariant-loop-byte : goal.invariant-loop-byte
invariant-loop-byte g l = Reading (take g.row.N (drop l.at l.s)) l.byte-iterator.iter.rest.now l.n
