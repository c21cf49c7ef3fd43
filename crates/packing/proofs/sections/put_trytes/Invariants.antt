-- After i turns i trytes are written, and the trits after them are left.
use Rattle.packing.proofs.SectionLaws.{Putting}
use Rattle.packing.proofs.sections.put_trytes.Given as goal

abbrev pub invariant-loop-byte : goal.invariant-loop-byte
invariant-loop-byte l = Putting l.stream.table.now l.stream.n l.fn.out l.byte-items l.c l.byte-index
