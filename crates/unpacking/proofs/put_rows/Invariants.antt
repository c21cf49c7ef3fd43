-- The words of the trits before `p` are put, but the last zero's count.
use Rattle.unpacking.proofs.RowLaws.{Rows}
use Rattle.unpacking.proofs.put_rows.Given as goal

abbrev pub invariant-loop-p : goal.invariant-loop-p
invariant-loop-p l = Rows l.image.bytes.now l.image.lay l.initial.table l.table l.p l.s
