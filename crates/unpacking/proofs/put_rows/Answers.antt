-- n first, then a word for each trit past the first zero, and last the count of the roots.
use Rattle.std.proofs.Common.{arith, refl, length-set}
use Rattle.unpacking.proofs.FillLaws.{filled_length}
use Rattle.unpacking.proofs.SizeLaws.{sizes}
use Rattle.unpacking.proofs.RowLaws.{rows_first, rows_next, rows_last}
use Rattle.unpacking.proofs.put_rows.Goals as goal

pub overflow_cast-table : goal.overflow_cast-table
overflow_cast-table c = omega (arith, sizes c.args.image.now.laid)

pub overflow_step-p : goal.overflow_step-p
overflow_step-p c = omega (arith, sizes c.args.image.now.laid)

pub loop-p-init : goal.loop-p-init
loop-p-init c = rows_first c.args.image.now.laid c.args.table.now _ c.requires refl

pub put_trit-s-requires : goal.put_trit-s-requires
put_trit-s-requires c =
    let r = c.loop-p.invariant in
    (record { laid = c.args.image.now.laid; is = r.stands; from = r.from; inside = omega arith }, omega (arith, filled_length r.filled, length-set c.args.table.now 0 c.args.image.now.lay.nodes))

pub loop-p-preserved : goal.loop-p-preserved
loop-p-preserved c =
    rows_next c.args.image.now.laid c.loop-p.invariant (omega arith) _ c.put_trit-s.ensures.0 _ c.put_trit-s.ensures.1

pub overflow_cast-table-2 : goal.overflow_cast-table-2
overflow_cast-table-2 c = omega (arith, sizes c.args.image.now.laid)

pub returns : goal.returns
returns c = rows_last c.args.image.now.laid c.loop-p.invariant c.args.table.now _ refl (omega arith)
