-- A refused image, a table too short, or the table.
use Rattle.std.proofs.Common.{ℕ, ap, ◌∙◌, Bor, List, arith}
use Rattle.format.specs.Lists.{over}
use Rattle.format.proofs.Handed.{handed}
use Rattle.unpacking.specs.Standing.{table_of}
use Rattle.unpacking.proofs.OutcomeLaws.{unpack_refused, unpack_short, unpack_whole}
use Rattle.unpacking.proofs.unpack.Goals as goal

pub returns-in_err-image : goal.returns-in_err-image
returns-in_err-image c =
    rw (handed c.from_residual.ensures.1) (unpack_refused c.args.image.now c.args.table.now c.in_err-image.field-0.0 c.in_err-image.ensures)

pub returns-then-table-trits : goal.returns-then-table-trits
returns-then-table-trits c =
    let L = rw c.in_ok-image.ensures.1 at c.in_ok-image.image.laid in
    unpack_short L c.args.table.now (omega arith)

pub returns : goal.returns
returns c =
    let L = rw c.in_ok-image.ensures.1 at c.in_ok-image.image.laid in
    unpack_whole L c.args.table.now (omega arith) c.put_table.new.table
    (c.put_table.ensures ∙ ap (λ (b : Bor (List ℕ)). over (table_of b.now) c.args.table.now) c.in_ok-image.ensures.1)
