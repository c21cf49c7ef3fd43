-- By the answer of `roots`.
use Rattle.std.proofs.Common.{ap, ◌∙◌, Err}
use Rattle.packing.specs.Sizes.{sizes}
use Rattle.format.proofs.Handed.{handed}
use Rattle.packing.proofs.ScanLaws.{ending_short, ending_bad, ending_more, ending_done}
use Rattle.packing.proofs.table.ending.Goals as goal

pub returns-in_err-c : goal.returns-in_err-c
returns-in_err-c c = λ os l. let e = c.in_err-c.ensures in ap sizes (handed c.from_residual.ensures.1 ∙ ap Err e.0) ∙ ending_short _ _ _ os l e.1

pub returns-in_err-end : goal.returns-in_err-end
returns-in_err-end c =
    λ os l. let w = c.in_ok-c.ensures in ap sizes (handed c.from_residual-in_err-end.ensures.1) ∙ ending_bad _ _ _ os l w.2 _ w.0 _ c.in_err-end.ensures

pub returns-then-end-table : goal.returns-then-end-table
returns-then-end-table c =
    λ os l. let w = c.in_ok-c.ensures in ending_more _ _ _ os l w.2 _ w.0 _ c.in_ok-end.ensures c.if-end-table.true

pub returns : goal.returns
returns c =
    λ os l. let w = c.in_ok-c.ensures in ending_done _ _ _ os l w.2 _ w.0 _ c.in_ok-end.ensures c.if-end-table.false
