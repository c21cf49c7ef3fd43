-- By the answers of `lists` and `ending`.
use Rattle.std.proofs.Common.{ap, ◌∙◌, Err, arith}
use Rattle.packing.specs.Sizes.{sizes}
use Rattle.format.proofs.Handed.{handed}
use Rattle.packing.proofs.ScanLaws.{scan_short, scan_large, scan_bad, scan_lists}
use Rattle.packing.proofs.table.scan.Goals as goal

pub returns-in_err-n : goal.returns-in_err-n
returns-in_err-n c = let e = c.in_err-n.ensures in ap sizes (handed c.from_residual.ensures.1 ∙ ap Err e.0) ∙ scan_short _ (omega (arith, e.1))

pub returns-then-n-gt-MAX_NODES : goal.returns-then-n-gt-MAX_NODES
returns-then-n-gt-MAX_NODES c = let w = c.in_ok-n.ensures in scan_large _ _ w.0 w.2 c.if-n-gt-MAX_NODES.true

pub returns-in_err-at : goal.returns-in_err-at
returns-in_err-at c =
    let w = c.in_ok-n.ensures in
    ap sizes (handed c.from_residual-in_err-at.ensures.1) ∙ scan_bad _ _ w.0 w.2 c.if-n-gt-MAX_NODES.false _ c.in_err-at.ensures

pub ending-requires : goal.ending-requires
ending-requires c =
    let w = c.in_ok-n.ensures in
    let s = scan_lists c.args.table.now _ w.0 w.2 c.if-n-gt-MAX_NODES.false _ c.in_ok-at.ensures in
    (omega (arith, s.1.ends), s.2, c.if-n-gt-MAX_NODES.false, (s.0, s.1))

pub returns : goal.returns
returns c =
    let w = c.in_ok-n.ensures in
    let s = scan_lists c.args.table.now _ w.0 w.2 c.if-n-gt-MAX_NODES.false _ c.in_ok-at.ensures in
    c.ending.ensures s.0 s.1
