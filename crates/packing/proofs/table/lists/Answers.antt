-- A word too few, too many operands, a list with a fault, or one list more.
use Rattle.std.proofs.Common.{ap, ◌∙◌, Err, arith, ◌+◌, ◌-◌}
use Rattle.packing.specs.Sizes.{place_of}
use Rattle.format.proofs.Handed.{handed}
use Rattle.packing.proofs.ScanLaws.{lists_none, lists_short, count_above, list_bad, list_next}
use Rattle.packing.proofs.table.lists.Goals as goal

pub returns-in_err-k : goal.returns-in_err-k
returns-in_err-k c =
    let n = c.args.n in
    let l = c.loop in
    let e = c.in_err-k.ensures in
    ap place_of (handed c.from_residual.ensures.1 ∙ ap Err e.0) ∙ lists_short _ _ l.at l.m (n - l.counter) (n - (l.counter + 1)) (omega arith) e.1 ∙ l.invariant.rest

pub returns-then-too_many : goal.returns-then-too_many
returns-then-too_many c =
    let n = c.args.n in
    let l = c.loop in
    let k = c.in_ok-k.ensures in
    count_above _ _ l.at l.m (n - l.counter) (n - (l.counter + 1)) (omega arith) k.2 _ k.0 (omega arith) ∙ l.invariant.rest

pub returns-in_err-at : goal.returns-in_err-at
returns-in_err-at c =
    let n = c.args.n in
    let l = c.loop in
    let k = c.in_ok-k.ensures in
    ap place_of (handed c.from_residual-in_err-at.ensures.1)
    ∙ list_bad _ _ l.at l.m (n - l.counter) (n - (l.counter + 1)) (omega arith) k.2 _ k.0 (omega arith) _ c.in_err-at.ensures ∙ l.invariant.rest

pub loop-preserved : goal.loop-preserved
loop-preserved c =
    let n = c.args.n in
    let l = c.loop in
    let k = c.in_ok-k.ensures in
    let next = list_next _ _ l.at l.m (n - l.counter) (n - (l.counter + 1)) (omega arith) k.2 _ k.0 (omega arith) _ c.in_ok-at.ensures in
    record { inside = next.0; few = omega arith; rest = next.1 ∙ l.invariant.rest }

pub returns : goal.returns
returns c =
    let l = c.loop in
    lists_none _ _ l.at l.m (c.args.n - l.counter) (omega arith) l.invariant.inside ∙ l.invariant.rest
