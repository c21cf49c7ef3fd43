-- A word too few, a word that is no node, or one operand more.
use Rattle.std.proofs.Common.{rules, tests, ◌≡◌, true, ap, ◌∙◌, Err, arith, ◌+◌, ◌-◌}
use Rattle.format.specs.Table.{is_node}
use Rattle.packing.specs.Sizes.{place_of}
use Rattle.format.proofs.Handed.{handed}
use Rattle.packing.proofs.ScanLaws.{operands_none, operands_short, operand_outside, operand_next}
use Rattle.packing.proofs.table.operands.Goals as goal

pub returns-in_err-v : goal.returns-in_err-v
returns-in_err-v c =
    let x = c.args in
    let i = c.loop-i.i in
    let e = c.in_err-v.ensures in
    ap place_of (handed c.from_residual.ensures.1 ∙ ap Err e.0) ∙ operands_short _ _ (x.at + i) (x.k - i) (x.k - (i + 1)) (omega arith) e.1 ∙ c.loop-i.invariant.rest

pub returns-then-not-contains : goal.returns-then-not-contains
returns-then-not-contains c =
    let x = c.args in
    let i = c.loop-i.i in
    let v = c.in_ok-v.ensures in
    operand_outside _ _ (x.at + i) (x.k - i) (x.k - (i + 1)) (omega arith) v.2 _ v.0 (search (rules, tests)) ∙ c.loop-i.invariant.rest

pub loop-i-preserved : goal.loop-i-preserved
loop-i-preserved c =
    let x = c.args in
    let i = c.loop-i.i in
    let v = c.in_ok-v.ensures in
    let node : is_node x.n c.in_ok-v.v ≡ true = search (rules, tests) in
    let next = operand_next _ _ (x.at + i) (x.k - i) (x.k - (i + 1)) (omega arith) v.2 _ v.0 node (x.at + (i + 1)) (omega arith) in
    record { inside = omega (arith, v.2); rest = next ∙ c.loop-i.invariant.rest }

pub returns : goal.returns
returns c =
    let l = c.loop-i in
    operands_none _ _ _ (c.args.k - l.i) _ (omega arith) (omega arith) l.invariant.inside ∙ l.invariant.rest
