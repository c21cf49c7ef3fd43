-- A word too few, a word that is no node, a root that the map has, or one root more.
use Rattle.std.proofs.Common.{rules, tests, ◌≡◌, refl, sym, true, ap, ◌∙◌, Err, ℕ, [], ◌∷◌, ◌++◌, arith, ◌+◌, ◌-◌, ◌<◌}
use native.Mathlib.Numerals.{unary_clauses}
use lib.ListN.{length-set, length-replicate}
use Rattle.format.specs.Lists.{number_in}
use Rattle.format.specs.Table.{Node, is_node}
use Rattle.format.proofs.Laws.{is_node_node}
use Rattle.packing.specs.Sizes.{place_of}
use Rattle.packing.proofs.BitLaws.{marks_none, marks_new, marks_old, marks_more}
use Rattle.format.proofs.Handed.{handed}
use Rattle.packing.proofs.ScanLaws.{roots_none, roots_short, root_outside, root_twice, root_next}
use Rattle.packing.proofs.table.roots.Goals as goal
use Rattle.packing.proofs.table.roots.Goals.{Else-not-contains}

-- a root that is a node
node : (c : Else-not-contains) → is_node c.args.n c.in_ok-v.v ≡ true
node c = search (rules, tests)

-- has its mark in the map
small : (c : Else-not-contains) → c.in_ok-v.v < 30016
small c =
    let v : Node c.args.n c.in_ok-v.v = is_node_node _ _ (node c) in
    omega (arith, c.requires.1)

pub loop-i-init : goal.loop-i-init
loop-i-init c = record { inside = omega (arith, c.requires.0); words = length-replicate {A = ℕ} 469 0; before = []; marks = marks_none; rest = simp unary_clauses refl }

pub returns-in_err-v : goal.returns-in_err-v
returns-in_err-v c =
    let x = c.args in
    let l = c.loop-i in
    let e = c.in_err-v.ensures in
    ap place_of (handed c.from_residual.ensures.1 ∙ ap Err e.0)
    ∙ roots_short _ _ (x.at + l.i) l.invariant.before (x.c - l.i) (x.c - (l.i + 1)) (omega arith) e.1 ∙ l.invariant.rest

pub returns-then-not-contains : goal.returns-then-not-contains
returns-then-not-contains c =
    let x = c.args in
    let l = c.loop-i in
    let v = c.in_ok-v.ensures in
    root_outside _ _ (x.at + l.i) l.invariant.before (x.c - l.i) (x.c - (l.i + 1)) (omega arith) v.2 _ v.0 (search (rules, tests))
    ∙ l.invariant.rest

pub returns-then-mark_in-ne0 : goal.returns-then-mark_in-ne0
returns-then-mark_in-ne0 c =
    let x = c.args in
    let l = c.loop-i in
    let v = c.in_ok-v.ensures in
    let old = marks_old l.seen l.invariant.before c.in_ok-v.v (small (goal.at.returns-then-mark_in-ne0 c).Else-not-contains) l.invariant.marks
    (λ z. c.if-mark_in-ne0.true (c.mark_in.ensures ∙ z)) in
    root_twice _ _ (x.at + l.i) l.invariant.before (x.c - l.i) (x.c - (l.i + 1)) (omega arith) v.2 _ v.0 (node (goal.at.returns-then-mark_in-ne0 c).Else-not-contains) old
    ∙ l.invariant.rest

pub loop-i-preserved : goal.loop-i-preserved
loop-i-preserved c =
    let x = c.args in
    let l = c.loop-i in
    let b = l.invariant.before in
    let v = c.in_ok-v.ensures in
    let w = c.in_ok-v.v in
    let fits = small (goal.at.loop-i-preserved c).Else-not-contains in
    let new : number_in w b ≡ 0 = marks_new l.seen b w fits l.invariant.marks (sym c.mark_in.ensures ∙ c.if-mark_in-ne0.false) in
    let next = root_next _ _ (x.at + l.i) b (x.c - l.i) (x.c - (l.i + 1)) (omega arith) v.2 _ v.0 (node (goal.at.loop-i-preserved c).Else-not-contains) new (x.at + (l.i + 1)) (omega arith) in
    record {
      inside = omega (arith, v.2);
      words = simp length-set l.invariant.words;
      before = b ++ w ∷ [];
      marks = marks_more l.seen b w fits l.invariant.marks c.with_mark.result (omega (arith, fits, l.invariant.words)) c.with_mark.ensures new;
      rest = next ∙ l.invariant.rest;
    }

pub returns : goal.returns
returns c =
    let x = c.args in
    let l = c.loop-i in
    roots_none _ _ _ l.invariant.before (x.c - l.i) _ (omega arith) (omega arith) l.invariant.inside ∙ l.invariant.rest
