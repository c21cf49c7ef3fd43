-- Each turn holds one place to the keys before it, and its index to section 4.
use Rattle.std.proofs.Common.{arith, ◌≤◌, ◌<◌, refl, sym, ◌∙◌, length}
use Rattle.format.proofs.Sums.{shadows_few}
use Rattle.proper.specs.Held.{shadows_in}
use Rattle.proper.proofs.KeyLaws.{key_small}
use Rattle.proper.proofs.IndexLaws.{indexed_none, indexed_wrong, indexed_same, indexed_differs, indexed_next, indexed_all}
use Rattle.proper.proofs.placed.keys_right.Goals as goal
use Rattle.proper.proofs.placed.keys_right.Goals.{At-loop-e, In-loop-e, then-before-key+else-not-number_is, else-before-key}

-- a turn's entry is one of them
inside : (c : In-loop-e) → c.loop-e.e < length (shadows_in c.args.twos.now.walk)
inside c = omega (arith, c.requires.long5)

-- there are no more numbers than 16 bits can tell
few : (c : At-loop-e) → c.loop-e.j ≤ 65535
few c = omega (arith, c.requires.long5, shadows_few c.args.twos.now.walk.known.shadowed.proper)

pub loop-e-init : goal.loop-e-init
loop-e-init c = record { fewer = omega arith; so_far = indexed_none c.args.twos.now.walk.known.shadowed.proper }

pub returns-in_default : goal.returns-in_default
returns-in_default c = indexed_wrong c.loop-e.invariant.so_far c.args.twos.now.walk.known.shadowed.proper (inside (goal.at.returns-in_default c).In-loop-e) c.in_default.ensures

pub overflow_add-low : goal.overflow_add-low
overflow_add-low c =
    let r = c.in-Some.ensures in
    omega (arith, r.1, key_small c.args.twos.now.walk.known r.0.inside r.0.two)

pub number_is-requires : goal.number_is-requires
number_is-requires c = few (goal.at.number_is-requires c).At-loop-e

pub returns-then-not-number_is : goal.returns-then-not-number_is
returns-then-not-number_is c =
    let r = c.in-Some.ensures in
    indexed_differs c.loop-e.invariant.so_far c.args.twos.now.walk.known.shadowed.proper (inside (goal.at.returns-then-not-number_is c).In-loop-e) r.0 r.1 (omega arith) refl
    (sym c.if-not-number_is.ensures)

pub loop-e-preserved : goal.loop-e-preserved
loop-e-preserved c = elim c.if-before-key.branch [
  | then-before-key+else-not-number_is w ↦ record {
    fewer = omega arith;
    so_far =
        let r = c.in-Some.ensures in
        rw w.j-is
        (indexed_next c.loop-e.invariant.so_far c.args.twos.now.walk.known.shadowed.proper (inside (goal.at.loop-e-preserved c).In-loop-e) r.0 r.1 (omega arith) refl (sym w.if-not-number_is.ensures));
  }
  | else-before-key w ↦ record {
    fewer = omega arith;
    so_far =
        let r = c.in-Some.ensures in
        rw w.j-is
        (indexed_same c.loop-e.invariant.so_far c.args.twos.now.walk.known.shadowed.proper (inside (goal.at.loop-e-preserved c).In-loop-e) r.0 r.1 (omega arith));
  }
]

pub number_is-requires-2 : goal.number_is-requires-2
number_is-requires-2 c = few (goal.at.number_is-requires-2 c).At-loop-e

pub returns : goal.returns
returns c =
    let L = c.requires in
    c.number_is-2.ensures
    ∙ indexed_all c.loop-e.invariant.so_far c.args.twos.now.walk.known.shadowed.proper (omega (arith, L.long5)) (λ i l. omega (arith, c.type_inv.part i))
    (λ i l. omega (arith, c.type_inv.firsts i)) L (omega (arith, L.long5))
