-- Five trits, one after the other, by `took_more`.
use Rattle.std.proofs.Common.{◌≡◌, ap, arith, ℕ, ◌*◌, ◌^◌, add-one}
use Rattle.std.proofs.Math.Nat.{pow-succ', mul-le-mul_left}
use Rattle.packing.proofs.StreamLaws.{took_zero, took_more, weights}
use Rattle.packing.proofs.stream.Stream.next_tryte.Goals as goal

pub loop-weight-init : goal.loop-weight-init
loop-weight-init c = record { small = omega arith; took = λ left r. took_zero r }

pub next_trit-requires : goal.next_trit-requires
next_trit-requires c =
    let s = c.requires in
    let t = c.loop-weight.invariant.took s.left s.rest in
    record { left = t.next; rest = t.rest }

pub overflow_add-value : goal.overflow_add-value
overflow_add-value c =
    let i = c.loop-weight.weight-index in
    let w = weights i c.loop-weight-test.true in
    omega (arith, w.1, mul-le-mul_left (3 ^ i) c.next_trit.ensures.0, ap (λ (k : ℕ). k * c.next_trit.result) w.0)

pub loop-weight-preserved : goal.loop-weight-preserved
loop-weight-preserved c =
    let l = c.loop-weight in
    let i = l.weight-index in
    let w = weights i c.loop-weight-test.true in
    record {
      small = omega (arith, mul-le-mul_left (3 ^ i) c.next_trit.ensures.0, ap (λ (k : ℕ). k * c.next_trit.result) w.0, ap (λ (k : ℕ). 3 ^ k) (add-one i), pow-succ' 3 i);
      took = λ left r. let t = l.invariant.took left r in rw w.0 (took_more t (c.next_trit.ensures.1 t.next t.rest));
    }

pub returns : goal.returns
returns c =
    let l = c.loop-weight in
    let e : l.weight-index ≡ 5 = omega arith in
    (omega (arith, ap (λ (k : ℕ). 3 ^ k) e), rw e at l.invariant.took)
