-- Each turn puts the count and counts on to the next sample.
use Rattle.std.proofs.Common.{arith, ℕ, ◌+◌, ◌*◌, ◌/◌, ◌≤◌, ◌<◌, ◌≡◌, sym, ap, ◌∙◌}
use Rattle.std.proofs.Math.Nat.{mul-le-mul_left}
use Rattle.format.specs.Trits.{rank}
use Rattle.format.proofs.Laws.{rank_count}
use Rattle.format.proofs.Over.{over_done}
use Rattle.proper.specs.Held.{trits_in}
use Rattle.proper.specs.Places.{spot}
use Rattle.proper.proofs.TwoLaws.{last_low, filling_none, filling_put}
use Rattle.proper.proofs.placed.sample_twos.Goals as goal
use Rattle.proper.proofs.placed.sample_twos.Goals.{At-loop-i, After-min-end}

-- a sample fits 16 bits
few : (c : At-loop-i) → c.loop-i.n < 65536
few c =
    let trits = trits_in c.args.trits.now in
    omega (arith, c.loop-i.invariant.reached, rank_count 2 trits (5 * spot trits c.args.step c.loop-i.i), c.requires.3)

-- where a turn counts from and to
from : (c : After-min-end) → let x = c.args in let trits = trits_in x.trits.now in
    (c.min-from.result ≡ spot trits x.step c.loop-i.i) × (c.min-end.result ≡ spot trits x.step (c.loop-i.i + 1)) × (c.min-from.result ≤ c.min-end.result)
from c =
    let n = c.args.trits.now.counted in
    let a : c.args.step * c.loop-i.i ≤ c.args.step * (c.loop-i.i + 1) = mul-le-mul_left c.args.step (omega arith) in
    (omega (arith, n), omega (arith, n), omega arith)

pub loop-i-init : goal.loop-i-init
loop-i-init c =
    let p = c.requires in
    let t = c.args.trits.now in
    filling_none (trits_in t) c.args.step c.args.twos.now (rw (t.counted, p.1) (last_low p.2))

pub overflow_cast-twos : goal.overflow_cast-twos
overflow_cast-twos c = omega (arith, few (goal.at.overflow_cast-twos c).At-loop-i)

pub twos_to-n-requires : goal.twos_to-n-requires
twos_to-n-requires c =
    let f = from (goal.at.twos_to-n-requires c).After-min-end in
    let on : ℕ → ℕ = λ k. rank 2 (trits_in c.args.trits.now) (5 * k) in
    (c.requires.0, f.2, omega arith, c.loop-i.invariant.reached ∙ sym (ap on f.0))

pub loop-i-preserved : goal.loop-i-preserved
loop-i-preserved c =
    let t = c.args.trits.now in
    let F = c.loop-i.invariant in
    let f = from (goal.at.loop-i-preserved c).After-min-end in
    let on : ℕ → ℕ = λ k. rank 2 (trits_in t) (5 * k) in
    record { reached = c.twos_to-n.ensures ∙ ap on f.1; put = filling_put F (rw t.counted (omega arith)) }

pub overflow_cast-twos-2 : goal.overflow_cast-twos-2
overflow_cast-twos-2 c = omega (arith, few (goal.at.overflow_cast-twos-2 c).At-loop-i)

pub returns : goal.returns
returns c =
    let n = c.args.trits.now.counted in
    let e : (c.args.trits.now.count / 5 + 6) / c.args.step ≡ c.loop-i.i = omega arith in
    rw e (over_done (filling_put c.loop-i.invariant (rw n (omega arith))) (rw n (omega arith)))
