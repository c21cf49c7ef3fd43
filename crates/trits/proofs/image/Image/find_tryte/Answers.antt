-- The loop keeps `Scanning`; the last tryte ends the block, or all trits.
use Rattle.std.proofs.Common.{ℕ, ◌≡◌, ◌+◌, ◌*◌, ◌≤◌, ◌<◌, List, length, arith}
use native.Mathlib.Decide.{dec_le}
use Rattle.format.specs.Trits.{rank}
use Rattle.format.specs.Proper.{trits_of}
use Rattle.format.proofs.Laws.{rank_past, rank_mono, rank_count}
use Rattle.trits.proofs.Levels.{few}
use Rattle.trits.proofs.Searching.{inside, rank_few}
use Rattle.trits.proofs.Trytes.{scan_past, scan_stay, scan_done, rank_next, trits_is}
use Rattle.trits.proofs.image.Image.find_tryte.Goals as goal
use Rattle.trits.proofs.image.Image.find_tryte.Goals.{In-loop-q, After-tryte_count-n, then-n-j, else-n-j}

pub overflow_mul-first : goal.overflow_mul-first
overflow_mul-first c = omega (arith, few c.args.self.now.laid.whole, inside c.requires.1)

pub last_tryte-last-requires : goal.last_tryte-last-requires
last_tryte-last-requires c = omega (arith, few c.args.self.now.laid.whole, inside c.requires.1, trits_is c.args.self.now.laid)

pub loop-q-init : goal.loop-q-init
loop-q-init c =
    let P = c.requires.1 in
    let e : 5 * (5 * c.args.s.at) ≡ 25 * c.args.s.at = omega arith in
    record {
      from = omega arith;
      to = omega (arith, c.last_tryte-last.ensures);
      counted = rw e P.counted;
      between = rw e P;
      passed = λ k. absurd (omega arith);
    }

-- there is a whole tryte to read
there : (c : In-loop-q) → 5 * c.loop-q.q + 5 ≤ length (trits_of c.args.self.now.bytes.now)
there c = omega (arith, c.loop-q-test.true, c.last_tryte-last.ensures, trits_is c.args.self.now.laid)

pub tryte-requires : goal.tryte-requires
tryte-requires c = omega (arith, there c)

-- one tryte more
next : (c : After-tryte_count-n) → let x = c.args in
    c.loop-q.n + c.tryte_count-n.result ≡ rank x.t (trits_of x.self.now.bytes.now) (5 * (c.loop-q.q + 1))
next c =
    let w : 5 * c.loop-q.q + 5 ≤ length (trits_of c.args.self.now.bytes.now) =
    omega (arith, c.loop-q-test.true, c.last_tryte-last.ensures, trits_is c.args.self.now.laid) in
    omega (arith, c.loop-q.invariant.counted, c.tryte_count-n.ensures.0, rank_next c.tryte.ensures c.args.t w)

pub overflow_add-n : goal.overflow_add-n
overflow_add-n c =
    omega (arith, next ((goal.at.overflow_add-n c).After-tryte_count-n), rank_few c.args.self.now.laid.whole c.args.t (5 * (c.loop-q.q + 1)))

pub loop-q-preserved : goal.loop-q-preserved
loop-q-preserved c =
    let n = next ((goal.at.loop-q-preserved c).After-tryte_count-n) in
    elim c.if-n-j.branch [
      | then-n-j w ↦ rw w.found-is (scan_past c.loop-q.invariant c.loop-q-test.true n (omega arith))
      | else-n-j w ↦ rw w.found-is (scan_stay c.loop-q.invariant c.loop-q-test.true n (omega arith))
    ]

-- the last tryte ends the block, or all trits
through : (t : ℕ) (xs : List ℕ) (block last : ℕ) → last ≤ 5 * block + 4 → (last < 5 * block + 4 → length xs ≤ 5 * (last + 1)) → rank t xs (25 * (block + 1)) ≤ rank t xs (5 * (last + 1))
through t xs block last h short = go (dec_le (5 * block + 4) last)
  where
    go : Dec (5 * block + 4 ≤ last) → rank t xs (25 * (block + 1)) ≤ rank t xs (5 * (last + 1))
    go (yes y) = rank_mono t xs (25 * (block + 1)) (5 * (last + 1)) (omega arith)
    go (no y) = omega (arith, rank_past t xs (5 * (last + 1)) (short (omega arith)), rank_count t xs (25 * (block + 1)))

pub returns : goal.returns
returns c =
    let xs = trits_of c.args.self.now.bytes.now in
    let last = c.last_tryte-last.result in
    scan_done c.loop-q.invariant (omega (arith, c.loop-q.invariant.to))
    (λ e. through c.args.t xs c.args.s.at last c.last_tryte-last.ensures.1 (λ h. rw (trits_is c.args.self.now.laid) at (c.last_tryte-last.ensures.3 h)))
