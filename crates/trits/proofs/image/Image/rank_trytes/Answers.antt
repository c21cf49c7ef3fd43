-- A turn before `end` adds a tryte; past it nothing changes.
use Rattle.std.proofs.Common.{ℕ, ◌≡◌, ◌+◌, ◌*◌, ◌≤◌, ◌<◌, ◌∙◌, ap, length, arith}
use native.Mathlib.Decide.{dec_le}
use Rattle.format.specs.Proper.{trits_of}
use Rattle.trits.specs.Search.{ranks_of}
use Rattle.trits.proofs.Levels.{few}
use Rattle.trits.proofs.Trytes.{Capped, both, trits_is, capped, capped_few, capped_more, capped_stay}
use Rattle.trits.proofs.image.Image.rank_trytes.Goals as goal
use Rattle.trits.proofs.image.Image.rank_trytes.Goals.{In-loop-q, After-last_tryte-last, Joined-q-end, then-q-end, else-q-end}

pub overflow_mul-from : goal.overflow_mul-from
overflow_mul-from c = omega (arith, c.requires.0, c.requires.2, few c.args.self.now.laid.whole)

pub returns-then-trits-from : goal.returns-then-trits-from
returns-then-trits-from c =
    let e : c.args.from ≡ c.args.end = omega (arith, c.if-trits-from.true, trits_is c.args.self.now.laid) in
    c.requires.3 ∙ ap (λ (k : ℕ). ranks_of (trits_of c.args.self.now.bytes.now) (5 * k)) e

pub last_tryte-last-requires : goal.last_tryte-last-requires
last_tryte-last-requires c = omega (arith, c.if-trits-from.false, few c.args.self.now.laid.whole, trits_is c.args.self.now.laid)

pub loop-q-init : goal.loop-q-init
loop-q-init c =
    record {
      zeros = capped c.requires.0 (ap (λ r. r.zeros) c.requires.3);
      ones = capped c.requires.0 (ap (λ r. r.ones) c.requires.3);
    }

-- there is a tryte to read
there : (c : In-loop-q) → 5 * c.loop-q.q < length (trits_of c.args.self.now.bytes.now)
there c = omega (arith, c.last_tryte-last.ensures, trits_is c.args.self.now.laid)

pub tryte-requires : goal.tryte-requires
tryte-requires c = there c

-- the counts are small
pub add-sum-requires : goal.add-sum-requires
add-sum-requires c =
    let w = c.args.self.now.laid.whole in
    let v = c.loop-q.invariant in
    (omega (arith, capped_few w v.zeros, c.tryte_ranks-more.ensures.1), omega (arith, capped_few w v.ones, c.tryte_ranks-more.ensures.1))

-- a turn leaves the zeros and ones before the next tryte
turn : (c : Joined-q-end) → let a = c.args in let xs = trits_of a.self.now.bytes.now in
    Capped 0 xs a.end (c.loop-q.q + 1) c.if-q-end.sum.zeros × Capped 1 xs a.end (c.loop-q.q + 1) c.if-q-end.sum.ones
turn c =
    let v = c.loop-q.invariant in
    let e = c.tryte_ranks-more.ensures.0 in
    elim c.if-q-end.branch [
      | then-q-end w ↦ rw (w.sum-is, w.add-sum.ensures) (
        capped_more v.zeros c.tryte.ensures (ap (λ r. r.zeros) e) c.requires.2 (omega arith),
        capped_more v.ones c.tryte.ensures (ap (λ r. r.ones) e) c.requires.2 (omega arith),
      )
      | else-q-end w ↦ rw w.sum-is (capped_stay v.zeros (omega arith), capped_stay v.ones (omega arith))
    ]

pub loop-q-preserved : goal.loop-q-preserved
loop-q-preserved c = let n = turn (goal.at.loop-q-preserved c).Joined-q-end in record { zeros = n.0; ones = n.1 }

-- past the last tryte of the block, or of all, `end` is passed
ends : (from last end L q : ℕ) → (last < from + 4 → L ≤ 5 * (last + 1)) → end ≤ from + 4 → 5 * end ≤ L → last < q → end ≤ q
ends from last end L q short h l past = go (dec_le (from + 4) last)
  where
    go : Dec (from + 4 ≤ last) → end ≤ q
    go (yes y) = omega arith
    go (no y) = omega (arith, short (omega arith))

passed : (c : After-last_tryte-last) → (q : ℕ) → c.last_tryte-last.result < q → c.args.end ≤ q
passed c q l =
    ends c.args.from c.last_tryte-last.result _ c.args.self.now.lay.trits q c.last_tryte-last.ensures.3 c.requires.1 (omega (arith, c.requires.2, trits_is c.args.self.now.laid)) l

pub returns-after-q-end : goal.returns-after-q-end
returns-after-q-end c =
    let n = turn (goal.at.returns-after-q-end c).Joined-q-end in
    let h = passed (goal.at.returns-after-q-end c).After-last_tryte-last (c.loop-q.q + 1) (omega arith) in
    both (n.0.past h) (n.1.past h)

pub returns-else-trits-from : goal.returns-else-trits-from
returns-else-trits-from c =
    let h = passed (goal.at.returns-else-trits-from c).After-last_tryte-last c.loop-q.q (omega arith) in
    both (c.loop-q.invariant.zeros.past h) (c.loop-q.invariant.ones.past h)
