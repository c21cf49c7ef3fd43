-- Whole trytes, and part of one.
use Rattle.std.proofs.Common.{arith, ◌+◌, ◌*◌, ◌/◌, ◌%◌, ◌^◌, ◌≡◌, ap, ◌∙◌, ℕ}
use Rattle.std.proofs.Math.Nat.{mod-le}
use Rattle.format.specs.Trits.{rank, tryte_count}
use Rattle.proper.specs.Held.{trits_in}
use Rattle.trits.specs.Search.{Tryte}
use Rattle.trits.proofs.Trytes.{rank_more}
use Rattle.proper.proofs.TwoLaws.{tryte_inside, tryte_in, few_twos, front_twos}
use Rattle.proper.proofs.placed.Twos.before.Goals as goal
use Rattle.proper.proofs.placed.Twos.before.Goals.{Joined-self-eq8, After-from, After-two_count, then-self-eq8, else-self-eq8}

-- those before its tryte
whole : (c : Joined-self-eq8) → let s = c.args.self.now in c.if-self-eq8.whole ≡ rank 2 (trits_in s.walk.trits) (5 * (c.args.p / 5))
whole c = elim c.if-self-eq8.branch [
  | then-self-eq8 w ↦ w.whole-is ∙ w.near-whole.ensures
  | else-self-eq8 w ↦ w.whole-is ∙ w.near-whole-else-self-eq8.ensures
]

-- its tryte
here : (c : After-from) → let s = c.args.self.now in Tryte (trits_in s.walk.trits) (c.args.p / 5) c.from.result
here c = let s = c.args.self.now in tryte_in s.walk.trits.trits_in (c.args.p / 5) (omega (arith, s.walk.trits.counted)) c.from.ensures

summed : (c : After-two_count) → let s = c.args.self.now in c.if-self-eq8.whole ≡ rank 2 (trits_in s.walk.trits) (5 * (c.args.p / 5)) → c.if-self-eq8.whole + c.two_count.result ≡ rank 2 (trits_in s.walk.trits) c.args.p
summed c w =
    let s = c.args.self.now in
    let e : 5 * (c.args.p / 5) + c.args.p % 5 ≡ c.args.p = omega arith in
    let x : Tryte (trits_in s.walk.trits) (c.args.p / 5) c.from.result = tryte_in s.walk.trits.trits_in (c.args.p / 5) (omega (arith, s.walk.trits.counted)) c.from.ensures in
    omega (
      arith,
      w,
      c.two_count.ensures.0 ∙ ap (λ (k : ℕ). tryte_count 2 k 5) c.tryte_cut-front.ensures ∙ front_twos c.from.result (c.args.p % 5) x.low (omega arith),
      rw e at (rank_more x 2 (c.args.p % 5) (omega arith) (omega arith)),
    )

pub bounds-self-q : goal.bounds-self-q
bounds-self-q c = let s = c.args.self.now in tryte_inside s.walk.trits.trits_in (c.args.p / 5) (omega (arith, s.walk.trits.counted))

pub two_count-requires : goal.two_count-requires
two_count-requires c =
    let s = c.args.self.now in
    (s.counted, omega (arith, c.tryte_cut-front.ensures, mod-le c.from.result (3 ^ (c.args.p % 5)), (here (goal.at.two_count-requires c).After-from).low))

pub overflow_add-result : goal.overflow_add-result
overflow_add-result c = let s = c.args.self.now in omega (arith, summed (goal.at.overflow_add-result c).After-two_count (whole (goal.at.overflow_add-result c).Joined-self-eq8), few_twos s.walk.trits.trits_in c.args.p)

pub returns : goal.returns
returns c = summed (goal.at.returns c).After-two_count (whole (goal.at.returns c).Joined-self-eq8)
