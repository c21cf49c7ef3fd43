-- The twos before a place, counted tryte by tryte from the nearest sample. Assumes nothing.
use Prim.Native.Nat.{ℕ, ◌+◌, ◌-◌, ◌*◌, ◌/◌, ◌%◌, ◌^◌, ◌≤◌, ◌<◌, min}
use native.Mathlib.Nat.{mul-zero, mul-one, mul_comm, mul-add, mul-le-mul_left, lt_of_mul-lt-mul_left, mul-div-le, lt-mul-div-succ, div-lt_iff_lt-mul, le-div_iff_mul-le, mod-le}
use native.Mathlib.Omega.{arith}
use mathlib.Core.Path.{◌≡◌, refl, sym, ap, ◌∙◌}
use mathlib.Core.Bool.{Bool, true, false}
use mathlib.Core.List.{List}
use mir.Val.{bool_byte}
use lib.Dec.{leb, ltb, lit<}
use lib.ListN.{length, get_or, set, take, drop, length-take}
use lib.Seq.{get_or-take, get_or-drop}
use borrow.Author.Tests.{leb-false, ltb-true, ltb-false}
use Rattle.format.specs.Lists.{bit, over, up, low_digits, spread}
use Rattle.format.specs.Trits.{rank, trytes, tryte_count}
use Rattle.format.proofs.Laws.{length_each, get_or_each, rank_zero, rank_count, rank_three, count_le}
use Rattle.format.proofs.Digits.{below_digits, length_digits, lt_up, spread_gather_at}
use Rattle.format.proofs.Over.{Over, over_none, over_next, over_all, over_in}
use Rattle.format.proofs.Sizes.{length_trytes}
use Rattle.format.proofs.ImageReads.{below_gather}
use Rattle.trits.specs.Search.{Tryte}
use Rattle.trits.proofs.Trytes.{five_trits, entry_parts, cut_entry, rank_next}
use Rattle.samples.specs.Lent.{TritsIn}
use Rattle.proper.specs.Places.{step_for, Spaced, spot, two_samples, TwosAt}

module _ {trits bs : List ℕ} (T : TritsIn trits bs) where
  pub trit_in : (p : ℕ) → get_or (spread 3 5 bs) p 0 ≡ get_or trits p 0
  unfolding trytes
  trit_in p = rw T.trytes_are (spread_gather_at 3 5 (lit< tt) (lit< tt) trits T.threes p)

  pub tryte_inside : (q : ℕ) → 5 * q < length trits → q < length bs
  tryte_inside q l = omega (arith, lt_up (length trits) 5 (lit< tt) q l, length_trytes trits, ap length T.trytes_are)

  pub tryte_in : {x : ℕ} (q : ℕ) → 5 * q < length trits → x ≡ get_or bs q 0 → Tryte trits q x
  unfolding trytes
  tryte_in q l e =
      let is : get_or bs q 0 ≡ get_or (trytes trits) q 0 = ap (λ (b : List ℕ). get_or b q 0) T.trytes_are in
      let held : q < length (trytes trits) = rw (← T.trytes_are) (tryte_inside q l) in
      record { threes = T.threes; is = e ∙ is; low = rw (e, is) (below_gather 3 5 (lit< tt) (lit< tt) trits T.threes q held) }

  -- one of the trytes from `from` on
  pub tryte_from : {x : ℕ} (from n i : ℕ) → i < length (take n (drop from bs)) → 5 * (from + n) ≤ length trits → x ≡ get_or (take n (drop from bs)) i 0 → Tryte trits (from + i) x
  tryte_from from n i l h e =
      let t : i < min n (length (drop from bs)) = rw length-take at l in
      tryte_in (from + i) (omega arith) (e ∙ get_or-take n (drop from bs) i 0 (omega arith) ∙ get_or-drop from bs i 0)

  pub trytes_many : length bs ≡ up (length trits) 5
  trytes_many = ap length T.trytes_are ∙ length_trytes trits

  pub few_twos : (p : ℕ) → rank 2 trits p ≤ 125536
  few_twos p = omega (arith, rank_count 2 trits p, count_le 2 trits, T.few)

-- ---- the twos in part of a tryte

-- a tryte cut behind its first r trits has zeros in place of the others
pub front_twos : (x r : ℕ) → x < 243 → r < 5 → tryte_count 2 (x % 3 ^ r) 5 ≡ tryte_count 2 x r
unfolding tryte_count rank
front_twos x r l h =
    omega (
      arith,
      entry_parts (x % 3 ^ r) _ (omega (arith, mod-le x (3 ^ r))) refl,
      five_trits (x % 3 ^ r),
      cut_entry x r l h,
      rank_three (low_digits 3 5 x) (below_digits 3 5 x (lit< tt)) r (omega (arith, length_digits 3 5 x)),
    )

-- ---- the samples

-- the last one is among the 2,048
module _ {l step : ℕ} (S : Spaced l step) where
  pub last_low : (l / 5 + 6) / step < 2048
  last_low = (div-lt_iff_lt-mul {k = step} {x = l / 5 + 6} {y = 2048} S.some).1 S.enough

  pub last_spot : (i : ℕ) → i ≤ (l / 5 + 6) / step → step * i ≤ l / 5 + 6
  last_spot i h = omega (arith, mul-le-mul_left step h, mul-div-le (l / 5 + 6) step)

-- 8 or 13 trytes from sample to sample
pub spaced : {l : ℕ} → l ≤ 125536 → Spaced l (step_for l)
unfolding step_for
spaced {l} h = go (leb 81880 l) refl
  where
    go : (t : Bool) → leb 81880 l ≡ t → Spaced l (8 + 5 * bit t)
    go true e = record { some = lit< tt; other = λ n. refl; enough = omega arith }
    go false e = record { some = lit< tt; other = λ n. absurd (n refl); enough = omega (arith, leb-false 81880 l e) }

-- the samples before i are put over `old`, and n twos stand before sample i
pub record Filling (trits : List ℕ) (step i n : ℕ) (old twos : List ℕ) : Type 0 where
  pub reached : n ≡ rank 2 trits (5 * spot trits step i)
  pub put : Over (two_samples trits step) ((length trits / 5 + 6) / step + 1) old twos i

module _ (trits : List ℕ) (step : ℕ) (old : List ℕ) (room : (length trits / 5 + 6) / step < length old) where
  abbrev last : ℕ
  last = (length trits / 5 + 6) / step

  size : length (two_samples trits step) ≡ last + 1
  unfolding two_samples
  size = length_each (last + 1) _

  pub filling_none : Filling trits step 0 0 old old
  filling_none =
      let e : 5 * spot trits step 0 ≡ 0 = omega (arith, mul-zero step) in
      record { reached = rw e (sym (rank_zero 2 trits)); put = over_none (two_samples trits step) (last + 1) old size (omega arith) }

  -- a list that begins with the samples has them
  pub samples_at : 0 < step → TwosAt trits step (over (two_samples trits step) old)
  unfolding two_samples
  samples_at s i h =
      let l : i ≤ last = (le-div_iff_mul-le {k = step} {x = i} {y = length trits / 5 + 6} s).1 (omega (arith, mul_comm i step)) in
      over_in (over_all (two_samples trits step) (last + 1) old size (omega arith)) i (omega arith) ∙ get_or_each (last + 1) _ i 0 (omega arith)

pub filling_put : {trits old twos : List ℕ} {step i n : ℕ} → Filling trits step i n old twos → i ≤ (length trits / 5 + 6) / step
    → Over (two_samples trits step) ((length trits / 5 + 6) / step + 1) old (set twos i n) (i + 1)
unfolding two_samples
filling_put {trits} {step = step} {i} {n} F l =
    over_next F.put (omega arith) n (F.reached ∙ sym (get_or_each ((length trits / 5 + 6) / step + 1) (λ (j : ℕ). rank 2 trits (5 * spot trits step j)) i 0 (omega arith)))

-- ---- the nearest sample to tryte q

pub record Near (l step half q i : ℕ) : Type 0 where
  pub low : i < 2048
  pub early : step * i ≤ l / 5 + 6
  pub ahead : step * i ≤ q + half
  pub behind : q ≤ step * i + half

pub near : {l step half q : ℕ} → Spaced l step → half ≤ 6 → step ≤ 2 * half + 1 → 5 * q < l → Near l step half q ((q + half) / step)
near {l} {step} {half} {q} S h w b =
    let i : ℕ = (q + half) / step in
    let a : step * i ≤ q + half = mul-div-le (q + half) step in
    let e : step * i ≤ l / 5 + 6 = omega arith in
    record {
      low = lt_of_mul-lt-mul_left step (omega (arith, S.enough, mul_comm step 2048));
      early = e;
      ahead = a;
      behind = omega (arith, lt-mul-div-succ (q + half) {b = step} S.some, mul-add step i 1, mul-one step);
    }

-- it has the twos before its tryte
pub nearest_is : (trits samples : List ℕ) {l step half at : ℕ} (q : ℕ) → Spaced l step → TwosAt trits step samples → length trits ≡ l → half ≤ 6 → step ≤ 2 * half + 1 → 5 * q < l
    → at ≡ min (l / 5) (step * ((q + half) / step)) → get_or samples ((q + half) / step) 0 ≡ rank 2 trits (5 * at)
nearest_is trits samples {l} {step} {half} {at} q S W n h w b e =
    let i : ℕ = (q + half) / step in
    let near_by : Near l step half q i = near S h w b in
    let es : spot trits step i ≡ at = omega arith in
    W i (omega arith) ∙ ap (λ (k : ℕ). rank 2 trits (5 * k)) es

-- the twos counted from the earlier of two trytes to the later
module _ (trits : List ℕ) (n : ℕ) {q at from : ℕ} (ef : from ≡ min q at) (s : rank 2 trits (5 * from) + n ≡ rank 2 trits (5 * (at + q - from))) where
  pub counted_back : q < at → rank 2 trits (5 * q) + n ≡ rank 2 trits (5 * at)
  counted_back h = let a : from ≡ q = omega arith in let b : at + q - q ≡ at = omega arith in rw (a, b) at s

  pub counted_on : at ≤ q → rank 2 trits (5 * at) + n ≡ rank 2 trits (5 * q)
  counted_on h = let a : from ≡ at = omega arith in let b : at + q - at ≡ q = omega arith in rw (a, b) at s

-- ---- the twos between two trytes

-- the smaller of two numbers
abbrev pub least : ℕ → ℕ → ℕ
least a b = a - (a - b)

pub counts_small : (t : Bool) {one c : ℕ} → one ≡ bool_byte t → c ≤ 5 → one * c ≤ 5
counts_small true {one} e h = let i : one ≡ 1 = e in rw i (omega arith)
counts_small false {one} e h = let i : one ≡ 0 = e in rw i (omega arith)

-- one turn: a tryte before the end counts
pub between_next : {trits : List ℕ} (from end d n : ℕ) {one x c : ℕ} (t : Bool) → ltb (from + d) end ≡ t → one ≡ bool_byte t → (from + d < end → Tryte trits (from + d) x)
    → 5 * end ≤ length trits → c ≡ tryte_count 2 x 5
    → rank 2 trits (5 * from) + n ≡ rank 2 trits (5 * least (from + d) end) → rank 2 trits (5 * from) + (n + one * c) ≡ rank 2 trits (5 * least (from + (d + 1)) end)
between_next from end d n {one} true e eo T l ec h =
    let before : from + d < end = ltb-true (from + d) end e in
    let a : least (from + d) end ≡ from + d = omega arith in
    let b : least (from + (d + 1)) end ≡ from + d + 1 = omega arith in
    let o : one ≡ 1 = eo in
    rw (b, o) (omega (arith, rw a at h, ec, rank_next (T before) 2 (omega arith)))
between_next from end d n {one} false e eo T l ec h =
    let past : end ≤ from + d = ltb-false (from + d) end e in
    let a : least (from + (d + 1)) end ≡ least (from + d) end = omega arith in
    let o : one ≡ 0 = eo in
    rw (a, o) (omega (arith, h))
