-- Rank and the search by trytes and trits: a tryte x of the trits counts on from its first place, and division takes its trits off. Assumes nothing.
use Prim.Native.Nat.{ℕ, zero, suc, ◌+◌, ◌-◌, ◌*◌, ◌/◌, ◌%◌, ◌^◌, ◌≤◌, ◌<◌}
use native.Mathlib.Nat.{zero-add}
use native.Mathlib.Omega.{arith}
use native.Mathlib.Decide.{dec_le}
use mathlib.Core.Path.{◌≡◌, refl, sym, ap, ◌∙◌}
use mathlib.Core.Bool.{Bool, true, ◌&&◌, cond}
use mathlib.Core.List.{List}
use lib.Dec.{eqb, ltb, lit<, lit≤}
use lib.ListN.{length, get_or, drop}
use lib.Seq.{get_or-take, get_or-drop}
use borrow.Author.Tests.{eqb-true, ltb-true, lt-ltb}
use Rattle.format.specs.Lists.{bit, run, every, low_digits, spread}
use Rattle.format.specs.Image.{section1}
use Rattle.format.specs.Proper.{trits_of, Whole}
use Rattle.format.specs.Trits.{rank, trytes, tryte_count, tryte_table, Selected}
use Rattle.format.proofs.Laws.{both_true, every_run, rank_past, rank_mono, rank_three, rank_le}
use Rattle.format.proofs.Digits.{below_digits, length_digits, digits_at, spread_at, lt_up}
use Rattle.format.proofs.Select.{rank_tryte, trit_at}
use Rattle.format.proofs.Tryte.{tryte_entry}
use Rattle.format.proofs.Sizes.{length_trytes}
use Rattle.format.proofs.ImageReads.{below_gather, byte_inside, byte_reads}
use Rattle.format.proofs.OnImage.{proper, sectioned}
use Rattle.trits.specs.declared.Layout.{Layout}
use Rattle.trits.specs.declared.Ranks.{Ranks}
use Rattle.trits.specs.Layout.{layout_of, Laid}
use Rattle.trits.specs.Search.{Tryte, PlaceIn, Between, ranks_of, front_of}
use Rattle.trits.proofs.Searching.{rank_few, inside, later, sooner}

-- the zeros are the same, and the ones
pub both : {z z' o o' : ℕ} → z ≡ z' → o ≡ o' → ◌≡◌ {A = Ranks} (record { zeros = z; ones = o }) (record { zeros = z'; ones = o' })
both p q = λ i. record { zeros = p i; ones = q i }

-- ---- one tryte

-- trit r of tryte q
pub trit_of_lem : (bs : List ℕ) (q r : ℕ) → q < length bs → r < 5 → get_or (spread 3 5 bs) (5 * q + r) 0 ≡ get_or bs q 0 / 3 ^ r % 3
trit_of_lem bs q r l h =
    sym (get_or-take 5 (drop (5 * q) (spread 3 5 bs)) r 0 h ∙ get_or-drop (5 * q) (spread 3 5 bs) r 0)
    ∙ ap (λ (ds : List ℕ). get_or ds r 0) (spread_at 3 5 bs q l)
    ∙ digits_at 3 5 (get_or bs q 0) r h

pub count_few : (t x r : ℕ) → tryte_count t x r ≤ r
unfolding tryte_count rank
count_few t x r = rank_le t (low_digits 3 5 x) r

count_mono : (t x r s : ℕ) → r ≤ s → tryte_count t x r ≤ tryte_count t x s
unfolding tryte_count rank
count_mono t x r s h = rank_mono t (low_digits 3 5 x) r s h

-- a tryte has five trits
pub five_trits : (x : ℕ) → tryte_count 0 x 5 + tryte_count 1 x 5 + tryte_count 2 x 5 ≡ 5
unfolding tryte_count rank
five_trits x = rank_three (low_digits 3 5 x) (below_digits 3 5 x (lit< tt)) 5 (omega (arith, length_digits 3 5 x))

-- a table entry, taken apart
pub record Parts (x e : ℕ) : Type 0 where
  pub zeros : e % 8 ≡ tryte_count 0 x 5
  pub ones : e / 8 ≡ tryte_count 1 x 5

pub entry_parts : (x e : ℕ) → x < 243 → e ≡ get_or tryte_table x 0 → Parts x e
entry_parts x e h is = omega (arith, tryte_entry x h, count_few 0 x 5, count_few 1 x 5)

every_from : (f : ℕ → Bool) (n : ℕ) → every f (run 0 n) ≡ true → (i : ℕ) → i < n → f i ≡ true
every_from f n e i l = ap f (sym (zero-add i)) ∙ every_run f 0 n e i l

-- a tryte cut behind its first r trits: the others count as zeros. Computed once over all trytes.
cut_right : ℕ → Bool
unfolding tryte_count
cut_right x = every (λ r. eqb (tryte_count 0 (x % 3 ^ r) 5) (tryte_count 0 x r + (5 - r)) && eqb (tryte_count 1 (x % 3 ^ r) 5) (tryte_count 1 x r)) (run 0 5)

all_cut : every cut_right (run 0 243) ≡ true
unfolding cut_right
all_cut = refl

pub cut_counts : (x r : ℕ) → x < 243 → r < 5 → (tryte_count 0 (x % 3 ^ r) 5 ≡ tryte_count 0 x r + (5 - r)) × (tryte_count 1 (x % 3 ^ r) 5 ≡ tryte_count 1 x r)
unfolding cut_right
cut_counts x r h l =
    let both =
    both_true (eqb (tryte_count 0 (x % 3 ^ r) 5) (tryte_count 0 x r + (5 - r))) _
    (every_from (λ r. eqb (tryte_count 0 (x % 3 ^ r) 5) (tryte_count 0 x r + (5 - r)) && eqb (tryte_count 1 (x % 3 ^ r) 5) (tryte_count 1 x r)) 5 (every_from cut_right 243 all_cut x h) r l) in
    (eqb-true _ _ both.0, eqb-true _ _ both.1)

-- the same of the table's entry
cut_entry_right : ℕ → Bool
unfolding tryte_count
cut_entry_right x = every (λ r. eqb (get_or tryte_table (x % 3 ^ r) 0) (tryte_count 0 x r + (5 - r) + 8 * tryte_count 1 x r)) (run 0 5)

all_cut_entries : every cut_entry_right (run 0 243) ≡ true
unfolding cut_entry_right
all_cut_entries = refl

pub cut_entry : (x r : ℕ) → x < 243 → r < 5 → get_or tryte_table (x % 3 ^ r) 0 ≡ tryte_count 0 x r + (5 - r) + 8 * tryte_count 1 x r
unfolding cut_entry_right
cut_entry x r h l =
    eqb-true _ _ (every_from (λ r. eqb (get_or tryte_table (x % 3 ^ r) 0) (tryte_count 0 x r + (5 - r) + 8 * tryte_count 1 x r)) 5 (every_from cut_entry_right 243 all_cut_entries x h) r l)

-- the product is the quotient, for every byte
rest_right : ℕ → Bool
rest_right x = every (λ r. eqb (x * (65536 / 3 ^ r + 1) / 65536) (x / 3 ^ r)) (run 0 5)

all_rest : every rest_right (run 0 256) ≡ true
unfolding rest_right
all_rest = refl

pub rest_is : (x r : ℕ) → x < 256 → r < 5 → x * (65536 / 3 ^ r + 1) / 65536 ≡ x / 3 ^ r
unfolding rest_right
rest_is x r h l = eqb-true _ _ (every_from (λ r. eqb (x * (65536 / 3 ^ r + 1) / 65536) (x / 3 ^ r)) 5 (every_from rest_right 256 all_rest x h) r l)

-- ---- tryte q of the trits

pub at1_is : {b : List ℕ} {lay : Layout} → Laid b lay → lay.at1 ≡ 4
unfolding layout_of
at1_is L = ap (λ (l : Layout). l.at1) L.is

pub trits_is : {b : List ℕ} {lay : Layout} → Laid b lay → lay.trits ≡ length (trits_of b)
unfolding layout_of
trits_is L = ap (λ (l : Layout). l.trits) L.is

module _ {b : List ℕ} (w : Whole b) (q : ℕ) (l : 5 * q < length (trits_of b)) where
  abbrev xs : List ℕ
  xs = trits_of b

  held : q < length (trytes xs)
  held = omega (arith, lt_up (length xs) 5 (lit< tt) q l, length_trytes xs)

  pub tryte_inside : 4 + q < length b
  unfolding section1
  tryte_inside = byte_inside (sectioned w) q held

  pub tryte_is : {x : ℕ} → x ≡ get_or b (4 + q) 0 → Tryte xs q x
  unfolding section1 trytes
  tryte_is e =
      let is : get_or b (4 + q) 0 ≡ get_or (trytes xs) q 0 = byte_reads (sectioned w) q held in
      record { threes = (proper w).threes; is = e ∙ is; low = rw (e, is) (below_gather 3 5 (lit< tt) (lit< tt) xs (proper w).threes q held) }

module _ {xs : List ℕ} {q x : ℕ} (T : Tryte xs q x) where
  -- r trits more
  pub rank_more : (t r : ℕ) → r ≤ 5 → 5 * q + r ≤ length xs → rank t xs (5 * q + r) ≡ rank t xs (5 * q) + tryte_count t x r
  rank_more t r h l = rw T.is (rank_tryte t xs T.threes q r h l)

  pub ranks_more : (r : ℕ) → r ≤ 5 → 5 * q + r ≤ length xs → (w f : Ranks) → w ≡ ranks_of xs (5 * q) → f ≡ front_of x r
      → ◌≡◌ {A = Ranks} (record { zeros = w.zeros + f.zeros; ones = w.ones + f.ones }) (ranks_of xs (5 * q + r))
  ranks_more r h l w f ew ef = rw (ew, ef) (both (sym (rank_more 0 r h l)) (sym (rank_more 1 r h l)))

  pub rank_next : (t : ℕ) → 5 * q + 5 ≤ length xs → rank t xs (5 * (q + 1)) ≡ rank t xs (5 * q) + tryte_count t x 5
  rank_next t l = let e : 5 * (q + 1) ≡ 5 * q + 5 = omega arith in rw e (rank_more t 5 (lit≤ tt) l)

  pub digit_here : (r : ℕ) → r < 5 → 5 * q + r < length xs → get_or xs (5 * q + r) 0 ≡ x / 3 ^ r % 3
  digit_here r h l = rw T.is (trit_at xs T.threes q r h l)

  -- where the trits end in this tryte, the padding behind them does not count
  padded : (t r : ℕ) → r ≤ 5 → 5 * q < length xs → length xs ≤ 5 * q + r → rank t xs (5 * (q + 1)) ≤ rank t xs (5 * q) + tryte_count t x r
  padded t r h l e =
      let d : ℕ = length xs - 5 * q in
      omega (
        arith,
        rank_past t xs (5 * (q + 1)) (omega arith),
        rank_past t xs (5 * q + d) (omega arith),
        rank_more t d (omega arith) (omega arith),
        count_mono t x d r (omega arith),
      )

  -- the search ends in this tryte
  module _ {t j n : ℕ} (v : Between t xs j n (5 * q) (5 * (q + 1))) where
    pub trit_there : j - n ≤ tryte_count t x 5
    trit_there = go (dec_le (5 * q + 5) (length xs))
      where
        go : Dec (5 * q + 5 ≤ length xs) → j - n ≤ tryte_count t x 5
        go (yes h) = omega (arith, v, rank_next t h)
        go (no h) = omega (arith, v, padded t 5 (lit≤ tt) (inside v) (omega arith))

    pub trit_found : {r : ℕ} → PlaceIn x t (j - n) r → Selected t xs j (5 * q + r)
    trit_found {r} P =
        let l : 5 * q + r < length xs = go (dec_le (length xs) (5 * q + r)) in
        record { inside = l; holds = digit_here r P.low l ∙ P.holds; ranked = omega (arith, v, P, rank_more t r (omega (arith, P)) (omega arith)) }
      where
        go : Dec (length xs ≤ 5 * q + r) → 5 * q + r < length xs
        go (yes h) = absurd (omega (arith, v, P, padded t r (omega (arith, P)) (inside v) h))
        go (no h) = omega arith

-- ---- counting by trytes up to `end`, and reading on

pub record Capped (t : ℕ) (xs : List ℕ) (end q n : ℕ) : Type 0 where
  pub until : q ≤ end → n ≡ rank t xs (5 * q)
  pub past : end ≤ q → n ≡ rank t xs (5 * end)

pub capped : {t : ℕ} {xs : List ℕ} {end q n : ℕ} → q ≤ end → n ≡ rank t xs (5 * q) → Capped t xs end q n
capped {t} {xs} h e = record { until = λ l. e; past = λ l. e ∙ ap (λ (k : ℕ). rank t xs (5 * k)) (omega arith) }

pub capped_few : {b : List ℕ} {t end q n : ℕ} → Whole b → Capped t (trits_of b) end q n → n ≤ 125536
capped_few {t = t} {end = end} {q = q} {n = n} w v = go (dec_le q end)
  where
    go : Dec (q ≤ end) → n ≤ 125536
    go (yes h) = omega (arith, v.until h, rank_few w t (5 * q))
    go (no h) = omega (arith, v.past (omega arith), rank_few w t (5 * end))

module _ {t : ℕ} {xs : List ℕ} {end q n : ℕ} (v : Capped t xs end q n) where
  pub capped_more : {x k : ℕ} → Tryte xs q x → k ≡ tryte_count t x 5 → 5 * end ≤ length xs → q + 1 ≤ end → Capped t xs end (q + 1) (n + k)
  capped_more T e l h = capped h (omega (arith, v.until (omega arith), rank_next T t (omega arith)))

  pub capped_stay : end ≤ q → Capped t xs end (q + 1) n
  capped_stay h = record { until = λ l. absurd (omega arith); past = λ l. v.past h }

-- ---- the search by trytes: of those before q, the last with fewer than j before it

pub record Scanning (t : ℕ) (xs : List ℕ) (j e last at before n q : ℕ) : Type 0 where
  pub from : at ≤ q
  pub to : q ≤ last
  pub counted : n ≡ rank t xs (5 * q)
  pub between : Between t xs j before (5 * at) e
  pub passed : at < q → j ≤ rank t xs (5 * (at + 1))

module _ {t : ℕ} {xs : List ℕ} {j e last at before n q : ℕ} (v : Scanning t xs j e last at before n q) (l : q < last) {m : ℕ} (c : m ≡ rank t xs (5 * (q + 1))) where
  pub scan_past : m < j → Scanning t xs j e last (q + 1) m m (q + 1)
  scan_past h = record { from = omega arith; to = omega arith; counted = c; between = later v.between c h; passed = λ k. absurd (omega arith) }

  pub scan_stay : j ≤ m → Scanning t xs j e last at before m (q + 1)
  scan_stay h = record { from = omega (arith, v.from); to = omega arith; counted = c; between = v.between; passed = λ k. go (dec_le q at) }
    where
      go : Dec (q ≤ at) → j ≤ rank t xs (5 * (at + 1))
      go (yes y) = let f : at ≡ q = omega (arith, v.from) in rw f (omega arith)
      go (no y) = v.passed (omega arith)

-- at the last tryte, all is passed or the search ends in it
pub scan_done : {t : ℕ} {xs : List ℕ} {j e last at before n q : ℕ} → Scanning t xs j e last at before n q → q ≡ last → (at ≡ last → rank t xs e ≤ rank t xs (5 * (last + 1)))
    → Between t xs j before (5 * at) (5 * (at + 1))
scan_done {t} {xs} {j} {e} {last} {at} v ends h = sooner v.between (go (dec_le last at))
  where
    go : Dec (last ≤ at) → j ≤ rank t xs (5 * (at + 1))
    go (yes y) =
        let f : at ≡ last = omega (arith, v.from, v.to) in
        omega (arith, v.between, h f, ap (λ (k : ℕ). rank t xs (5 * (k + 1))) f)
    go (no y) = v.passed (omega arith)

-- ---- the place of a trit in a tryte, as `place_in` counts it. Computed once over all trytes.

abbrev pub counted_place : ℕ → ℕ → ℕ → ℕ
counted_place x t k =
    let a : ℕ = bit (eqb (x % 3) t) in
    let b : ℕ = a + bit (eqb (x / 3 % 3) t) in
    let c : ℕ = b + bit (eqb (x / 9 % 3) t) in
    let d : ℕ = c + bit (eqb (x / 27 % 3) t) in
    bit (ltb a k) + bit (ltb b k) + bit (ltb c k) + bit (ltb d k)

abbrev place_test : ℕ → ℕ → ℕ → ℕ → Bool
place_test x t i r = cond (ltb i (tryte_count t x 5)) (ltb r 5 && (eqb (x / 3 ^ r % 3) t && eqb (tryte_count t x r) i)) true

place_right : ℕ → Bool
unfolding tryte_count
place_right x = every (λ t. every (λ i. place_test x t i (counted_place x t (suc i))) (run 0 5)) (run 0 3)

all_places : every place_right (run 0 243) ≡ true
unfolding place_right
all_places = refl

pub place_is : (x t k : ℕ) → x < 243 → t < 3 → 0 < k → k ≤ tryte_count t x 5 → PlaceIn x t k (counted_place x t k)
unfolding place_right
place_is x t zero hx ht pos most = absurd (omega arith)
place_is x t (suc i) hx ht pos most =
    let r : ℕ = counted_place x t (suc i) in
    let passes : place_test x t i r ≡ true =
    every_from (λ i. place_test x t i (counted_place x t (suc i))) 5
    (every_from (λ t. every (λ i. place_test x t i (counted_place x t (suc i))) (run 0 5)) 3 (every_from place_right 243 all_places x hx) t ht) i (omega (arith, count_few t x 5)) in
    let all = both_true (ltb r 5) _ (rw (lt-ltb i (tryte_count t x 5) (omega arith)) at passes) in
    let rest = both_true (eqb (x / 3 ^ r % 3) t) _ all.1 in
    record { low = ltb-true r 5 all.0; holds = eqb-true _ t rest.0; ranked = omega (arith, eqb-true (tryte_count t x r) i rest.1) }
