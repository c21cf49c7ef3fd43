-- Select against rank, and rank by samples and trytes. Assumes nothing.
use Prim.Native.Nat.{ℕ, zero, suc, ◌+◌, ◌-◌, ◌*◌, ◌/◌, ◌%◌, ◌^◌, ◌≤◌, ◌<◌}
use native.Mathlib.Nat.{zero-add, suc-add, add-suc, add-zero, le_of_suc-le-suc, not-suc-le-zero, sub-zero}
use native.Mathlib.Omega.{arith}
use native.Mathlib.Numerals.{one-add}
use mathlib.Core.Path.{◌≡◌, refl, sym, ap, ap₂, ◌∙◌, subst}
use mathlib.Core.Bool.{Bool, true, false}
use mathlib.Core.Option.{Option, none, some, some-injective, none-ne-some}
use mathlib.Core.List.{List, [], ◌∷◌, ◌++◌}
use lib.Dec.{eqb, lit<}
use lib.ListN.{length, get_or, take, drop, get_elem?, length-drop}
use lib.Seq.{length-take-le, get_or-take, get_or-drop, ext_get_or}
use borrow.Author.Tests.{eqb-true, eq-eqb}
use Rattle.format.specs.Lists.{bit, run, cons_if, keep, count_in, low_digits, Below}
use Rattle.format.specs.Trits.{rank, places, select, trytes, tryte_count, Selected}
use Rattle.format.specs.Image.{last_multiple}
use Rattle.format.proofs.Laws.{rank_add, rank_mono, rank_here, rank_count}
use Rattle.format.proofs.Digits.{gather_digit, lt_up, length_digits, digits_at}

-- ---- the places of a trit

pub length_cons_if : (b : Bool) (x : ℕ) (xs : List ℕ) → length (cons_if b x xs) ≡ bit b + length xs
length_cons_if true x xs = sym (one-add (length xs))
length_cons_if false x xs = sym (zero-add (length xs))

-- the places where t stands in xs, which starts at place s
abbrev pub places_from : ℕ → ℕ → List ℕ → List ℕ
places_from s t [] = []
places_from s t (x ∷ xs) = cons_if (eqb x t) s (places_from (suc s) t xs)

keep_places : (s t : ℕ) (xs : List ℕ) (f : ℕ → Bool) → ((q : ℕ) → f (s + q) ≡ eqb (get_or xs q 3) t) → keep f (run s (length xs)) ≡ places_from s t xs
keep_places s t [] f h = refl
keep_places s t (x ∷ xs) f h =
    ap₂ (λ (b : Bool) (l : List ℕ). cons_if b s l) (ap f (sym (add-zero s)) ∙ h 0)
    (keep_places (suc s) t xs f (λ q. ap f (suc-add s q ∙ sym (add-suc s q)) ∙ h (suc q)))

pub places_from_lem : (t : ℕ) (xs : List ℕ) → places t xs ≡ places_from 0 t xs
unfolding places
places_from_lem t xs = keep_places 0 t xs (λ p. eqb (get_or xs p 3) t) (λ q. ap (λ (p : ℕ). eqb (get_or xs p 3) t) (zero-add q))

length_places_from : (s t : ℕ) (xs : List ℕ) → length (places_from s t xs) ≡ count_in t xs
length_places_from s t [] = refl
length_places_from s t (x ∷ xs) =
    length_cons_if (eqb x t) s (places_from (suc s) t xs) ∙ ap (λ (k : ℕ). bit (eqb x t) + k) (length_places_from (suc s) t xs)

pub length_places : (t : ℕ) (xs : List ℕ) → length (places t xs) ≡ count_in t xs
length_places t xs = ap length (places_from_lem t xs) ∙ length_places_from 0 t xs

places_from_append : (s t : ℕ) (xs ys : List ℕ) → places_from s t (xs ++ ys) ≡ places_from s t xs ++ places_from (s + length xs) t ys
places_from_append s t [] ys = ap (λ (k : ℕ). places_from k t ys) (sym (add-zero s))
places_from_append s t (x ∷ xs) ys =
    ap (cons_if (eqb x t) s) (places_from_append (suc s) t xs ys ∙ ap (λ (k : ℕ). places_from (suc s) t xs ++ places_from k t ys) (suc-add s (length xs) ∙ sym (add-suc s (length xs))))
    ∙ go (eqb x t)
  where
    go : (b : Bool) → cons_if b s (places_from (suc s) t xs ++ places_from (s + length (x ∷ xs)) t ys) ≡ cons_if b s (places_from (suc s) t xs) ++ places_from (s + length (x ∷ xs)) t ys
    go true = refl
    go false = refl

-- a place that holds t is the place of number (rank + 1)
skip : (b : Bool) (x : ℕ) (xs : List ℕ) (r : ℕ) → get_elem? (cons_if b x xs) (bit b + r) ≡ get_elem? xs r
skip true x xs r = ap (get_elem? (x ∷ xs)) (one-add r)
skip false x xs r = ap (get_elem? xs) (zero-add r)

places_at : (s t : ℕ) (xs : List ℕ) (p : ℕ) → p < length xs → get_or xs p 0 ≡ t → get_elem? (places_from s t xs) (rank t xs p) ≡ some (s + p)
unfolding rank
places_at s t [] p h e = absurd (not-suc-le-zero h)
places_at s t (x ∷ xs) zero h e =
    ap (λ (b : Bool). get_elem? (cons_if b s (places_from (suc s) t xs)) 0) (eq-eqb x t e) ∙ ap {B = Option ℕ} some (sym (add-zero s))
places_at s t (x ∷ xs) (suc p) h e =
    skip (eqb x t) s (places_from (suc s) t xs) (rank t xs p)
    ∙ places_at (suc s) t xs p (le_of_suc-le-suc h) e
    ∙ ap {B = Option ℕ} some (suc-add s p ∙ sym (add-suc s p))

-- and the other way
pub record Holds (s t : ℕ) (xs : List ℕ) (j q : ℕ) : Type 0 where
  pub inside : s ≤ q
  pub below : q < s + length xs
  pub holds : get_or xs (q - s) 0 ≡ t
  pub ranked : rank t xs (q - s) ≡ j

places_some : (s t : ℕ) (xs : List ℕ) (j q : ℕ) → get_elem? (places_from s t xs) j ≡ some q → Holds s t xs j q
unfolding rank
places_some s t [] j q e = absurd (none-ne-some q e)
places_some s t (x ∷ xs) j q e = go (λ i ei. places_some (suc s) t xs i q ei) (eqb x t) refl j refl e
  where
    later : (i : ℕ) → bit (eqb x t) + i ≡ j → Holds (suc s) t xs i q → Holds s t (x ∷ xs) j q
    later i ei r =
        let d : q - s ≡ suc (q - suc s) = omega (arith, r.inside) in
        record {
          inside = omega (arith, r.inside);
          below = omega (arith, r.below);
          holds = ap (λ (k : ℕ). get_or (x ∷ xs) k 0) d ∙ r.holds;
          ranked = ap (λ (k : ℕ). rank t (x ∷ xs) k) d ∙ ap (λ (k : ℕ). bit (eqb x t) + k) r.ranked ∙ ei;
        }

    go : ((i : ℕ) → get_elem? (places_from (suc s) t xs) i ≡ some q → Holds (suc s) t xs i q)
        → (b : Bool) → eqb x t ≡ b → (i : ℕ) → i ≡ j → get_elem? (cons_if b s (places_from (suc s) t xs)) i ≡ some q → Holds s t (x ∷ xs) j q
    go ih true eb zero ij ei =
        let sq : s ≡ q = some-injective s q ei in
        let d : q - s ≡ 0 = omega arith in
        record {
          inside = omega arith;
          below = omega arith;
          holds = ap (λ (k : ℕ). get_or (x ∷ xs) k 0) d ∙ eqb-true x t eb;
          ranked = ap (λ (k : ℕ). rank t (x ∷ xs) k) d ∙ ij;
        }
    go ih true eb (suc i) ij ei = later i (ap (λ (b : Bool). bit b + i) eb ∙ one-add i ∙ ij) (ih i ei)
    go ih false eb i ij ei = later i (ap (λ (b : Bool). bit b + i) eb ∙ zero-add i ∙ ij) (ih i ei)

-- select and rank are inverse: p holds t, and rank of t before it is j - 1, exactly if the j-th t stands at p
pub select_at : (t : ℕ) (xs : List ℕ) (p : ℕ) → p < length xs → get_or xs p 0 ≡ t → select t xs (suc (rank t xs p)) ≡ some p
unfolding select
select_at t xs p h e = ap (λ (l : List ℕ). get_elem? l (rank t xs p)) (places_from_lem t xs) ∙ places_at 0 t xs p h e ∙ ap {B = Option ℕ} some (zero-add p)

pub select_some : (t : ℕ) (xs : List ℕ) (j p : ℕ) → select t xs j ≡ some p → Selected t xs j p
unfolding select
select_some t xs zero p e = absurd (none-ne-some p e)
select_some t xs (suc j) p e =
    let r : Holds 0 t xs j p = places_some 0 t xs j p (ap (λ (l : List ℕ). get_elem? l j) (sym (places_from_lem t xs)) ∙ e) in
    record {
      inside = omega (arith, r.below);
      holds = ap (λ (k : ℕ). get_or xs k 0) (sym (sub-zero p)) ∙ r.holds;
      ranked = ap suc (ap (λ (k : ℕ). rank t xs k) (sym (sub-zero p)) ∙ r.ranked);
    }

-- there is a j-th t exactly if j is from 1 to the count of t
pub get_elem_none : {A : Type 0} (xs : List A) (j : ℕ) → length xs ≤ j → get_elem? xs j ≡ none
get_elem_none [] j h = refl
get_elem_none (x ∷ xs) zero h = absurd (not-suc-le-zero h)
get_elem_none (x ∷ xs) (suc j) h = get_elem_none xs j (le_of_suc-le-suc h)

get_elem_some : (xs : List ℕ) (j d : ℕ) → j < length xs → get_elem? xs j ≡ some (get_or xs j d)
get_elem_some [] j d h = absurd (not-suc-le-zero h)
get_elem_some (x ∷ xs) zero d h = refl
get_elem_some (x ∷ xs) (suc j) d h = get_elem_some xs j d (le_of_suc-le-suc h)

pub select_none : (t : ℕ) (xs : List ℕ) (j : ℕ) → count_in t xs < j → select t xs j ≡ none
unfolding select
select_none t xs zero h = refl
select_none t xs (suc j) h = get_elem_none (places t xs) j (omega (arith, length_places t xs))

pub select_found : (t : ℕ) (xs : List ℕ) (j : ℕ) → j < count_in t xs → select t xs (suc j) ≡ some (get_or (places t xs) j 0)
unfolding select
select_found t xs j h = get_elem_some (places t xs) j 0 (omega (arith, length_places t xs))

-- the j-th place, counted from 0
pub place_of_lem : (t : ℕ) (xs : List ℕ) (j : ℕ) → j < count_in t xs → Selected t xs (suc j) (get_or (places t xs) j 0)
place_of_lem t xs j h = select_some t xs (suc j) (get_or (places t xs) j 0) (select_found t xs j h)

pub place_rank : (t : ℕ) (xs : List ℕ) (p : ℕ) → p < length xs → get_or xs p 0 ≡ t → get_or (places t xs) (rank t xs p) 0 ≡ p
unfolding select
place_rank t xs p l e =
    let lt : rank t xs p < count_in t xs = omega (arith, rank_here t xs p l e, rank_count t xs (suc p)) in
    let h : rank t xs p < length (places t xs) = omega (arith, length_places t xs) in
    some-injective _ _ (sym (get_elem_some (places t xs) (rank t xs p) 0 h) ∙ select_at t xs p l e)

-- ---- rank by samples

-- the last multiple of 65,725 is the same at the last multiple of 275; and so on down
last_last_275 : (p : ℕ) → last_multiple 65725 (last_multiple 275 p) ≡ last_multiple 65725 p
last_last_275 p = omega arith

last_last_25 : (p : ℕ) → last_multiple 275 (last_multiple 25 p) ≡ last_multiple 275 p
last_last_25 p = omega arith

pub rank_cut : (t : ℕ) (xs : List ℕ) (a p : ℕ) → a ≤ p → rank t xs p ≡ rank t xs a + rank t (drop a xs) (p - a)
rank_cut t xs a p h = let e : a + (p - a) ≡ p = omega arith in subst (λ (k : ℕ). rank t xs k ≡ rank t xs a + rank t (drop a xs) (p - a)) e (rank_add t xs a (p - a))

-- what sections 6, 7 and 8 hold for the place p add up to the rank before the last multiple of 25
pub rank_samples : (t : ℕ) (xs : List ℕ) (p : ℕ)
    → rank t xs (last_multiple 25 p)
    ≡ rank t xs (last_multiple 65725 p)
    + (rank t xs (last_multiple 275 p) - rank t xs (last_multiple 65725 (last_multiple 275 p)))
    + (rank t xs (last_multiple 25 p) - rank t xs (last_multiple 275 (last_multiple 25 p)))
rank_samples t xs p =
    let e1 : rank t xs (last_multiple 65725 (last_multiple 275 p)) ≡ rank t xs (last_multiple 65725 p) = ap (λ (k : ℕ). rank t xs k) (last_last_275 p) in
    let e2 : rank t xs (last_multiple 275 (last_multiple 25 p)) ≡ rank t xs (last_multiple 275 p) = ap (λ (k : ℕ). rank t xs k) (last_last_25 p) in
    omega (arith, rank_mono t xs (last_multiple 65725 p) (last_multiple 275 p) (omega arith), rank_mono t xs (last_multiple 275 p) (last_multiple 25 p) (omega arith))

-- ---- rank by trytes

-- the first r trits of tryte q
tryte_part : (xs : List ℕ) → Below 3 xs → (q r : ℕ) → r ≤ 5 → 5 * q + r ≤ length xs → take r (low_digits 3 5 (get_or (trytes xs) q 0)) ≡ take r (drop (5 * q) xs)
unfolding trytes
tryte_part xs h q r lr l =
    let byte : ℕ = get_or (trytes xs) q 0 in
    let e1 : length (take r (low_digits 3 5 byte)) ≡ r = length-take-le r (low_digits 3 5 byte) (omega (arith, length_digits 3 5 byte)) in
    let e2 : length (take r (drop (5 * q) xs)) ≡ r = length-take-le r (drop (5 * q) xs) (omega (arith, length-drop (5 * q) xs)) in
    ext_get_or 0 (take r (low_digits 3 5 byte)) (take r (drop (5 * q) xs)) (e1 ∙ sym e2)
    (λ i li.
    let lt : i < r = omega arith in
    get_or-take r (low_digits 3 5 byte) i 0 lt
    ∙ gather_digit 3 5 (lit< tt) (lit< tt) xs h q i (lt_up (length xs) 5 (lit< tt) q (omega arith)) (omega arith)
    ∙ sym (get_or-take r (drop (5 * q) xs) i 0 lt ∙ get_or-drop (5 * q) xs i 0))

-- r trits more, of tryte q
pub rank_tryte : (t : ℕ) (xs : List ℕ) → Below 3 xs → (q r : ℕ) → r ≤ 5 → 5 * q + r ≤ length xs
    → rank t xs (5 * q + r) ≡ rank t xs (5 * q) + tryte_count t (get_or (trytes xs) q 0) r
unfolding tryte_count trytes rank
rank_tryte t xs h q r lr l =
    rank_add t xs (5 * q) r ∙ ap (λ (ys : List ℕ). rank t xs (5 * q) + count_in t ys) (sym (tryte_part xs h q r lr l))

-- one trit, by division
pub trit_at : (xs : List ℕ) → Below 3 xs → (q r : ℕ) → r < 5 → 5 * q + r < length xs → get_or xs (5 * q + r) 0 ≡ get_or (trytes xs) q 0 / 3 ^ r % 3
unfolding trytes
trit_at xs h q r lr l =
    sym (gather_digit 3 5 (lit< tt) (lit< tt) xs h q r (lt_up (length xs) 5 (lit< tt) q (omega arith)) lr) ∙ digits_at 3 5 (get_or (trytes xs) q 0) r lr
