-- What the listing program writes: 61, packing's refusal, or the listing of an accepted table; and its numbers are in decimal. Assumes nothing.
use Prim.Native.Nat.{ℕ, zero, suc, ◌+◌, ◌-◌, ◌*◌, ◌/◌, ◌%◌, ◌^◌, ◌≤◌, ◌<◌}
use native.Mathlib.Nat.{pow-zero, pow-suc, div-lt_iff_lt-mul}
use native.Mathlib.Omega.{arith}
use mathlib.Core.Path.{◌≡◌, refl, sym, ap, ◌∙◌, subst}
use mathlib.Core.Logic.{◌⊎◌, inl, inr}
use mathlib.Core.Bool.{Bool, true, false, ◌&&◌}
use mathlib.Core.List.{List, [], ◌∷◌, ◌++◌}
use lib.Dec.{ltb, leb, eqb, lit<}
use lib.ListN.{length, get_or}
use borrow.Author.Tests.{ltb-true, ltb-false, le-leb, lt-leb, eq-eqb, ne_eqb}
use Rattle.format.specs.Lists.{All}
use Rattle.format.specs.Faults.{fault, ◌then◌}
use Rattle.format.specs.Table.{Graph, nodes, Read, faulty, graph, read_table}
use Rattle.format.specs.Level.{walk, reached}
use Rattle.format.specs.Image.{from_bytes}
use Rattle.format.specs.Answers.{Numbers, stops}
use Rattle.format.specs.Packing.{image_of, Accepted, PackOutcome, pack_fault, pack_settled, pack_outcome}
use Rattle.format.specs.Listing.{decimal_in, decimal, listing, refusal, table_text, listing_text, read_decimal, Decimal, ListingGives}
use Rattle.format.proofs.Laws.{true_both, last_false}
use Rattle.format.proofs.Places.{all_append}
use Rattle.format.proofs.Outcomes.{pack_faulty, pack_settles, true_of}
use Rattle.format.proofs.Listed.{text_few}

-- ---- what is written

listing_61 : (input : List ℕ) → (length input % 2 ≡ 0 → ⊥) ⊎ (8000 < length input) → listing_text input ≡ refusal 61
unfolding listing_text
listing_61 input (inl odd) = simp (ne_eqb (length input % 2) 0 odd)
listing_61 input (inr long) = simp (last_false (eqb (length input % 2) 0) (leb (length input) 8000) (lt-leb (length input) 8000 long))

pub listing_table : (input : List ℕ) → length input % 2 ≡ 0 → length input ≤ 8000 → listing_text input ≡ table_text (read_table (from_bytes 2 input))
unfolding listing_text
listing_table input even short =
    simp (true_both (eqb (length input % 2) 0) (leb (length input) 8000) (eq-eqb (length input % 2) 0 even) (le-leb (length input) 8000 short))

listing_accepted : (input : List ℕ) (g : Graph) → length input % 2 ≡ 0 → length input ≤ 8000 → Accepted (from_bytes 2 input) g
    → listing_text input ≡ listing (walk g).trits (walk g).shadows
unfolding table_text
listing_accepted input g even short a = listing_table input even short ∙ simp (a.read, true_of (reached g) a.reaches)

settled_code : (f : ℕ) (g : Graph) (order work buffer : List ℕ) → (pack_settled f g order work buffer).returned.code ≡ f
settled_code zero g order work buffer = refl
settled_code (suc f) g order work buffer = refl

-- neither 7 nor 9: then it is 8
fault_is_8 : (a b c : Bool) (f : ℕ) → (fault 7 a then fault 8 b then fault 9 c) ≡ f → 0 < f → (f ≡ 7 → ⊥) → (f ≡ 9 → ⊥) → (b ≡ false) × (f ≡ 8)
fault_is_8 true true true f e pos n7 n9 = absurd (omega arith)
fault_is_8 true true false f e pos n7 n9 = absurd (n9 (sym e))
fault_is_8 true false c f e pos n7 n9 = (refl, sym e)
fault_is_8 false b c f e pos n7 n9 = absurd (n7 (sym e))

-- what packing refuses, the listing shows; 7 and 9 depend on the buffers that packing is lent
listing_refused : (input order work buffer : List ℕ) (f : ℕ) → length input % 2 ≡ 0 → length input ≤ 8000 → 0 < f → (f ≡ 7 → ⊥) → (f ≡ 9 → ⊥)
    → (pack_outcome (from_bytes 2 input) order work buffer).returned ≡ stops f → listing_text input ≡ refusal f
unfolding table_text pack_fault
listing_refused input order work buffer f even short pos n7 n9 e = listing_table input even short ∙ go (read_table table) refl
  where
    table : List ℕ
    table = from_bytes 2 input

    code_is : {o : PackOutcome} → pack_outcome table order work buffer ≡ o → o.returned.code ≡ f
    code_is q = ap (λ (x : PackOutcome). x.returned.code) (sym q) ∙ ap (λ (r : Numbers). r.code) e

    go : (r : Read) → read_table table ≡ r → table_text r ≡ refusal f
    go (faulty c) q = ap refusal (code_is (pack_faulty table order work buffer c q))
    go (graph g) q =
        let c : ℕ = pack_fault g order work buffer in
        let s : c ≡ f = sym (settled_code c g order work buffer) ∙ code_is (pack_settles table order work buffer g q c refl) in
        let r = fault_is_8 (leb (3 * nodes g) (length work) && leb (nodes g) (length order)) (reached g) (leb (length (image_of g)) (length buffer)) f s pos n7 n9 in
        simp (r.0, r.1)

-- ---- decimal

read_last : (acc : ℕ) (ds : List ℕ) (d : ℕ) → read_decimal acc (ds ++ (d ∷ [])) ≡ 10 * read_decimal acc ds + (d - 48)
read_last acc [] d = refl
read_last acc (c ∷ ds) d = read_last (10 * acc + (c - 48)) ds d

-- a number of one digit, or the digits before its last and the last
decimal_cases : (P : List ℕ → Type 0) (d x : ℕ) → (x < 10 → P ((48 + x) ∷ [])) → (10 ≤ x → P (decimal_in d (x / 10) ++ ((48 + x % 10) ∷ []))) → P (decimal_in (suc d) x)
decimal_cases P d x one more = go (ltb x 10) refl
  where
    go : (b : Bool) → ltb x 10 ≡ b → P (elim b [ true ↦ (48 + x) ∷ [] | false ↦ decimal_in d (x / 10) ++ ((48 + x % 10) ∷ []) ])
    go true e = one (ltb-true x 10 e)
    go false e = more (ltb-false x 10 e)

front_below : (d x : ℕ) → x < 10 ^ suc d → x / 10 < 10 ^ d
front_below d x h = (div-lt_iff_lt-mul (lit< tt)).1 (subst (λ (k : ℕ). x < k) (pow-suc 10 d) h)

decimal_in_reads : (d x : ℕ) → x < 10 ^ d → read_decimal 0 (decimal_in d x) ≡ x
decimal_in_reads zero x h = omega (arith, pow-zero 10)
decimal_in_reads (suc d) x h =
    decimal_cases (λ ds. read_decimal 0 ds ≡ x) d x (λ l. omega arith)
    (λ l. read_last 0 (decimal_in d (x / 10)) (48 + x % 10) ∙ omega (arith, decimal_in_reads d (x / 10) (front_below d x h)))

decimal_reads : (x : ℕ) → x < 10 ^ 10 → read_decimal 0 (decimal x) ≡ x
unfolding decimal
decimal_reads x h = decimal_in_reads 10 x h

-- every byte is a digit
abbrev pub Digit : ℕ → Type 0
Digit b = (48 ≤ b) × (b ≤ 57)

decimal_in_digits : (d x : ℕ) → All Digit (decimal_in d x)
decimal_in_digits zero x = tt
decimal_in_digits (suc d) x =
    decimal_cases (All Digit) d x (λ l. ((omega arith, omega arith), tt))
    (λ l. all_append Digit (decimal_in d (x / 10)) ((48 + x % 10) ∷ []) (decimal_in_digits d (x / 10)) ((omega arith, omega arith), tt))

decimal_digits : (x : ℕ) → All Digit (decimal x)
unfolding decimal
decimal_digits x = decimal_in_digits 10 x

-- no leading 0, but for 0 itself
lead_append : (xs ys : List ℕ) → 48 < get_or xs 0 0 → 48 < get_or (xs ++ ys) 0 0
lead_append [] ys h = absurd (omega arith)
lead_append (x ∷ xs) ys h = h

decimal_in_leads : (d x : ℕ) → x < 10 ^ d → 0 < x → 48 < get_or (decimal_in d x) 0 0
decimal_in_leads zero x h pos = absurd (omega (arith, pow-zero 10))
decimal_in_leads (suc d) x h pos =
    decimal_cases (λ ds. 48 < get_or ds 0 0) d x (λ l. omega arith)
    (λ l. lead_append (decimal_in d (x / 10)) ((48 + x % 10) ∷ []) (decimal_in_leads d (x / 10) (front_below d x h) (omega arith)))

decimal_leads : (x : ℕ) → x < 10 ^ 10 → 0 < x → 48 < get_or (decimal x) 0 0
unfolding decimal
decimal_leads x h pos = decimal_in_leads 10 x h pos

decimal_zero : decimal 0 ≡ 48 ∷ []
unfolding decimal
decimal_zero = refl

pub decimal_is : (x : ℕ) → x < 10 ^ 10 → Decimal x (decimal x)
decimal_is x h = record { reads = decimal_reads x h; digits = decimal_digits x; leads = decimal_leads x h; zero = λ e. ap decimal e ∙ decimal_zero }

pub listing_gives : (input : List ℕ) → ListingGives input
listing_gives input = record {
  input_wrong = listing_61 input;
  table_refused = λ even short order work buffer f. listing_refused input order work buffer f even short;
  accepted = λ even short g a. listing_accepted input g even short a;
  few = text_few input;
}
