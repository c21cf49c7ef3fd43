-- The checker, step by step, in the order in which code walks it: what each section gives at each of its four faults and past them; and
-- contents held to numbers, entry by entry. Assumes nothing.
use Prim.Native.Nat.{ℕ, ◌*◌, ◌^◌, ◌≤◌, ◌<◌}
use mathlib.Core.Path.{◌≡◌, refl, sym, ap, ◌∙◌, subst}
use mathlib.Core.Logic.{inl, inr}
use mathlib.Core.Bool.{Bool, true, false}
use mathlib.Core.List.{List, [], append-nil, ◌∷◌}
use lib.Dec.{eqb, leb, lit≤, lit<}
use lib.ListN.{length, get_or, take, drop}
use lib.Seq.{ext_get_or}
use borrow.Author.Tests.{eqb-true, lt-leb, le-leb, leb-true, eq-eqb}
use native.Mathlib.Omega.{arith}
use Rattle.format.specs.Lists.{same, up, count_in, Below}
use Rattle.format.specs.Trits.{untrytes}
use Rattle.format.specs.Image.{le_number, bytes, from_bytes, Section, given}
use Rattle.format.specs.Faults.{fault, ◌then◌}
use Rattle.format.specs.Proper.{count_of, contents_of, rest_of, check_given, size1, size2, contents_fault1, check_image, bytes_low, padded, roots_first, balanced, grown, limits, shadows_seen, section_fault, fault1, fault2, trits_of, after1, shadows_of, after2, ImageCode, given_fault, CheckerGives}
use Rattle.format.proofs.Laws.{same_eq, same_refl}
use Rattle.format.proofs.Digits.{gather_at, length_gather, up_mul}
use Rattle.format.proofs.CheckLaws.{bytes_from_bytes, section_count, section_gives, contents_1_gives}
use Rattle.format.proofs.ImageReads.{number_at}
use Rattle.format.proofs.FaultLaws.{then_in, fault_in, then_yes, then_no, fault_yes, fault_no}

-- ---- the order of the checker's faults

pub checker_gives : (b : List ℕ) → CheckerGives b
unfolding check_image fault1 fault2 given_fault check_given
checker_gives b =
    let L : ℕ = count_of b in
    let k : Bool = leb L 125536 in
    let eq : (x y : ℕ) (c : ℕ) → (x ≡ y → ⊥) → fault c (eqb x y) ≡ c = λ x y c h. fault_no c (eqb x y) (λ e. h (eqb-true x y e)) in
    record {
      first = then_no (fault1 b) _;
      second = λ e h. then_yes (fault1 b) _ e ∙ then_no (fault2 (trits_of b) (after1 b)) _ h;
      others = λ e f. then_yes (fault1 b) _ e ∙ then_yes (fault2 (trits_of b) (after1 b)) _ f;
      too_large = λ h l.
          let f : (fault 22 k then fault 23 (leb 1 L)) ≡ 22 = ap (λ (t : Bool). fault 22 t then fault 23 (leb 1 L)) (lt-leb L 125536 l) in
          section_count (fault 22 k then fault 23 (leb 1 L)) (size1 b) (contents_fault1 L (contents_of (size1 b) b)) b h (omega arith) ∙ f;
      section_1 = λ l.
          let f : (fault 22 k then fault 23 (leb 1 L)) ≡ fault 23 (leb 1 L) = then_yes (fault 22 k) _ (fault_yes 22 k (le-leb L 125536 l)) in
          section_gives _ (size1 b) _ b (1 ≤ L) 23 (lit< tt) (λ r. f ∙ fault_yes 23 (leb 1 L) (le-leb 1 L r)) (λ r. f ∙ fault_no 23 (leb 1 L) (λ e. r (leb-true 1 L e)));
      contents_1 = contents_1_gives L (contents_of (size1 b) b);
      section_2 = λ trits. section_gives _ (size2 trits) _ b (L ≡ count_in 2 trits) 24 (lit< tt) (λ r. fault_yes 24 _ (eq-eqb L (count_in 2 trits) r)) (eq L (count_in 2 trits) 24);
      sections_3_9 = λ s. section_gives _ (length s.contents) _ b (L ≡ s.entries) 25 (lit< tt) (λ r. fault_yes 25 _ (eq-eqb L s.entries r)) (eq L s.entries 25);
      one_by_one = λ s ss. refl;
      left_over = eq (length b) 0 26;
    }

-- ---- contents, entry by entry

-- contents whose every number is as it should be are as they should be
bytes_ext : (w : ℕ) (bs xs : List ℕ) → 0 < w → Below 256 bs → length bs ≡ w * length xs
    → ((i : ℕ) → i < length xs → le_number (take w (drop (w * i) bs)) ≡ get_or xs i 0) → bs ≡ bytes w xs
unfolding from_bytes
bytes_ext w bs xs pw low len h =
    let n : length (from_bytes w bs) ≡ length xs = length_gather 256 w bs ∙ ap (λ (k : ℕ). up k w) len ∙ up_mul w (length xs) pw in
    sym (bytes_from_bytes w bs (length xs) pw low len)
    ∙ ap (bytes w) (ext_get_or 0 (from_bytes w bs) xs n
    (λ i l.
    let l1 : i < up (length bs) w = subst (λ (k : ℕ). i < k) (length_gather 256 w bs) l in
    gather_at 256 w bs i l1 ∙ h i (subst (λ (k : ℕ). i < k) n l)))

pub bytes_same : (w : ℕ) (bs xs : List ℕ) → 0 < w → Below 256 bs → length bs ≡ w * length xs
    → ((i : ℕ) → i < length xs → le_number (take w (drop (w * i) bs)) ≡ get_or xs i 0) → same bs (bytes w xs) ≡ true
bytes_same w bs xs pw low len h = ap (λ (l : List ℕ). same l (bytes w xs)) (bytes_ext w bs xs pw low len h) ∙ same_refl (bytes w xs)

-- a number that is not as it should be shows
pub bytes_differ : (w : ℕ) (bs xs : List ℕ) (i : ℕ) → i < length xs → Below (256 ^ w) xs → (le_number (take w (drop (w * i) bs)) ≡ get_or xs i 0 → ⊥)
    → same bs (bytes w xs) ≡ false
bytes_differ w bs xs i l fits d = go (same bs (bytes w xs)) refl
  where
    go : (t : Bool) → same bs (bytes w xs) ≡ t → same bs (bytes w xs) ≡ false
    go false e = e
    go true e =
        absurd (d (ap (λ (x : List ℕ). le_number (take w (drop (w * i) x))) (same_eq bs (bytes w xs) e ∙ sym (append-nil (bytes w xs))) ∙ number_at w xs [] i l (fits i l)))

-- ---- the checker gives 0 or a number from 21 to 26

then_code : (a b : ℕ) → ImageCode a → ImageCode b → ImageCode (a then b)
then_code = then_in ImageCode

fault_code : (c : ℕ) (t : Bool) → 21 ≤ c → c ≤ 26 → ImageCode (fault c t)
fault_code c t l u = fault_in ImageCode (inl refl) c t (inr (l, u))

section_code : (cf size ct : ℕ) (b : List ℕ) → ImageCode cf → ImageCode ct → ImageCode (section_fault cf size ct b)
unfolding section_fault
section_code cf size ct b hc ht =
    then_code _ _ (fault_code 21 (leb 4 (length b)) (lit≤ tt) (lit≤ tt)) (then_code _ _ hc
    (then_code _ _ (fault_code 21 (leb size (length (drop 4 b))) (lit≤ tt) (lit≤ tt)) ht))

given_code : (ss : List Section) (b : List ℕ) → ImageCode (check_given ss b)
unfolding check_given Rattle.format.specs.Proper.given_fault section_fault
given_code [] b = fault_code 26 (eqb (length b) 0) (lit≤ tt) (lit≤ tt)
given_code (s ∷ ss) b =
    let size : ℕ = length s.contents in
    then_code _ _ (section_code (fault 25 (eqb (count_of b) s.entries)) size (fault 25 (same (contents_of size b) s.contents)) b
    (fault_code 25 (eqb (count_of b) s.entries) (lit≤ tt) (lit≤ tt)) (fault_code 25 (same (contents_of size b) s.contents) (lit≤ tt) (lit≤ tt)))
    (given_code ss (rest_of size b))

code_23 : (t : Bool) (x : ℕ) → ImageCode x → ImageCode (fault 23 t then x)
code_23 t x = then_code (fault 23 t) x (fault_code 23 t (lit≤ tt) (lit≤ tt))

contents1_code : (L : ℕ) (bs : List ℕ) → ImageCode (contents_fault1 L bs)
unfolding contents_fault1
contents1_code L bs =
    let t : List ℕ = untrytes L bs in
    code_23 (bytes_low bs) _ (code_23 (padded L bs) _ (code_23 (roots_first t) _ (code_23 (balanced t) _ (code_23 (grown t) _ (fault_code 22 (limits t) (lit≤ tt) (lit≤ tt))))))

pub image_code : (b : List ℕ) → ImageCode (check_image b)
unfolding check_image fault1 fault2
image_code b =
    let L : ℕ = count_of b in
    let t : List ℕ = trits_of b in
    let k : Bool = eqb (count_of (after1 b)) (count_in 2 t) in
    let s : Bool = shadows_seen t (from_bytes 2 (contents_of (size2 t) (after1 b))) in
    then_code _ _ (section_code (fault 22 (leb L 125536) then fault 23 (leb 1 L)) (size1 b) (contents_fault1 L (contents_of (size1 b) b)) b
    (then_code _ _ (fault_code 22 (leb L 125536) (lit≤ tt) (lit≤ tt)) (fault_code 23 (leb 1 L) (lit≤ tt) (lit≤ tt))) (contents1_code L (contents_of (size1 b) b)))
    (then_code _ _ (section_code (fault 24 k) (size2 t) (fault 24 s) (after1 b) (fault_code 24 k (lit≤ tt) (lit≤ tt)) (fault_code 24 s (lit≤ tt) (lit≤ tt)))
    (given_code (given t (shadows_of b)) (after2 b)))
