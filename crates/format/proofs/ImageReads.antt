-- Where each number stands in an image, and that it comes back whole: sections 2 to 9 are one list of numbers with their widths, so one law reads
-- them all. Assumes nothing.
use Prim.Native.Nat.{ℕ, zero, suc, ◌+◌, ◌-◌, ◌*◌, ◌/◌, ◌%◌, ◌^◌, ◌≤◌, ◌<◌, zero-le, suc-le-suc}
use native.Mathlib.Nat.{zero-add, one-mul, le_of_suc-le-suc, not-suc-le-zero, mul-suc, mul-le-mul_left, mod-lt}
use native.Mathlib.Omega.{arith}
use mathlib.Core.Path.{◌≡◌, refl, sym, ap, subst}
use mathlib.Core.Bool.{Bool, true, false}
use mathlib.Core.List.{List, [], ◌∷◌, ◌++◌, map}
use lib.Dec.{eqb, lit<}
use lib.ListN.{length, get_or, take, drop, length-drop, length-append, length-map, get_or-append, get_or-map}
use lib.Seq.{drop-cons, drop_at, take-append-le, drop-append-le, drop-drop, get_or-take, get_or-drop}
use Rattle.format.specs.Lists.{run, cons_if, count_in, up, gather, Below, All, keep}
use Rattle.format.specs.Trits.{rank, places}
use Rattle.format.specs.Image.{bytes, node_count, marks, mark_words, group, grouped, marked_nodes, starts, pair, pairs, last_multiple, mark_samples, Section, section1, section2, section3, section4, section5, section6, section7, section8, section9, given, written, image, shadow_at, read, before, sizes}
use Rattle.format.specs.Proper.{ProperTrits}
use Rattle.format.proofs.Laws.{length_run, get_or_run, get_or_each, rank_le, rank_count, count_le}
use Rattle.format.proofs.Digits.{horner_digits, horner_lt, length_spread, spread_at, gather_at, length_gather, block, below_block, length_block}
use Rattle.format.proofs.Select.{place_of_lem, length_places, rank_cut}
use Rattle.format.proofs.Places.{all_at}
use Rattle.format.proofs.Sizes.{length_trytes, length_bytes, length_starts, length_pairs, length_mark_words, length_mark_samples, length_grouped, length_marks, grouped_le, grouped_suc}
use Rattle.format.proofs.Marks.{below_marks}
use Rattle.format.proofs.CheckLaws.{shadow_nodes, limits_nodes, shadows_small}

-- ---- a number among bytes

-- byte by byte, as code reads it; `next` is the place after `at` in whatever form the code has it
pub read_step : (w at next : ℕ) (b : List ℕ) → next ≡ suc at → at < length b → read (suc w) at b ≡ get_or b at 0 + 256 * read w next b
read_step w at next b e h = rw (e, drop-cons b at 0)

-- number i of so many bytes each
pub number_at : (w : ℕ) (xs : List ℕ) (rest : List ℕ) (i : ℕ) → i < length xs → get_or xs i 0 < 256 ^ w → read w (w * i) (bytes w xs ++ rest) ≡ get_or xs i 0
unfolding bytes
number_at w xs rest i h fits =
    let l : w * i + w ≤ length (bytes w xs) = omega (arith, length_spread 256 w xs, mul-suc w i, mul-le-mul_left w h) in
    let a : w * i ≤ length (bytes w xs) = omega arith in
    let t : w ≤ length (drop (w * i) (bytes w xs)) = omega (arith, length-drop (w * i) (bytes w xs)) in
    rw (drop-append-le, take-append-le, spread_at) (horner_digits 256 w (get_or xs i 0) (lit< tt) fits)

-- ---- a section among sections

abbrev pub size_of : Section → ℕ
size_of s = length s.contents

abbrev nothing : Section
nothing = record { entries = 0; contents = [] }

-- what stands behind them
written_drop : (ss : List Section) (k : ℕ) → k ≤ length ss → drop (before (map size_of ss) k) (written ss) ≡ written (drop k ss)
written_drop ss zero h = refl
written_drop ss (suc k) h =
    rw (← drop-drop, ← drop-drop, written_drop ss k (omega arith), drop-cons ss k nothing)
    (drop_at (get_or ss k nothing).contents (written (drop (suc k) ss)) _ (sym (get_or-map size_of ss k nothing)))

-- a section of numbers, with their width in bytes
pub record Uniform : Type 0 where
  pub section : Section
  pub width : ℕ
  pub numbers : List ℕ

abbrev pub section_of : Uniform → Section
section_of u = u.section

abbrev pub empty : Uniform
empty = record { section = nothing; width = 0; numbers = [] }

-- the numbers are its contents, and fit their width
abbrev pub Fitting : Uniform → Type 0
Fitting u = (u.section.contents ≡ bytes u.width u.numbers) × (0 < u.width) × Below (256 ^ u.width) u.numbers

-- b is a section s and then sections of numbers; zs has the sizes of all their contents
pub record Sectioned (s : Section) (us : List Uniform) (zs b : List ℕ) : Type 0 where
  pub is : b ≡ written (s ∷ map section_of us)
  pub sized : map size_of (s ∷ map section_of us) ≡ zs
  pub fits : All Fitting us

module _ {s : Section} {us : List Uniform} {zs b : List ℕ} (S : Sectioned s us zs b) where
  -- byte i of s
  pub byte_inside : (i : ℕ) → i < length s.contents → 4 + i < length b
  byte_inside i l = rw S.is (simp length-append (omega arith))

  pub byte_reads : (i : ℕ) → i < length s.contents → get_or b (4 + i) 0 ≡ get_or s.contents i 0
  byte_reads i l = rw (S.is, ← get_or-drop 4) (get_or-append s.contents (written (map section_of us)) 0 i l)

  -- number i of the section after s and k others
  module _ (k : ℕ) (h : k < length us) where
    abbrev u : Uniform
    u = get_or us k empty

    abbrev start : ℕ
    start = before zs (suc k) + 4

    fitting : Fitting u
    fitting = all_at Fitting us k empty S.fits h

    behind : drop start b ≡ bytes u.width u.numbers ++ written (drop (suc k) (map section_of us))
    behind =
        let ss : List Section = s ∷ map section_of us in
        let l : suc k < length ss = omega (arith, length-map us section_of) in
        let past : drop (before zs (suc k)) b ≡ written (drop (suc k) ss) =
        subst (λ (z : List ℕ). drop (before z (suc k)) b ≡ written (drop (suc k) ss)) S.sized (rw S.is (written_drop ss (suc k) (omega arith))) in
        rw (← drop-drop, past, drop-cons ss (suc k) nothing, get_or-map section_of us k empty, fitting.0)

    pub number_inside : (i : ℕ) → i < length u.numbers → start + u.width * i + u.width ≤ length b
    number_inside i l =
        omega (
          arith,
          simp (length-drop, length-append, length_bytes) at (ap length behind),
          mul-le-mul_left u.width l,
          mul-suc u.width i,
          fitting.1,
        )

    pub number_reads : (i : ℕ) → i < length u.numbers → read u.width (start + u.width * i) b ≡ get_or u.numbers i 0
    number_reads i l = rw (← drop-drop, behind) (number_at u.width u.numbers _ i l (fitting.2 i l))

-- ---- every entry fits

-- what holds of each element of a list holds of what is made from its elements
module _ (P : ℕ → Type 0) where
  abbrev pub Each : List ℕ → Type 0
  Each xs = (i : ℕ) → i < length xs → P (get_or xs i 0)

  pub each_append : (xs ys : List ℕ) → Each xs → Each ys → Each (xs ++ ys)
  each_append [] ys hx hy i l = hy i l
  each_append (x ∷ xs) ys hx hy zero l = hx zero (suc-le-suc zero-le)
  each_append (x ∷ xs) ys hx hy (suc i) l = each_append xs ys (λ j k. hx (suc j) (suc-le-suc k)) hy i (le_of_suc-le-suc l)

  each_cons_if : (t : Bool) (x : ℕ) (xs : List ℕ) → P x → Each xs → Each (cons_if t x xs)
  each_cons_if true x xs hx h zero l = hx
  each_cons_if true x xs hx h (suc i) l = h i (le_of_suc-le-suc l)
  each_cons_if false x xs hx h i l = h i l

  pub each_kept : (f : ℕ → Bool) (xs : List ℕ) → Each xs → Each (keep f xs)
  each_kept f [] h = h
  each_kept f (x ∷ xs) h = each_cons_if (f x) x (keep f xs) (h zero (suc-le-suc zero-le)) (each_kept f xs (λ j l. h (suc j) (suc-le-suc l)))

  each_map : {A : Type 0} (f : A → ℕ) (xs : List A) → ((x : A) → P (f x)) → Each (map f xs)
  each_map f [] h i l = absurd (not-suc-le-zero l)
  each_map f (x ∷ xs) h zero l = h x
  each_map f (x ∷ xs) h (suc i) l = each_map f xs h i (le_of_suc-le-suc l)

  each_one : (x : ℕ) → P x → Each (x ∷ [])
  each_one x h zero l = h
  each_one x h (suc i) l = absurd (not-suc-le-zero (le_of_suc-le-suc l))

-- a word gathered from w digits
pub below_gather : (b w : ℕ) → 0 < b → 0 < w → (ds : List ℕ) → Below b ds → Below (b ^ w) (gather b w ds)
below_gather b w pb pw ds h i l =
    rw (gather_at b w ds i (omega (arith, length_gather b w ds)))
    (horner_lt b w (take w (drop (w * i) ds)) pb (below_block b w pb pw ds h i) (length_block b w pb pw ds i))

pub fits3 : (trits H : List ℕ) → Below (256 ^ 8) (mark_words trits H)
unfolding mark_words
fits3 trits H = below_gather 2 64 (lit< tt) (lit< tt) (marks trits H) (below_marks trits H)

pub fits4 : (trits H : List ℕ) → length H ≡ count_in 2 trits → length trits ≤ 125536 → Below (256 ^ 4) (starts trits H)
unfolding starts
fits4 trits H e few =
    let k : length H ≤ 125536 = omega (arith, count_le 2 trits) in
    each_append (λ x. x < 256 ^ 4) (map (λ i. length (grouped trits H (i - 1))) (marked_nodes trits H)) (length H ∷ [])
    (each_map (λ x. x < 256 ^ 4) (λ i. length (grouped trits H (i - 1))) (marked_nodes trits H) (λ i. omega (arith, grouped_le trits H e (i - 1))))
    (each_one (λ x. x < 256 ^ 4) (length H) (omega arith))

below_places : (t : ℕ) (xs : List ℕ) → Below (length xs) (places t xs)
below_places t xs j l = (place_of_lem t xs j (omega (arith, length_places t xs))).inside

-- places below L
below_grouped : (trits H : List ℕ) (j : ℕ) → Below (length trits) (grouped trits H j)
unfolding grouped group places
below_grouped trits H zero = λ i l. absurd (not-suc-le-zero l)
below_grouped trits H (suc j) =
    rw grouped_suc
    (each_append (λ x. x < length trits) (grouped trits H j) (group trits H (suc j)) (below_grouped trits H j)
    (each_kept (λ x. x < length trits) (λ p. eqb (shadow_at trits H p) (suc j)) (places 2 trits) (below_places 2 trits)))

pub fits5 : (trits H : List ℕ) → length trits ≤ 125536 → Below (256 ^ 4) (grouped trits H (node_count trits))
fits5 trits H few i l = omega (arith, below_grouped trits H (node_count trits) i l)

pair_at : (trits : List ℕ) (from : ℕ → ℕ) (p t : ℕ) → t < 2 → get_or (pair trits from p) t 0 ≡ rank t trits p - rank t trits (from p)
unfolding pair
pair_at trits from p zero lt = refl
pair_at trits from p (suc zero) lt = refl
pair_at trits from p (suc (suc t)) lt = absurd (omega arith)

-- zeros at 2·q, ones at 2·q + 1
pub pairs_at : (s : ℕ) (from : ℕ → ℕ) (trits : List ℕ) (q t : ℕ) → q < length trits / s + 1 → t < 2
    → get_or (pairs s from trits) (2 * q + t) 0 ≡ rank t trits (s * q) - rank t trits (from (s * q))
unfolding pairs pair
pairs_at s from trits q t h lt =
    let n : ℕ = length trits / s + 1 in
    let l : q < length (run 0 n) = omega (arith, length_run 0 n) in
    rw (← get_or-drop (2 * q), ← get_or-take 2, block 2 (λ q. pair trits from (s * q)) (λ q. refl) (run 0 n) q 0, get_or_run 0 n q 0 h, zero-add)
    (pair_at trits from (s * q) t lt)

-- a difference of ranks is at most the distance
below_pairs : (s : ℕ) (from : ℕ → ℕ) (trits : List ℕ) (b : ℕ) → ((q : ℕ) → q < length trits / s + 1 → (from (s * q) ≤ s * q) × (s * q - from (s * q) < b))
    → Below b (pairs s from trits)
below_pairs s from trits b h i l =
    let q : ℕ = i / 2 in
    let t : ℕ = i % 2 in
    let e : i ≡ 2 * q + t = omega arith in
    let lq : q < length trits / s + 1 = omega (arith, length_pairs s from trits) in
    let a : ℕ = from (s * q) in
    rw e (omega (arith, pairs_at s from trits q t lq (mod-lt i (lit< tt)), rank_cut t trits a (s * q) (h q lq).0, rank_le t (drop a trits) (s * q - a), (h q lq).1))

pub fits6 : (trits : List ℕ) → length trits ≤ 125536 → Below (256 ^ 4) (pairs 65725 (λ p. 0) trits)
fits6 trits few = below_pairs 65725 (λ p. 0) trits (256 ^ 4) (λ q l. (zero-le, omega arith))

pub fits7 : (trits : List ℕ) → Below (256 ^ 2) (pairs 275 (last_multiple 65725) trits)
fits7 trits = below_pairs 275 (last_multiple 65725) trits (256 ^ 2) (λ q l. (omega arith, omega arith))

pub fits8 : (trits : List ℕ) → Below (256 ^ 1) (pairs 25 (last_multiple 275) trits)
fits8 trits = below_pairs 25 (last_multiple 275) trits (256 ^ 1) (λ q l. (omega arith, omega arith))

pub fits9 : (trits H : List ℕ) → node_count trits ≤ 30000 → Below (256 ^ 2) (mark_samples trits H)
unfolding mark_samples
fits9 trits H few i l =
    omega (
      arith,
      get_or_each (up (node_count trits) 64) (λ w. rank 1 (marks trits H) (64 * w)) i 0 (omega (arith, length_mark_samples trits H)),
      rank_count 1 (marks trits H) (64 * i),
      count_le 1 (marks trits H),
      length_marks trits H,
    )

-- ---- the image

-- sections 2 to 9
abbrev pub uniforms : List ℕ → List ℕ → List Uniform
uniforms trits H =
    record { section = section2 trits H; width = 2; numbers = H }
    ∷ record { section = section3 trits H; width = 8; numbers = mark_words trits H }
    ∷ record { section = section4 trits H; width = 4; numbers = starts trits H }
    ∷ record { section = section5 trits H; width = 4; numbers = grouped trits H (node_count trits) }
    ∷ record { section = section6 trits H; width = 4; numbers = pairs 65725 (λ p. 0) trits }
    ∷ record { section = section7 trits H; width = 2; numbers = pairs 275 (last_multiple 65725) trits }
    ∷ record { section = section8 trits H; width = 1; numbers = pairs 25 (last_multiple 275) trits }
    ∷ record { section = section9 trits H; width = 2; numbers = mark_samples trits H }
    ∷ []

pub image_sectioned : (trits H : List ℕ) → ProperTrits trits H
    → Sectioned (section1 trits H) (uniforms trits H) (sizes (length trits) (node_count trits) (length H) (length (marked_nodes trits H))) (image trits H)
unfolding image given section1 section2 section3 section4 section5 section6 section7 section8 section9
image_sectioned trits H p =
    record {
      is = refl;
      sized =
          simp (
            length_trytes,
            length_bytes,
            length_mark_words,
            length_starts,
            length_grouped trits H p.paired (shadow_nodes trits H p.paired p.seen),
            length_pairs,
            length_mark_samples,
            one-mul,
          );
      fits = (
        (refl, lit< tt, shadows_small trits H p),
        (
          (refl, lit< tt, fits3 trits H),
          (
            (refl, lit< tt, fits4 trits H p.paired p.length_high),
            (
              (refl, lit< tt, fits5 trits H p.length_high),
              (
                (refl, lit< tt, fits6 trits p.length_high),
                (
                  (refl, lit< tt, fits7 trits),
                  (
                    (refl, lit< tt, fits8 trits),
                    ((refl, lit< tt, fits9 trits H (limits_nodes trits p.in_limits)), tt),
                  ),
                ),
              ),
            ),
          ),
        ),
      );
    }
