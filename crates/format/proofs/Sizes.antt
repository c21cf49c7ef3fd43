-- How long the sections and the image are. Assumes nothing.
use Prim.Native.Nat.{ℕ, zero, suc, ◌+◌, ◌-◌, ◌*◌, ◌/◌, ◌≤◌, ◌<◌, zero-le, suc-le-suc}
use native.Mathlib.Nat.{le_refl, suc_inj}
use native.Mathlib.Omega.{arith}
use native.Mathlib.Numerals.{one-add, add-one}
use mathlib.Core.Path.{◌≡◌, refl, sym, ap, ap₂, ◌∙◌, subst}
use mathlib.Core.Bool.{Bool, true, false, ◌&&◌}
use mathlib.Core.List.{List, [], ◌∷◌, ◌++◌, map, append-nil, map-append}
use lib.Dec.{eqb, leb}
use lib.ListN.{length, get_or, length-append, length-map, get_or-map}
use borrow.Author.Tests.{eq-eqb, ne_eqb, le-leb, lt-leb}
use native.Mathlib.Decide.{dec_le}
use lib.Seq.{ext_get_or}
use Rattle.format.specs.Lists.{bit, run, join, count_in, up, one_to}
use Rattle.format.specs.Trits.{rank, places, trytes}
use Rattle.format.specs.Image.{le_bytes, bytes, node_count, marked, marks, mark_words, group, grouped, marked_nodes, starts, pair, pairs, last_multiple, mark_samples, Section, section1, section2, given, written, image, shadow_at, section3, section4, section5, section6, section7, section8, section9}
use Rattle.format.specs.Table.{AllNodes}
use Rattle.format.proofs.Laws.{length_run, length_each, true_both, bit_le, run_snoc, join_append, length_keep_key, run_add, get_or_other}
use Rattle.format.proofs.Digits.{length_digits, length_gather, length_spread, length_blocks}
use Rattle.format.proofs.Select.{length_places, place_of_lem}

-- ---- section 5 has an entry for each entry of H

-- how many entries of H are nodes 1 to j
lows : ℕ → List ℕ → ℕ
lows j [] = 0
lows j (h ∷ H) = bit (leb 1 h && leb h j) + lows j H

step : (h j : ℕ) → bit (leb 1 h && leb h (suc j)) ≡ bit (leb 1 h && leb h j) + bit (eqb h (suc j))
step zero j = sym (ap (λ (b : Bool). 0 + bit b) (ne_eqb 0 (suc j) (omega arith)))
step (suc h) j = go (dec_le (suc h) j) (dec_le (suc h) (suc j))
  where
    one : leb 1 (suc h) ≡ true
    one = le-leb 1 (suc h) (suc-le-suc zero-le)

    go : Dec (suc h ≤ j) → Dec (suc h ≤ suc j) → bit (leb 1 (suc h) && leb (suc h) (suc j)) ≡ bit (leb 1 (suc h) && leb (suc h) j) + bit (eqb (suc h) (suc j))
    go (yes p) d = simp (one, le-leb (suc h) (suc j) (omega arith), le-leb (suc h) j p, ne_eqb (suc h) (suc j) (omega arith))
    go (no p) (yes q) = simp (one, le-leb (suc h) (suc j) q, lt-leb (suc h) j (omega arith), eq-eqb (suc h) (suc j) (omega arith))
    go (no p) (no q) = simp (one, lt-leb (suc h) (suc j) (omega arith), lt-leb (suc h) j (omega arith), ne_eqb (suc h) (suc j) (omega arith))

lows_suc : (j : ℕ) (H : List ℕ) → lows (suc j) H ≡ lows j H + count_in (suc j) H
unfolding lows
lows_suc j [] = refl
lows_suc j (h ∷ H) = omega (arith, step h j, lows_suc j H)

lows_zero : (H : List ℕ) → lows 0 H ≡ 0
unfolding lows
lows_zero [] = refl
lows_zero (zero ∷ H) = ap (λ (k : ℕ). 0 + k) (lows_zero H)
lows_zero (suc h ∷ H) = ap (λ (b : Bool). bit (leb 1 (suc h) && b) + lows 0 H) (lt-leb (suc h) 0 (suc-le-suc zero-le)) ∙ go (leb 1 (suc h)) (lows_zero H)
  where
    go : (b : Bool) → lows 0 H ≡ 0 → bit (b && false) + lows 0 H ≡ 0
    go true e = ap (λ (k : ℕ). 0 + k) e
    go false e = ap (λ (k : ℕ). 0 + k) e

lows_all : (n : ℕ) (H : List ℕ) → AllNodes n H → lows n H ≡ length H
unfolding lows
lows_all n [] h = refl
lows_all n (x ∷ H) h =
    let h0 = h zero (suc-le-suc zero-le) in
    let e : bit (leb 1 x && leb x n) ≡ 1 = ap bit (true_both (leb 1 x) (leb x n) (le-leb 1 x h0.0) (le-leb x n h0.1)) in
    omega (arith, lows_all n H (λ j l. h (suc j) (suc-le-suc l)))

-- the twos, in their order, have the entries of H
pub shadows_map : (trits H : List ℕ) → length H ≡ count_in 2 trits → map (shadow_at trits H) (places 2 trits) ≡ H
unfolding shadow_at
shadows_map trits H e =
    let f : ℕ → ℕ = shadow_at trits H in
    let n : length (map f (places 2 trits)) ≡ count_in 2 trits = length-map (places 2 trits) f ∙ length_places 2 trits in
    ext_get_or (f 0) (map f (places 2 trits)) H (n ∙ sym e)
    (λ j l.
    let h : j < count_in 2 trits = subst (λ (k : ℕ). j < k) n l in
    get_or-map f (places 2 trits) j 0 ∙ ap (λ (k : ℕ). get_or H k 0) (suc_inj (place_of_lem 2 trits j h).ranked) ∙ get_or_other H j 0 (f 0) (omega arith))

pub length_group : (trits H : List ℕ) → length H ≡ count_in 2 trits → (i : ℕ) → length (group trits H i) ≡ count_in i H
unfolding group
length_group trits H e i = length_keep_key (shadow_at trits H) i (places 2 trits) ∙ ap (count_in i) (shadows_map trits H e)

-- the groups of a nodes, and of d nodes more
pub grouped_add : (trits H : List ℕ) (a d : ℕ) → grouped trits H (a + d) ≡ grouped trits H a ++ join (map (group trits H) (run (1 + a) d))
unfolding grouped
grouped_add trits H a d =
    let f : ℕ → List ℕ = group trits H in
    ap (λ (l : List ℕ). join (map f l)) (run_add 1 a d) ∙ ap join (map-append f (one_to a) (run (1 + a) d)) ∙ join_append (map f (one_to a)) (map f (run (1 + a) d))

pub grouped_suc : (trits H : List ℕ) (i : ℕ) → grouped trits H (suc i) ≡ grouped trits H i ++ group trits H (suc i)
grouped_suc trits H i =
    ap (grouped trits H) (sym (add-one i)) ∙ grouped_add trits H i 1
    ∙ ap (λ (l : List ℕ). grouped trits H i ++ l) (append-nil (group trits H (1 + i)) ∙ ap (group trits H) (one-add i))

length_grouped_lows : (trits H : List ℕ) → length H ≡ count_in 2 trits → (j : ℕ) → length (grouped trits H j) ≡ lows j H
unfolding grouped
length_grouped_lows trits H e zero = sym (lows_zero H)
length_grouped_lows trits H e (suc j) =
    ap length (grouped_suc trits H j) ∙ length-append (grouped trits H j) (group trits H (suc j))
    ∙ omega (arith, length_grouped_lows trits H e j, length_group trits H e (suc j), lows_suc j H)

pub length_grouped : (trits H : List ℕ) → length H ≡ count_in 2 trits → AllNodes (node_count trits) H → length (grouped trits H (node_count trits)) ≡ length H
length_grouped trits H e h = length_grouped_lows trits H e (node_count trits) ∙ lows_all (node_count trits) H h

lows_le : (j : ℕ) (H : List ℕ) → lows j H ≤ length H
unfolding lows
lows_le j [] = zero-le
lows_le j (h ∷ H) = omega (arith, bit_le (leb 1 h && leb h j), lows_le j H)

pub grouped_le : (trits H : List ℕ) → length H ≡ count_in 2 trits → (j : ℕ) → length (grouped trits H j) ≤ length H
grouped_le trits H e j = omega (arith, length_grouped_lows trits H e j, lows_le j H)

-- ---- the others

pub length_trytes : (trits : List ℕ) → length (trytes trits) ≡ up (length trits) 5
unfolding trytes
length_trytes trits = length_gather 3 5 trits

pub length_bytes : (w : ℕ) (xs : List ℕ) → length (bytes w xs) ≡ w * length xs
unfolding bytes
length_bytes w xs = length_spread 256 w xs

pub length_marks : (trits H : List ℕ) → length (marks trits H) ≡ node_count trits
unfolding marks
length_marks trits H = length-map (run 1 (node_count trits)) (λ i. bit (marked H i)) ∙ length_run 1 (node_count trits)

pub length_mark_words : (trits H : List ℕ) → length (mark_words trits H) ≡ up (node_count trits) 64
unfolding mark_words
length_mark_words trits H = length_gather 2 64 (marks trits H) ∙ ap (λ (n : ℕ). up n 64) (length_marks trits H)

pub length_starts : (trits H : List ℕ) → length (starts trits H) ≡ length (marked_nodes trits H) + 1
unfolding starts
length_starts trits H =
    length-append (map (λ i. length (grouped trits H (i - 1))) (marked_nodes trits H)) (length H ∷ [])
    ∙ ap (λ (k : ℕ). k + 1) (length-map (marked_nodes trits H) (λ i. length (grouped trits H (i - 1))))

pub length_pairs : (s : ℕ) (from : ℕ → ℕ) (trits : List ℕ) → length (pairs s from trits) ≡ 2 * (length trits / s + 1)
unfolding pairs pair
length_pairs s from trits =
    length_blocks 2 (λ q. pair trits from (s * q)) (λ q. refl) (run 0 (length trits / s + 1)) ∙ ap (λ (k : ℕ). 2 * k) (length_run 0 (length trits / s + 1))

pub length_mark_samples : (trits H : List ℕ) → length (mark_samples trits H) ≡ up (node_count trits) 64
unfolding mark_samples
length_mark_samples trits H = length_each (up (node_count trits) 64) (λ w. rank 1 (marks trits H) (64 * w))

-- ---- the image

abbrev pub size : List Section → ℕ
size [] = 0
size (s ∷ ss) = 4 + length s.contents + size ss

pub length_written : (ss : List Section) → length (written ss) ≡ size ss
length_written [] = refl
length_written (s ∷ ss) =
    length-append (le_bytes 4 s.entries) (s.contents ++ written ss)
    ∙ omega (arith, length_digits 256 4 s.entries, length-append s.contents (written ss), length_written ss)

-- how long it is: nine counts, and the contents
unfoldable pub image_length : List ℕ → List ℕ → ℕ
unfolding node_count marked_nodes
image_length trits H =
    let L : ℕ = length trits in
    let n : ℕ = node_count trits in
    let k : ℕ = length H in
    let h : ℕ = length (marked_nodes trits H) in
    9 * 4 + up L 5 + 2 * k + 8 * up n 64 + 4 * (h + 1) + 4 * k + 8 * (L / 65725 + 1) + 4 * (L / 275 + 1) + 2 * (L / 25 + 1) + 2 * up n 64

pub length_image : (trits H : List ℕ) → length H ≡ count_in 2 trits → AllNodes (node_count trits) H → length (image trits H) ≡ image_length trits H
unfolding image image_length given section1 section2 section3 section4 section5 section6 section7 section8 section9
length_image trits H e h =
    length_written (section1 trits H ∷ section2 trits H ∷ given trits H)
    ∙ omega (
      arith,
      length_trytes trits,
      length_bytes 2 H,
      length_bytes 8 (mark_words trits H),
      length_mark_words trits H,
      length_bytes 4 (starts trits H),
      length_starts trits H,
      length_bytes 4 (grouped trits H (node_count trits)),
      length_grouped trits H e h,
      length_bytes 4 (pairs 65725 (λ p. 0) trits),
      length_pairs 65725 (λ p. 0) trits,
      length_bytes 2 (pairs 275 (last_multiple 65725) trits),
      length_pairs 275 (last_multiple 65725) trits,
      length_bytes 1 (pairs 25 (last_multiple 275) trits),
      length_pairs 25 (last_multiple 275) trits,
      length_bytes 2 (mark_samples trits H),
      length_mark_samples trits H,
    )

-- ---- f 1 + f 2 + .. + f n

abbrev pub total : (ℕ → ℕ) → ℕ → ℕ
total f zero = 0
total f (suc i) = total f i + f (suc i)

-- entries that are nodes 1 to n, counted node by node
pub total_counts : (n : ℕ) (H : List ℕ) → AllNodes n H → total (λ i. count_in i H) n ≡ length H
total_counts n H h = go n ∙ lows_all n H h
  where
    go : (j : ℕ) → total (λ i. count_in i H) j ≡ lows j H
    go zero = sym (lows_zero H)
    go (suc j) = ap (λ (k : ℕ). k + count_in (suc j) H) (go j) ∙ sym (lows_suc j H)

pub total_cong : (f g : ℕ → ℕ) (n : ℕ) → ((i : ℕ) → 1 ≤ i → i ≤ n → f i ≡ g i) → total f n ≡ total g n
total_cong f g zero h = refl
total_cong f g (suc n) h = ap₂ (λ (x y : ℕ). x + y) (total_cong f g n (λ i a b. h i a (omega arith))) (h (suc n) (suc-le-suc zero-le) (le_refl (suc n)))

pub total_add : (f g : ℕ → ℕ) (n : ℕ) → total (λ i. f i + g i) n ≡ total f n + total g n
total_add f g zero = refl
total_add f g (suc n) = omega (arith, total_add f g n)

pub length_join_run : (f : ℕ → List ℕ) (n : ℕ) → length (join (map f (run 1 n))) ≡ total (λ i. length (f i)) n
length_join_run f zero = refl
length_join_run f (suc n) =
    ap (λ (l : List ℕ). length (join (map f l))) (run_snoc 1 n)
    ∙ ap (λ (l : List (List ℕ)). length (join l)) (map-append f (run 1 n) ((1 + n) ∷ []))
    ∙ ap length (join_append (map f (run 1 n)) (f (1 + n) ∷ []))
    ∙ length-append (join (map f (run 1 n))) (f (1 + n) ++ [])
    ∙ ap₂ (λ (x y : ℕ). x + y) (length_join_run f n) (ap length (append-nil (f (1 + n))) ∙ ap (λ (k : ℕ). length (f k)) (one-add n))
