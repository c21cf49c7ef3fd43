-- From a node to its group: the mark words, their samples, the starts and section 5. Assumes nothing.
use Prim.Native.Nat.{ℕ, zero, suc, ◌+◌, ◌-◌, ◌*◌, ◌/◌, ◌%◌, ◌^◌, ◌≤◌, ◌<◌, suc-le-suc}
use native.Mathlib.Nat.{zero-add, suc-add, add-suc, add-zero, le_of_suc-le-suc, not-suc-le-zero, pow-zero, pow-suc, mod-one, mod-lt}
use native.Mathlib.Omega.{arith}
use native.Mathlib.Numerals.{one-add, sub-one}
use mathlib.Core.Path.{◌≡◌, refl, sym, ap, ap₂, ◌∙◌, subst}
use mathlib.Core.Bool.{Bool, true, false}
use mathlib.Core.List.{List, [], ◌∷◌, ◌++◌, map, append_assoc}
use lib.Dec.{eqb, lit<}
use lib.Arith.{mod-mul, digits_div, digits_mod}
use lib.Pow.{pow_pos}
use lib.Count.{ones, ones_step}
use lib.ListN.{length, get_or, take, drop, length-append, length-drop}
use lib.Seq.{take-append_seam, drop-append_seam, length-take-le, get_or-take, get_or-drop, ext_get_or}
use borrow.Author.Tests.{ltb-false}
use Rattle.format.specs.Lists.{bit, run, cons_if, keep, count_in, up, low_digits, Below, join}
use Rattle.format.specs.Trits.{rank}
use Rattle.format.specs.Image.{node_count, marked, marks, mark_words, mark_samples, marked_nodes, group, grouped, starts}
use Rattle.format.specs.Table.{AllNodes}
use Rattle.format.proofs.Laws.{get_or_each, rank_add, bit_le, get_or_map_run}
use Rattle.format.proofs.Digits.{length_digits, gather_digit, lt_up}
use Rattle.format.proofs.Sizes.{length_marks, length_group, length_grouped, grouped_suc, grouped_add}

-- ---- the marks of nodes 1 to n

-- node j + 1
pub marks_at : (trits H : List ℕ) (j : ℕ) → j < node_count trits → get_or (marks trits H) j 0 ≡ bit (marked H (suc j))
unfolding marks
marks_at trits H j h = get_or_map_run (λ i. bit (marked H i)) 1 (node_count trits) j 0 h ∙ ap (λ (i : ℕ). bit (marked H i)) (one-add j)

pub below_marks : (trits H : List ℕ) → Below 2 (marks trits H)
below_marks trits H j h =
    let l : j < node_count trits = subst (λ (n : ℕ). j < n) (length_marks trits H) h in
    subst (λ (x : ℕ). x < 2) (sym (marks_at trits H j l)) (suc-le-suc (bit_le (marked H (suc j))))

-- node j + 1's bit in its word
pub mark_bit : (trits H : List ℕ) (q r : ℕ) → 64 * q + r < node_count trits → r < 64
    → get_or (low_digits 2 64 (get_or (mark_words trits H) q 0)) r 0 ≡ bit (marked H (suc (64 * q + r)))
unfolding mark_words
mark_bit trits H q r h l =
    gather_digit 2 64 (lit< tt) (lit< tt) (marks trits H) (below_marks trits H) q r
    (lt_up (length (marks trits H)) 64 (lit< tt) q (omega (arith, length_marks trits H))) l
    ∙ marks_at trits H (64 * q + r) h

-- ---- marks before a node: the sample plus the ones in part of one word

ones_of_zero : ones 0 ≡ 0
unfolding ones
ones_of_zero = refl

-- the ones of x below bit r
pub ones_below : (w x r : ℕ) → r ≤ w → ones (x % 2 ^ r) ≡ count_in 1 (take r (low_digits 2 w x))
ones_below w x zero h = ap (λ (k : ℕ). ones (x % k)) (pow-zero 2) ∙ ap ones (mod-one x) ∙ ones_of_zero
ones_below zero x (suc r) h = absurd (not-suc-le-zero h)
ones_below (suc w) x (suc r) h =
    let e : x % 2 ^ suc r ≡ (x / 2 % 2 ^ r) * 2 + x % 2 = ap (λ (k : ℕ). x % k) (pow-suc 2 r) ∙ mod-mul x (pow_pos r) (lit< tt) in
    ap ones e
    ∙ ones_step ((x / 2 % 2 ^ r) * 2 + x % 2)
    ∙ ap₂ (λ (a b : ℕ). a + ones b) (digits_mod (x / 2 % 2 ^ r) (mod-lt x (lit< tt))) (digits_div (x / 2 % 2 ^ r) (mod-lt x (lit< tt)))
    ∙ ap₂ (λ (a b : ℕ). a + b) (sym (low (x % 2) (mod-lt x (lit< tt)))) (ones_below w (x / 2) r (le_of_suc-le-suc h))
  where
    low : (d : ℕ) → d < 2 → bit (eqb d 1) ≡ d
    low zero l = refl
    low (suc zero) l = refl
    low (suc (suc d)) l = absurd (omega arith)

pub marks_before : (trits H : List ℕ) (q r : ℕ) → 64 * q + r < node_count trits → r < 64
    → rank 1 (marks trits H) (64 * q + r) ≡ get_or (mark_samples trits H) q 0 + ones (get_or (mark_words trits H) q 0 % 2 ^ r)
unfolding mark_samples mark_words rank
marks_before trits H q r h l =
    let ms : List ℕ = marks trits H in
    let word : ℕ = get_or (mark_words trits H) q 0 in
    let len : length ms ≡ node_count trits = length_marks trits H in
    let lq : q < up (node_count trits) 64 = lt_up (node_count trits) 64 (lit< tt) q (omega arith) in
    let e1 : length (take r (low_digits 2 64 word)) ≡ r = length-take-le r (low_digits 2 64 word) (omega (arith, length_digits 2 64 word)) in
    let e2 : length (take r (drop (64 * q) ms)) ≡ r = length-take-le r (drop (64 * q) ms) (omega (arith, length-drop (64 * q) ms)) in
    let part : take r (drop (64 * q) ms) ≡ take r (low_digits 2 64 word) =
    ext_get_or 0 (take r (drop (64 * q) ms)) (take r (low_digits 2 64 word)) (e2 ∙ sym e1)
    (λ i li.
    let lr : i < r = omega arith in
    get_or-take r (drop (64 * q) ms) i 0 lr ∙ get_or-drop (64 * q) ms i 0
    ∙ sym (get_or-take r (low_digits 2 64 word) i 0 lr
    ∙ gather_digit 2 64 (lit< tt) (lit< tt) ms (below_marks trits H) q i (lt_up (length ms) 64 (lit< tt) q (omega arith)) (omega arith))) in
    rank_add 1 ms (64 * q) r
    ∙ ap₂ (λ (x y : ℕ). x + y)
    (sym (get_or_each (up (node_count trits) 64) (λ w. rank 1 ms (64 * w)) q 0 lq))
    (ap (count_in 1) part ∙ sym (ones_below 64 word r (omega arith)))

-- ---- starts: the entry at the number of marks before node j + 1 is the number of shadows of nodes 1 to j

module _ (m : ℕ → Bool) (g : ℕ → ℕ) (flat : (j : ℕ) → m (suc j) ≡ false → g (suc j) ≡ g j) where
  from : ℕ → ℕ → List ℕ
  from a n = map (λ i. g (i - 1)) (keep m (run (suc a) n)) ++ (g (a + n) ∷ [])

  -- marks of nodes a + 1 to a + j
  before : ℕ → ℕ → ℕ
  before a j = count_in 1 (map (λ i. bit (m i)) (run (suc a) j))

  from_suc : (a n : ℕ) (b : Bool) → m (suc a) ≡ b → from a (suc n) ≡ cons_if b (g a) (from (suc a) n)
  unfolding from
  from_suc a n true e =
      ap (λ (c : Bool). map (λ i. g (i - 1)) (cons_if c (suc a) (keep m (run (suc (suc a)) n))) ++ (g (a + suc n) ∷ [])) e
      ∙ ap₂ (λ (x y : ℕ). x ∷ (map (λ i. g (i - 1)) (keep m (run (suc (suc a)) n)) ++ (g y ∷ []))) (ap g (sub-one (suc a))) (add-suc a n ∙ sym (suc-add a n))
  from_suc a n false e =
      ap (λ (c : Bool). map (λ i. g (i - 1)) (cons_if c (suc a) (keep m (run (suc (suc a)) n))) ++ (g (a + suc n) ∷ [])) e
      ∙ ap (λ (y : ℕ). map (λ i. g (i - 1)) (keep m (run (suc (suc a)) n)) ++ (g y ∷ [])) (add-suc a n ∙ sym (suc-add a n))

  from_head : (a n : ℕ) → get_or (from a n) 0 0 ≡ g a
  unfolding from
  from_head a zero = ap g (add-zero a)
  from_head a (suc n) = go (m (suc a)) refl (from_head (suc a) n)
    where
      go : (b : Bool) → m (suc a) ≡ b → get_or (from (suc a) n) 0 0 ≡ g (suc a) → get_or (from a (suc n)) 0 0 ≡ g a
      go true e ih = ap (λ (l : List ℕ). get_or l 0 0) (from_suc a n true e)
      go false e ih = ap (λ (l : List ℕ). get_or l 0 0) (from_suc a n false e) ∙ ih ∙ flat a e

  from_at : (a n j : ℕ) → j ≤ n → get_or (from a n) (before a j) 0 ≡ g (a + j)
  unfolding before
  from_at a n zero h = from_head a n ∙ ap g (sym (add-zero a))
  from_at a zero (suc j) h = absurd (not-suc-le-zero h)
  from_at a (suc n) (suc j) h = go (m (suc a)) refl (from_at (suc a) n j (le_of_suc-le-suc h))
    where
      go : (b : Bool) → m (suc a) ≡ b → get_or (from (suc a) n) (before (suc a) j) 0 ≡ g (suc a + j) → get_or (from a (suc n)) (before a (suc j)) 0 ≡ g (a + suc j)
      go true e ih =
          ap₂ (λ (l : List ℕ) (k : ℕ). get_or l k 0) (from_suc a n true e) (ap (λ (c : Bool). bit (eqb (bit c) 1) + before (suc a) j) e ∙ one-add (before (suc a) j))
          ∙ ih ∙ ap g (suc-add a j ∙ sym (add-suc a j))
      go false e ih =
          ap₂ (λ (l : List ℕ) (k : ℕ). get_or l k 0) (from_suc a n false e) (ap (λ (c : Bool). bit (eqb (bit c) 1) + before (suc a) j) e ∙ zero-add (before (suc a) j))
          ∙ ih ∙ ap g (suc-add a j ∙ sym (add-suc a j))

take_run : (a n j : ℕ) → j ≤ n → take j (run a n) ≡ run a j
take_run a n zero h = refl
take_run a zero (suc j) h = absurd (not-suc-le-zero h)
take_run a (suc n) (suc j) h = ap {B = List ℕ} (λ r. a ∷ r) (take_run (suc a) n j (le_of_suc-le-suc h))

take_map : (f : ℕ → ℕ) (j : ℕ) (xs : List ℕ) → take j (map f xs) ≡ map f (take j xs)
take_map f zero xs = refl
take_map f (suc j) [] = refl
take_map f (suc j) (x ∷ xs) = ap {B = List ℕ} (λ r. f x ∷ r) (take_map f j xs)

flat : (trits H : List ℕ) → length H ≡ count_in 2 trits → (j : ℕ) → marked H (suc j) ≡ false → length (grouped trits H (suc j)) ≡ length (grouped trits H j)
unfolding marked
flat trits H e j q =
    ap length (grouped_suc trits H j) ∙ length-append (grouped trits H j) (group trits H (suc j))
    ∙ omega (arith, length_group trits H e (suc j), ltb-false 0 (count_in (suc j) H) q)

pub starts_at : (trits H : List ℕ) → length H ≡ count_in 2 trits → AllNodes (node_count trits) H → (j : ℕ) → j ≤ node_count trits
    → get_or (starts trits H) (rank 1 (marks trits H) j) 0 ≡ length (grouped trits H j)
unfolding starts marked_nodes marks from before rank
starts_at trits H e h j l =
    let n : ℕ = node_count trits in
    let g : ℕ → ℕ = λ i. length (grouped trits H i) in
    let ek : length H ≡ g (0 + n) = sym (ap g (zero-add n) ∙ length_grouped trits H e h) in
    let er : rank 1 (marks trits H) j ≡ before (marked H) g (flat trits H e) 0 j =
    ap (count_in 1) (take_map (λ i. bit (marked H i)) j (run 1 n) ∙ ap (map (λ i. bit (marked H i))) (take_run 1 n j l)) in
    ap₂ (λ (x k : ℕ). get_or (map (λ i. g (i - 1)) (keep (marked H) (run 1 n)) ++ (x ∷ [])) k 0) ek er
    ∙ from_at (marked H) g (flat trits H e) 0 n j l
    ∙ ap g (zero-add j)

-- ---- section 5, from a node's start up to the next one's

pub group_at : (trits H : List ℕ) (n j : ℕ) → suc j ≤ n
    → take (length (group trits H (suc j))) (drop (length (grouped trits H j)) (grouped trits H n)) ≡ group trits H (suc j)
group_at trits H n j h =
    let a : List ℕ = grouped trits H j in
    let b : List ℕ = group trits H (suc j) in
    let rest : List ℕ = join (map (group trits H) (run (1 + suc j) (n - suc j))) in
    let e : n ≡ suc j + (n - suc j) = omega arith in
    let cut : grouped trits H n ≡ a ++ (b ++ rest) =
    ap (grouped trits H) e ∙ grouped_add trits H (suc j) (n - suc j) ∙ ap (λ (l : List ℕ). l ++ rest) (grouped_suc trits H j) ∙ append_assoc a b rest in
    ap (λ (l : List ℕ). take (length b) (drop (length a) l)) cut ∙ ap (take (length b)) (drop-append_seam a (b ++ rest)) ∙ take-append_seam b rest
