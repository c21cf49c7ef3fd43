-- The table of proper trits and shadows, word by word: from the first zero on, the trit at place p has word p - c + 1. Assumes nothing.
use Prim.Native.Nat.{ℕ, zero, suc, ◌+◌, ◌-◌, ◌≤◌, ◌<◌, zero-le, suc-le-suc}
use native.Mathlib.Nat.{le_refl}
use native.Mathlib.Numerals.{add-one}
use native.Mathlib.Decide.{dec_le}
use native.Mathlib.Omega.{arith}
use mathlib.Core.Path.{◌≡◌, refl, sym, ap, ◌∙◌, subst}
use mathlib.Core.List.{List, [], ◌∷◌, ◌++◌, map, map-map, append_assoc}
use borrow.Author.Tests.{eq-eqb, ne_eqb}
use lib.ListN.{length, get_or, set, drop, length-map, drop_of_length-le, get_or-append}
use lib.Seq.{drop-cons, drop_at, drop-drop, get_or-drop}
use Rattle.format.specs.Lists.{run, one_to}
use Rattle.format.specs.Table.{counted, list_words, words}
use Rattle.format.specs.Trits.{rank, places, Selected, nth}
use Rattle.format.specs.Image.{node_count, root_count}
use Rattle.format.specs.Edges.{operand_of, operand_at, edge_at, operand_edges}
use Rattle.format.specs.Proper.{ProperTrits}
use Rattle.format.specs.Unpack.{unpack}
use Rattle.format.proofs.Laws.{length_run, get_or_map_run, rank_here, rank_mono, rank_count, rank_hit, rank_miss, rank_past, rank_three}
use Rattle.format.proofs.Select.{place_rank}
use Rattle.format.proofs.EdgeLaws.{lt_of_rank}
use Rattle.format.proofs.ProperLaws.{zeros_ones, nth_selected, proper_seen, operands_places}
use Rattle.format.proofs.Sums.{first_zero, final_zero}
use Rattle.unpacking.specs.Standing.{word_at, last_zero, stand_at, trit_put}

-- ---- what a trit puts

module _ (trits H : List ℕ) (p : ℕ) (table : List ℕ) where
  pub put_zero : get_or trits p 0 ≡ 0 → trit_put trits H p table ≡ set table (word_at trits (last_zero trits p)) (p - last_zero trits p - 1)
  unfolding trit_put
  put_zero e = rw (eq-eqb (get_or trits p 0) 0 e)

  pub put_other : (get_or trits p 0 ≡ 0 → ⊥) → trit_put trits H p table ≡ set table (word_at trits p) (operand_at trits H p)
  unfolding trit_put
  put_other e = rw (ne_eqb (get_or trits p 0) 0 e)

-- ---- the words

module _ {trits H : List ℕ} (P : ProperTrits trits H) where
  abbrev n : ℕ
  n = node_count trits

  abbrev c : ℕ
  c = root_count trits

  -- the place of zero number i, from 0
  abbrev z : ℕ → ℕ
  z i = nth 0 trits (suc i)

  zero_at : (i : ℕ) → i ≤ n → Selected 0 trits (suc i) (z i)
  zero_at i h = nth_selected 0 trits (suc i) (suc-le-suc zero-le) (omega (arith, zeros_ones trits P.is_balanced))

  zeros_rise : (i : ℕ) → i < n → z i < z (suc i)
  zeros_rise i h = lt_of_rank 0 trits (z i) (z (suc i)) (omega (arith, (zero_at i (omega arith)).ranked, (zero_at (suc i) h).ranked))

  zeros_from : (i : ℕ) → i ≤ n → c ≤ z i
  zeros_from zero h = omega (arith, first_zero trits H P)
  zeros_from (suc i) h = omega (arith, zeros_rise i h, zeros_from i (omega arith))

  -- the operands of node i, and those of all nodes
  abbrev row : ℕ → List ℕ
  row i = map operand_of (operand_edges trits H i)

  abbrev rows : List (List ℕ)
  rows = map row (one_to n)

  row_is : (i : ℕ) → i < n → row (suc i) ≡ map (operand_at trits H) (run (suc (z i)) (z (suc i) - suc (z i)))
  unfolding edge_at
  row_is i h = ap (map operand_of) (operands_places trits H P (suc i) (suc-le-suc zero-le) h) ∙ map-map operand_of (edge_at trits H) (run (suc (z i)) (z (suc i) - suc (z i)))

  row_length : (i : ℕ) → i < n → length (row (suc i)) ≡ z (suc i) - suc (z i)
  row_length i h = ap length (row_is i h) ∙ length-map (run (suc (z i)) (z (suc i) - suc (z i))) (operand_at trits H) ∙ length_run (suc (z i)) (z (suc i) - suc (z i))

  rows_cons : (i : ℕ) → i < n → drop i rows ≡ row (suc i) ∷ drop (suc i) rows
  rows_cons i h =
      let l : i < length rows = omega (arith, length-map (one_to n) row, length_run 1 n) in
      drop-cons rows i [] l ∙ ap (λ (r : List ℕ). r ∷ drop (suc i) rows) (get_or_map_run row 1 n i [] h ∙ ap row (omega arith))

  abbrev ws : List ℕ
  ws = words (unpack trits H)

  -- the words of nodes i + 1, i + 2, .. and of the roots
  abbrev after : ℕ → List ℕ
  after i = list_words (drop i rows) ++ counted (one_to c)

  after_cons : (i : ℕ) → i < n → after i ≡ length (row (suc i)) ∷ row (suc i) ++ after (suc i)
  unfolding list_words
  after_cons i h = rw (rows_cons i h, append_assoc)

  after_is : (i : ℕ) → i ≤ n → drop (word_at trits (z i)) ws ≡ after i
  unfolding words unpack
  after_is zero h = let e : word_at trits (z 0) ≡ 1 = omega (arith, first_zero trits H P) in ap (λ (k : ℕ). drop k ws) e
  after_is (suc i) h =
      let e : word_at trits (z (suc i)) ≡ word_at trits (z i) + suc (length (row (suc i))) = omega (arith, row_length i h, zeros_rise i h, zeros_from i (omega arith)) in
      rw (e, ← drop-drop, after_is i (omega arith), after_cons i h) (drop_at (row (suc i)) (after (suc i)) _ refl)

  -- word k of those from zero number i on
  word_after : (i k w : ℕ) → i ≤ n → w ≡ word_at trits (z i) + k → get_or ws w 0 ≡ get_or (after i) k 0
  word_after i k w h e = ap (λ (x : ℕ). get_or ws x 0) e ∙ sym (get_or-drop (word_at trits (z i)) ws k 0) ∙ ap (λ (l : List ℕ). get_or l k 0) (after_is i h)

  -- between zero number i and the next: its word is their count, and theirs are the operands
  count_word : (i : ℕ) → i < n → get_or ws (word_at trits (z i)) 0 ≡ z (suc i) - z i - 1
  count_word i h = word_after i 0 (word_at trits (z i)) (omega arith) (omega arith) ∙ ap (λ (l : List ℕ). get_or l 0 0) (after_cons i h) ∙ omega (arith, row_length i h)

  operand_word : (i p : ℕ) → i < n → z i < p → p < z (suc i) → get_or ws (word_at trits p) 0 ≡ operand_at trits H p
  operand_word i p h a b =
      let k : ℕ = p - suc (z i) in
      word_after i (suc k) (word_at trits p) (omega arith) (omega (arith, zeros_from i (omega arith))) ∙ ap (λ (w : List ℕ). get_or w (suc k) 0) (after_cons i h)
      ∙ get_or-append (row (suc i)) (after (suc i)) 0 k (omega (arith, row_length i h)) ∙ ap (λ (w : List ℕ). get_or w k 0) (row_is i h)
      ∙ get_or_map_run (operand_at trits H) (suc (z i)) (z (suc i) - suc (z i)) k 0 (omega arith) ∙ ap (operand_at trits H) (omega arith)

  -- a zero is the one after those before it
  zero_is : (p : ℕ) → p < length trits → get_or trits p 0 ≡ 0 → z (rank 0 trits p) ≡ p
  unfolding nth
  zero_is p l e = ap (λ (k : ℕ). get_or (places 0 trits) k 0) (omega arith) ∙ place_rank 0 trits p l e

  pub last_hit : (p : ℕ) → p < length trits → get_or trits p 0 ≡ 0 → last_zero trits (p + 1) ≡ p
  unfolding last_zero
  last_hit p l e = ap (nth 0 trits) (rank_hit 0 trits p l e ∙ add-one (rank 0 trits p)) ∙ zero_is p l e

  pub last_miss : (p : ℕ) → p < length trits → (get_or trits p 0 ≡ 0 → ⊥) → last_zero trits (p + 1) ≡ last_zero trits p
  unfolding last_zero
  last_miss p l e = ap (nth 0 trits) (rank_miss 0 trits p l e)

  first_at : Selected 0 trits 1 c
  first_at = subst (Selected 0 trits 1) (first_zero trits H P) (zero_at 0 zero-le)

  -- past the first zero
  module _ (p : ℕ) (a : c < p) (l : p < length trits) where
    -- the zeros before the last
    abbrev j : ℕ
    j = rank 0 trits p - 1

    some : rank 0 trits p ≡ suc j
    some = omega (arith, rank_here 0 trits c first_at.inside first_at.holds, rank_mono 0 trits (suc c) p a)

    few : j ≤ n
    few = omega (arith, some, rank_count 0 trits p, zeros_ones trits P.is_balanced)

    last_is : last_zero trits p ≡ z j
    unfolding last_zero
    last_is = ap (nth 0 trits) some

    pub last_from : c ≤ last_zero trits p
    last_from = omega (arith, last_is, zeros_from j few)

    pub last_past : last_zero trits p < p
    last_past = omega (arith, last_is, lt_of_rank 0 trits (z j) p (omega (arith, some, (zero_at j few).ranked)))

    pub zero_word : get_or trits p 0 ≡ 0 → get_or ws (word_at trits (last_zero trits p)) 0 ≡ p - last_zero trits p - 1
    zero_word e =
        let h : j < n = omega (arith, some, rank_here 0 trits p l e, rank_count 0 trits (suc p), zeros_ones trits P.is_balanced) in
        let f : z (suc j) ≡ p = ap z (sym some) ∙ zero_is p l e in
        ap (λ (x : ℕ). get_or ws (word_at trits x) 0) last_is ∙ count_word j h ∙ omega (arith, last_is)

    pub other_word : (get_or trits p 0 ≡ 0 → ⊥) → get_or ws (word_at trits p) 0 ≡ operand_at trits H p
    other_word e = go (dec_le (suc j) n)
      where
        go : Dec (suc j ≤ n) → get_or ws (word_at trits p) 0 ≡ operand_at trits H p
        go (no m) = let f : j ≡ n = omega (arith, few) in absurd (omega (arith, last_past, last_is, ap z f, final_zero trits H P))
        go (yes h) =
            let s = zero_at (suc j) h in
            let differ : p ≡ z (suc j) → ⊥ = λ f. e (ap (λ (x : ℕ). get_or trits x 0) f ∙ s.holds) in
            let u : p < suc (z (suc j)) = lt_of_rank 0 trits p (suc (z (suc j))) (omega (arith, some, rank_here 0 trits (z (suc j)) s.inside s.holds, s.ranked)) in
            operand_word j p h (omega (arith, last_past, last_is)) (omega arith)

  -- ---- where the pass begins: ones alone stand before the first zero

  no_twos : rank 2 trits c ≡ 0
  no_twos = go (dec_le (rank 2 trits c) 0)
    where
      go : Dec (rank 2 trits c ≤ 0) → rank 2 trits c ≡ 0
      go (yes h) = omega arith
      go (no h) =
          let s = nth_selected 2 trits 1 (le_refl 1) (omega (arith, rank_count 2 trits c)) in
          let q : ℕ = nth 2 trits 1 in
          let l : q < c = lt_of_rank 2 trits q c (omega (arith, s.ranked)) in
          absurd (omega (arith, (proper_seen trits H P q s.inside s.holds).0, rank_mono 0 trits q c (omega arith), first_at.ranked))

  pub stand_first : record { ones = c; twos = 0; zero = c } ≡ stand_at trits (c + 1)
  stand_first =
      let l = first_at.inside in
      let e = first_at.holds in
      let ones : rank 1 trits (c + 1) ≡ c =
      omega (arith, rank_miss 1 trits c l (λ q. omega arith), rank_three trits P.threes c (omega arith), no_twos, first_at.ranked) in
      let twos : rank 2 trits (c + 1) ≡ 0 = rank_miss 2 trits c l (λ q. omega arith) ∙ no_twos in
      λ i. record { ones = sym ones i; twos = sym twos i; zero = sym (last_hit c l e) i }

  -- ---- where it ends: the last zero has the word of the roots' count

  pub last_end : last_zero trits (length trits) ≡ length trits - 1
  unfolding last_zero
  last_end = ap (nth 0 trits) (rank_past 0 trits (length trits) (le_refl (length trits)) ∙ omega (arith, zeros_ones trits P.is_balanced)) ∙ final_zero trits H P

  after_last : after n ≡ counted (one_to c)
  unfolding list_words
  after_last = rw (drop_of_length-le rows {i = n} (omega (arith, length-map (one_to n) row, length_run 1 n)))

  pub roots_word : get_or ws (word_at trits (length trits - 1)) 0 ≡ c
  roots_word =
      word_after n 0 (word_at trits (length trits - 1)) (le_refl n) (omega (arith, final_zero trits H P)) ∙ ap (λ (l : List ℕ). get_or l 0 0) after_last ∙ length_run 1 c

  pub roots_rest : (w : ℕ) → w ≡ word_at trits (length trits - 1) + 1 → drop w ws ≡ one_to c
  roots_rest w e =
      let f : w ≡ word_at trits (z n) + 1 = omega (arith, final_zero trits H P) in
      ap (λ (x : ℕ). drop x ws) f ∙ sym (drop-drop 1 (word_at trits (z n)) ws) ∙ ap (drop 1) (after_is n (le_refl n) ∙ after_last)
