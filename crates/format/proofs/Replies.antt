-- What each kind of question answers: code, value and sort written out, and the bounds of its two numbers. Assumes nothing.
use Prim.Native.Nat.{ℕ, zero, suc, ◌+◌, ◌≤◌, ◌<◌}
use native.Mathlib.Nat.{le_of_suc-le-suc, not-suc-le-zero}
use native.Mathlib.Omega.{arith}
use mathlib.Core.Path.{◌≡◌, refl, sym, ap, ap₂, ◌∙◌}
use mathlib.Core.Logic.{inl, inr}
use mathlib.Core.Bool.{Bool, true, false, ◌&&◌, cond}
use mathlib.Core.Option.{Option, none, some, some-injective}
use mathlib.Core.List.{List, [], ◌∷◌, ◌++◌, map}
use lib.Dec.{eqb, leb, ltb}
use lib.ListN.{length, get_or, get_elem?, length-map}
use borrow.Author.Tests.{ne_eqb, le-leb, lt-leb, lt-ltb, le-ltb}
use Rattle.format.specs.Lists.{All, bit, cons_if, numbered, node_at, count_in}
use Rattle.format.specs.Table.{is_node}
use Rattle.format.specs.Trits.{rank, select, Selected, nth}
use Rattle.format.specs.Image.{node_count, root_count, group}
use Rattle.format.specs.Proper.{ProperTrits}
use Rattle.format.specs.Edges.{Edge, operand_of, user_of, edge_at, operand_edges, use_edges}
use Rattle.format.specs.Question.{plain, within, place_or33, operand_or33, user_or33, answer, trit_answer, rank_answer, select_answer, operand_count, operand_answer, use_count, use_answer, says, Beyond, Kinds}
use Rattle.format.proofs.Laws.{true_both, last_false}
use Rattle.format.proofs.Select.{select_at, select_none, get_elem_none}
use Rattle.format.proofs.Sizes.{length_group}
use Rattle.format.proofs.ProperLaws.{nth_selected, uses_places, operand_count_lem, use_count_lem}
use Rattle.format.proofs.Facts.{group_twos}
use Rattle.format.proofs.Lookups.{operand_at_lem}
use Rattle.format.proofs.Accepting.{each_all}
use Rattle.format.proofs.Outcomes.{kind_3, kind_4, kind_5, kind_6}

-- ---- kinds 0 to 2, and the bounds

module _ (trits H : List ℕ) where
  pub kind_unknown : (k a b : ℕ) → 6 < k → answer trits H k a b ≡ says 31 0 0
  unfolding answer
  kind_unknown (suc (suc (suc (suc (suc (suc (suc k))))))) a b h = refl
  kind_unknown zero a b h = absurd (omega arith)
  kind_unknown (suc zero) a b h = absurd (omega arith)
  kind_unknown (suc (suc zero)) a b h = absurd (omega arith)
  kind_unknown (suc (suc (suc zero))) a b h = absurd (omega arith)
  kind_unknown (suc (suc (suc (suc zero)))) a b h = absurd (omega arith)
  kind_unknown (suc (suc (suc (suc (suc zero))))) a b h = absurd (omega arith)
  kind_unknown (suc (suc (suc (suc (suc (suc zero)))))) a b h = absurd (omega arith)

  pub trit_reply : (a : ℕ) → a < length trits → answer trits H 0 a 0 ≡ says 0 (get_or trits a 0) 0
  unfolding answer trit_answer
  trit_reply a h = ap (λ (t : Bool). within 32 t (plain (get_or trits a 0))) (lt-ltb a (length trits) h)

  pub trit_32 : (a b : ℕ) → length trits ≤ a → answer trits H 0 a b ≡ says 32 0 0
  unfolding answer trit_answer
  trit_32 a b h = ap (λ (t : Bool). within 32 t (within 33 (eqb b 0) (plain (get_or trits a 0)))) (le-ltb a (length trits) h)

  pub trit_33 : (a b : ℕ) → a < length trits → 0 < b → answer trits H 0 a b ≡ says 33 0 0
  unfolding answer trit_answer
  trit_33 a b h k = ap₂ (λ (t s : Bool). within 32 t (within 33 s (plain (get_or trits a 0)))) (lt-ltb a (length trits) h) (ne_eqb b 0 (λ e. omega arith))

  pub rank_reply : (a b : ℕ) → a ≤ 2 → b ≤ length trits → answer trits H 1 a b ≡ says 0 (rank a trits b) 0
  unfolding answer rank_answer
  rank_reply a b h k = ap₂ (λ (t s : Bool). within 32 t (within 33 s (plain (rank a trits b)))) (le-leb a 2 h) (le-leb b (length trits) k)

  pub rank_32 : (a b : ℕ) → 2 < a → answer trits H 1 a b ≡ says 32 0 0
  unfolding answer rank_answer
  rank_32 a b h = ap (λ (t : Bool). within 32 t (within 33 (leb b (length trits)) (plain (rank a trits b)))) (lt-leb a 2 h)

  pub rank_33 : (a b : ℕ) → a ≤ 2 → length trits < b → answer trits H 1 a b ≡ says 33 0 0
  unfolding answer rank_answer
  rank_33 a b h k = ap₂ (λ (t s : Bool). within 32 t (within 33 s (plain (rank a trits b)))) (le-leb a 2 h) (lt-leb b (length trits) k)

  -- p holds a, and b - 1 times a stands before it
  select_reply : (a b p : ℕ) → a ≤ 2 → Selected a trits b p → answer trits H 2 a b ≡ says 0 p 0
  unfolding answer select_answer
  select_reply a b p h s =
      ap₂ (λ (t : Bool) (o : Option ℕ). within 32 t (place_or33 o)) (le-leb a 2 h)
      (ap (select a trits) (sym s.ranked) ∙ select_at a trits p s.inside s.holds)

  pub select_32 : (a b : ℕ) → 2 < a → answer trits H 2 a b ≡ says 32 0 0
  unfolding answer select_answer
  select_32 a b h = ap (λ (t : Bool). within 32 t (place_or33 (select a trits b))) (lt-leb a 2 h)

  pub select_33 : (a b : ℕ) → a ≤ 2 → Beyond (count_in a trits) b → answer trits H 2 a b ≡ says 33 0 0
  unfolding answer select_answer select
  select_33 a b h k = ap₂ (λ (t : Bool) (o : Option ℕ). within 32 t (place_or33 o)) (le-leb a 2 h) (go k)
    where
      go : Beyond (count_in a trits) b → select a trits b ≡ none
      go (inl e) = ap (select a trits) e
      go (inr l) = select_none a trits b l

-- ---- kinds 3 to 6

-- element number j is there, and so are its values in a list that is mapped
by_number : (es : List Edge) (j : ℕ) → j < length es → (e : Edge) × (get_elem? es j ≡ some e) × ((f : Edge → ℕ) → get_or (map f es) j 0 ≡ f e)
by_number [] j h = absurd (not-suc-le-zero h)
by_number (x ∷ es) zero h = (x, refl, λ f. refl)
by_number (x ∷ es) (suc j) h = by_number es j (le_of_suc-le-suc h)

beyond_none : (es : List Edge) (b : ℕ) → Beyond (length es) b → numbered es b ≡ none
beyond_none es zero h = refl
beyond_none es (suc j) (inl e) = absurd (omega arith)
beyond_none es (suc j) (inr h) = get_elem_none es j (le_of_suc-le-suc h)

abbrev sort_of : Edge → ℕ
sort_of e = e.sort

module _ (trits H : List ℕ) where
  twos_sort : (G : List ℕ) → All (λ (q : ℕ). get_or trits q 0 ≡ 2) G → (j : ℕ) → j < length G → get_or (map sort_of (map (edge_at trits H) G)) j 0 ≡ 2
  unfolding edge_at
  twos_sort [] a j h = absurd (not-suc-le-zero h)
  twos_sort (q ∷ G) a zero h = a.0
  twos_sort (q ∷ G) a (suc j) h = twos_sort G a.1 j (le_of_suc-le-suc h)

  uses_sort : (b : Bool) (r : ℕ) (G : List ℕ) → get_or trits r 0 ≡ 1 → All (λ (q : ℕ). get_or trits q 0 ≡ 2) G → (j : ℕ) → j < bit b + length G
      → get_or (map sort_of (map (edge_at trits H) (cons_if b r [] ++ G))) j 0 ≡ cond (b && eqb (suc j) 1) 1 2
  unfolding edge_at
  uses_sort true r G e a zero h = e
  uses_sort true r G e a (suc j) h = twos_sort G a j (omega arith) ∙ ap (λ (t : Bool). cond t 1 2) (sym (ne_eqb (suc (suc j)) 1 (λ q. omega arith)))
  uses_sort false r G e a j h = twos_sort G a j (omega arith)

  module _ (p : ProperTrits trits H) (i : ℕ) (l : 1 ≤ i) (u : i ≤ node_count trits) where
    -- the operands of node i stand after the i-th zero
    module _ (row : List ℕ) (e : map operand_of (operand_edges trits H i) ≡ row) where
      row_length : length (operand_edges trits H i) ≡ length row
      row_length = sym (length-map (operand_edges trits H i) operand_of) ∙ ap length e

      pub operands_reply : answer trits H 3 i 0 ≡ says 0 (length row) 0
      operands_reply = kind_3 trits H i l u ∙ ap plain row_length

      pub operand_reply : (b : ℕ) → 1 ≤ b → b ≤ length row → answer trits H 4 i b ≡ says 0 (node_at row b) (get_or trits (nth 0 trits i + b) 0)
      unfolding edge_at
      operand_reply zero h k = absurd (not-suc-le-zero h)
      operand_reply (suc j) h k =
          let es : List Edge = operand_edges trits H i in
          let d : Edge = edge_at trits H (nth 0 trits i + suc j) in
          let x = by_number es j (omega (arith, row_length)) in
          let at : numbered es (suc j) ≡ some d = operand_at_lem trits H p i (suc j) l u h (omega (arith, row_length, operand_count_lem trits H p i l u)) in
          let same : x.0 ≡ d = some-injective _ _ (sym x.1 ∙ at) in
          kind_4 trits H i l u (suc j) ∙ ap operand_or33 at
          ∙ ap (λ (v : ℕ). says 0 v d.sort) (ap operand_of (sym same) ∙ sym (x.2 operand_of) ∙ ap (λ (r : List ℕ). get_or r j 0) e)

      pub operand_33 : (b : ℕ) → Beyond (length row) b → answer trits H 4 i b ≡ says 33 0 0
      operand_33 b h = kind_4 trits H i l u b ∙ ap operand_or33 (beyond_none (operand_edges trits H i) b (ap_beyond h))
        where
          ap_beyond : Beyond (length row) b → Beyond (length (operand_edges trits H i)) b
          ap_beyond (inl e) = inl e
          ap_beyond (inr h) = inr (omega (arith, row_length))

    -- the real use comes first, where i is no root; every other is a shadow
    module _ (users : List ℕ) (e : map user_of (use_edges trits H i) ≡ users) where
      users_length : length (use_edges trits H i) ≡ length users
      users_length = sym (length-map (use_edges trits H i) user_of) ∙ ap length e

      pub uses_reply : answer trits H 5 i 0 ≡ says 0 (length users) 0
      uses_reply = kind_5 trits H i l u ∙ ap plain users_length

      pub user_reply : (b : ℕ) → 1 ≤ b → b ≤ length users → answer trits H 6 i b ≡ says 0 (node_at users b) (cond (ltb (root_count trits) i && eqb b 1) 1 2)
      unfolding node_count
      user_reply zero h k = absurd (not-suc-le-zero h)
      user_reply (suc j) h k =
          let es : List Edge = use_edges trits H i in
          let x = by_number es j (omega (arith, users_length)) in
          let s : sort_of x.0 ≡ cond (ltb (root_count trits) i && eqb (suc j) 1) 1 2 =
          sym (x.2 sort_of) ∙ ap (λ (l : List Edge). get_or (map sort_of l) j 0) (uses_places trits H p i l u)
          ∙ uses_sort (ltb (root_count trits) i) (nth 1 trits i) (group trits H i) (nth_selected 1 trits i l u).holds
          (each_all (λ (q : ℕ). get_or trits q 0 ≡ 2) (group trits H i) (group_twos trits H i)) j
          (omega (arith, users_length, use_count_lem trits H p i l u, length_group trits H p.paired i)) in
          kind_6 trits H i l u (suc j) ∙ ap user_or33 x.1
          ∙ ap₂ (says 0) (sym (x.2 user_of) ∙ ap (λ (r : List ℕ). get_or r j 0) e) s

      pub user_33 : (b : ℕ) → Beyond (length users) b → answer trits H 6 i b ≡ says 33 0 0
      user_33 b h = kind_6 trits H i l u b ∙ ap user_or33 (beyond_none (use_edges trits H i) b (ap_beyond h))
        where
          ap_beyond : Beyond (length users) b → Beyond (length (use_edges trits H i)) b
          ap_beyond (inl e) = inl e
          ap_beyond (inr h) = inr (omega (arith, users_length))

  -- kinds 3 and 5 take no second number
  module _ (i : ℕ) (l : 1 ≤ i) (u : i ≤ node_count trits) where
    node_inside : is_node (node_count trits) i ≡ true
    node_inside = true_both (leb 1 i) (leb i (node_count trits)) (le-leb 1 i l) (le-leb i (node_count trits) u)

    pub operands_33 : (b : ℕ) → 0 < b → answer trits H 3 i b ≡ says 33 0 0
    unfolding answer operand_count
    operands_33 b h = ap₂ (λ (t s : Bool). within 32 t (within 33 s (plain (length (operand_edges trits H i))))) node_inside (ne_eqb b 0 (λ e. omega arith))

    pub uses_33 : (b : ℕ) → 0 < b → answer trits H 5 i b ≡ says 33 0 0
    unfolding answer use_count
    uses_33 b h = ap₂ (λ (t s : Bool). within 32 t (within 33 s (plain (length (use_edges trits H i))))) node_inside (ne_eqb b 0 (λ e. omega arith))

  outside : (a : ℕ) → Beyond (node_count trits) a → is_node (node_count trits) a ≡ false
  outside a (inl e) = ap (is_node (node_count trits)) e
  outside a (inr h) = last_false (leb 1 a) (leb a (node_count trits)) (lt-leb a (node_count trits) h)

  -- a is no node: 32 by kinds 3 to 6
  pub node_32 : (k a b : ℕ) → 3 ≤ k → k ≤ 6 → Beyond (node_count trits) a → answer trits H k a b ≡ says 32 0 0
  unfolding answer operand_count operand_answer use_count use_answer
  node_32 zero a b h j o = absurd (omega arith)
  node_32 (suc zero) a b h j o = absurd (omega arith)
  node_32 (suc (suc zero)) a b h j o = absurd (omega arith)
  node_32 (suc (suc (suc zero))) a b h j o = ap (λ (t : Bool). within 32 t (within 33 (eqb b 0) (plain (length (operand_edges trits H a))))) (outside a o)
  node_32 (suc (suc (suc (suc zero)))) a b h j o = ap (λ (t : Bool). within 32 t (operand_or33 (numbered (operand_edges trits H a) b))) (outside a o)
  node_32 (suc (suc (suc (suc (suc zero))))) a b h j o = ap (λ (t : Bool). within 32 t (within 33 (eqb b 0) (plain (length (use_edges trits H a))))) (outside a o)
  node_32 (suc (suc (suc (suc (suc (suc zero)))))) a b h j o = ap (λ (t : Bool). within 32 t (user_or33 (numbered (use_edges trits H a) b))) (outside a o)
  node_32 (suc (suc (suc (suc (suc (suc (suc k))))))) a b h j o = absurd (omega arith)

  pub kinds : Kinds trits H
  kinds = record {
    unknown = kind_unknown trits H;
    trit = trit_reply trits H;
    trit_32 = trit_32 trits H;
    trit_33 = trit_33 trits H;
    ranks = rank_reply trits H;
    rank_32 = rank_32 trits H;
    rank_33 = rank_33 trits H;
    selects = select_reply trits H;
    select_32 = select_32 trits H;
    select_33 = select_33 trits H;
    node_32 = node_32;
    count_33 = λ a b n h. (operands_33 a n.0 n.1 b h, uses_33 a n.0 n.1 b h);
  }
