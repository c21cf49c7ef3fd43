-- The reader of a table, one word further: where a loop stands, what is left to read gives the whole answer. Assumes nothing.
use mathlib.Core.Path.{◌≡◌, refl, sym, ap, ◌∙◌, subst}
use mathlib.Core.Logic.{inl, inr}
use mathlib.Core.Bool.{true, false}
use mathlib.Core.List.{List, [], ◌∷◌, ◌++◌}
use Prim.Native.Nat.{ℕ, suc, ◌+◌, ◌-◌, ◌≤◌, ◌<◌}
use native.Mathlib.Numerals.{add-one}
use native.Mathlib.Omega.{arith}
use lib.ListN.{length, get_or, drop, length-append, length-drop, drop_of_length-le}
use lib.Seq.{drop-cons, drop-drop, drop-append_seam}
use borrow.Author.Tests.{lt-leb, ne_eqb}
use Rattle.format.specs.Lists.{number_in}
use Rattle.format.specs.Table.{Graph, edges, is_node, list_words, Got, stopped, got, and_then, word, read_operands, read_nodes, read_roots, read_graph, whole_table, read_table, read_end}
use Rattle.format.proofs.Laws.{is_node_node}
use Rattle.format.proofs.Reading.{operand_on, next_lists, count_on, root_on, with_roots, size_on, Holds, Operands, got_operands, Rows, got_nodes, words_read}
use Rattle.format.proofs.Outcomes.{length_runs, length_words}
use Rattle.packing.specs.Sizes.{step_of, sizes_of, Lists}

-- ---- places

module _ (t : List ℕ) (at : ℕ) where
  pub word_in : at < length t → drop at t ≡ get_or t at 0 ∷ drop (at + 1) t
  word_in h = rw (add-one, drop-cons t at 0)

  step_here : {X : Type 0} (x : X) → at ≤ length t → inl at ≡ step_of t (got x (drop at t))
  step_here x h = ap inl (omega (arith, length-drop at t))

-- the words left are those from their place on
left_at : (t : List ℕ) (at : ℕ) (pre ws : List ℕ) → at ≤ length t → drop at t ≡ pre ++ ws → ws ≡ drop (length t - length ws) t
left_at t at pre ws h e =
    let l : length t - length ws ≡ at + length pre = omega (arith, length-drop at t, ap length e, length-append pre ws) in
    rw (l, ← drop-drop, e, drop-append_seam)

-- what is made of the thing read does not matter
step_made : {X Y : Type 0} (t : List ℕ) (make : X → Y) (r : Got X) → step_of t r ≡ step_of t (and_then r λ x ws. got (make x) ws)
step_made t make (stopped f) = refl
step_made t make (got x ws) = refl

-- ---- operands

module _ (n : ℕ) (t : List ℕ) (at : ℕ) where
  pub operands_none : (k p : ℕ) → k ≡ 0 → p ≡ at → at ≤ length t → inl p ≡ step_of t (read_operands n k (drop at t))
  unfolding read_operands
  operands_none k p z e h = rw (z, e) (step_here t at {X = List ℕ} [] h)

  module _ (k j : ℕ) (more : k ≡ suc j) where
    pub operands_short : length t ≤ at → inr 1 ≡ step_of t (read_operands n k (drop at t))
    unfolding read_operands word
    operands_short h = rw (more, drop_of_length-le t h)

    module _ (h : at < length t) (v : ℕ) (is : v ≡ get_or t at 0) where
      pub operand_outside : is_node n v ≡ false → inr 3 ≡ step_of t (read_operands n k (drop at t))
      unfolding read_operands word
      operand_outside b = rw (more, word_in t at h, ← is, b)

      pub operand_next : is_node n v ≡ true → (p : ℕ) → p ≡ at + 1 → step_of t (read_operands n j (drop p t)) ≡ step_of t (read_operands n k (drop at t))
      operand_next b p e =
          rw (e, more, word_in t at h, ← is, operand_on n j v (drop (at + 1) t) (is_node_node n v b)) (step_made t _ (read_operands n j (drop (at + 1) t)))

-- ---- what follows a thing read

stopped_at : {X : Type 0} (t : List ℕ) (r : Got X) (f : ℕ) → inr f ≡ step_of t r → r ≡ stopped f
stopped_at t (stopped g) f e = cc
stopped_at t (got x ws) f e = absurd (let z : ◌≡◌ {A = ℕ} 0 1 = cc in omega arith)

-- where a reader that starts at `at` comes to place p, it has read x, in the words `pre x`
got_at : {X : Type 0} (t : List ℕ) (at p : ℕ) (pre : X → List ℕ) (P : X → List ℕ → Type 0) (r : Got X)
    → ((x : X) (ws : List ℕ) → P x ws → drop at t ≡ pre x ++ ws) → at ≤ length t → Holds P r → inl p ≡ step_of t r → (x : X) × (r ≡ got x (drop p t)) × P x (drop p t) × (p ≤ length t)
got_at t at p pre P (stopped f) are h i e = absurd (let z : ◌≡◌ {A = ℕ} 0 1 = cc in omega arith)
got_at t at p pre P (got x ws) are h i e =
    let q : p ≡ length t - length ws = cc in
    let w : ws ≡ drop p t = rw q (left_at t at (pre x) ws h (are x ws i)) in
    (x, ap (got x) w, subst (P x) w i, omega arith)

-- ---- operand lists

module _ (n : ℕ) (t : List ℕ) (at m : ℕ) where
  pub lists_none : (k : ℕ) → k ≡ 0 → at ≤ length t → inl at ≡ step_of t (read_nodes n k m (drop at t))
  unfolding read_nodes
  lists_none k z h = rw z (step_here t at {X = List (List ℕ)} [] h)

  module _ (k j : ℕ) (more : k ≡ suc j) where
    pub lists_short : length t ≤ at → inr 1 ≡ step_of t (read_nodes n k m (drop at t))
    unfolding read_nodes word
    lists_short h = rw (more, drop_of_length-le t h)

    -- c is the count at this place
    module _ (h : at < length t) (c : ℕ) (is : c ≡ get_or t at 0) where
      pub count_above : 65535 < m + c → inr 2 ≡ step_of t (read_nodes n k m (drop at t))
      unfolding read_nodes word
      count_above b = rw (more, word_in t at h, ← is, lt-leb (m + c) 65535 b)

      abbrev operands : Got (List ℕ)
      operands = read_operands n c (drop (at + 1) t)

      listed : m + c ≤ 65535 → read_nodes n k m (drop at t) ≡ next_lists n j (m + c) operands
      listed b = rw (more, word_in t at h, ← is) (count_on n j m c (drop (at + 1) t) b)

      pub list_bad : m + c ≤ 65535 → (f : ℕ) → inr f ≡ step_of t operands → inr f ≡ step_of t (read_nodes n k m (drop at t))
      list_bad b f e = rw (listed b, stopped_at t operands f e)

      pub list_next : m + c ≤ 65535 → (p : ℕ) → inl p ≡ step_of t operands
          → (p ≤ length t) × (step_of t (read_nodes n j (m + c) (drop p t)) ≡ step_of t (read_nodes n k m (drop at t)))
      list_next b p e =
          let r = got_at t (at + 1) p (λ vs. vs) (Operands n c (drop (at + 1) t)) operands (λ vs ws i. i.are) (omega arith) (got_operands n c (drop (at + 1) t)) e in
          (r.3, rw (listed b, r.1) (step_made t _ (read_nodes n j (m + c) (drop p t))))

-- ---- roots, after those in `before`

module _ (n : ℕ) (t : List ℕ) (at : ℕ) (before : List ℕ) where
  pub roots_none : (k p : ℕ) → k ≡ 0 → p ≡ at → at ≤ length t → inl p ≡ step_of t (read_roots n k before (drop at t))
  unfolding read_roots
  roots_none k p z e h = rw (z, e) (step_here t at {X = List ℕ} [] h)

  module _ (k j : ℕ) (more : k ≡ suc j) where
    pub roots_short : length t ≤ at → inr 1 ≡ step_of t (read_roots n k before (drop at t))
    unfolding read_roots word
    roots_short h = rw (more, drop_of_length-le t h)

    module _ (h : at < length t) (v : ℕ) (is : v ≡ get_or t at 0) where
      pub root_outside : is_node n v ≡ false → inr 4 ≡ step_of t (read_roots n k before (drop at t))
      unfolding read_roots word
      root_outside b = rw (more, word_in t at h, ← is, b)

      pub root_twice : is_node n v ≡ true → (number_in v before ≡ 0 → ⊥) → inr 5 ≡ step_of t (read_roots n k before (drop at t))
      unfolding read_roots word
      root_twice b old = rw (more, word_in t at h, ← is, b, ne_eqb _ _ old)

      pub root_next : is_node n v ≡ true → number_in v before ≡ 0 → (p : ℕ) → p ≡ at + 1
          → step_of t (read_roots n j (before ++ v ∷ []) (drop p t)) ≡ step_of t (read_roots n k before (drop at t))
      root_next b new p e =
          rw (e, more, word_in t at h, ← is, root_on n j before v (drop (at + 1) t) (is_node_node n v b) new)
          (step_made t _ (read_roots n j (before ++ v ∷ []) (drop (at + 1) t)))

-- ---- the whole table

module _ (t : List ℕ) where
  pub scan_short : length t ≡ 0 → inr 1 ≡ sizes_of (read_table t)
  unfolding read_table read_graph word
  scan_short h = rw (drop_of_length-le t {i = 0} (omega arith))

  -- n is the first word
  module _ (n : ℕ) (is : n ≡ get_or t 0 0) (h : 0 < length t) where
    pub scan_large : 30000 < n → inr 2 ≡ sizes_of (read_table t)
    unfolding read_table read_graph word
    scan_large b = rw (word_in t 0 h, ← is, lt-leb n 30000 b)

    sized : n ≤ 30000 → read_graph t ≡ and_then (read_nodes n n 0 (drop 1 t)) (read_end n)
    sized b = rw (word_in t 0 h, ← is) (size_on n (drop 1 t) b)

    pub scan_bad : n ≤ 30000 → (f : ℕ) → inr f ≡ step_of t (read_nodes n n 0 (drop 1 t)) → inr f ≡ sizes_of (read_table t)
    unfolding read_table
    scan_bad b f e = rw (sized b, stopped_at t (read_nodes n n 0 (drop 1 t)) f e)

    pub scan_lists : n ≤ 30000 → (at : ℕ) → inl at ≡ step_of t (read_nodes n n 0 (drop 1 t)) → (os : List (List ℕ)) × Lists n at os t × (at ≤ length t)
    scan_lists b at e =
        let r = got_at t 1 at list_words (Rows n n 0 (drop 1 t)) (read_nodes n n 0 (drop 1 t)) (λ os ws i. i.are) (omega arith) (got_nodes n n 0 (drop 1 t) (omega arith)) e in
        let os = r.0 in (
          os,
          record {
            many = r.2.many;
            ends = omega (arith, r.2.many, ap length r.2.are, length-append (list_words os) (drop at t), length_runs os, length-drop at t, length-drop 1 t);
            next = sized b ∙ ap (λ (x : Got (List (List ℕ))). and_then x (read_end n)) r.1;
          },
          r.3,
        )

-- the words after the operand lists
module _ (t : List ℕ) (n at : ℕ) (os : List (List ℕ)) (l : Lists n at os t) where
  pub ending_short : length t ≤ at → inr 1 ≡ sizes_of (read_table t)
  unfolding read_table word
  ending_short h = rw (l.next, drop_of_length-le t h)

  module _ (h : at < length t) (c : ℕ) (is : c ≡ get_or t at 0) where
    abbrev roots : Got (List ℕ)
    roots = read_roots n c [] (drop (at + 1) t)

    rooted : read_graph t ≡ with_roots os roots
    unfolding word
    rooted = l.next ∙ rw (word_in t at h, ← is)

    pub ending_bad : (f : ℕ) → inr f ≡ step_of t roots → inr f ≡ sizes_of (read_table t)
    unfolding read_table
    ending_bad f e = rw (rooted, stopped_at t roots f e)

    pub ending_more : (p : ℕ) → inl p ≡ step_of t roots → p < length t → inr 6 ≡ sizes_of (read_table t)
    unfolding read_table
    ending_more p e b = rw rooted (go roots e)
      where
        go : (r : Got (List ℕ)) → inl p ≡ step_of t r → inr 6 ≡ sizes_of (whole_table (with_roots os r))
        go (stopped g) e = absurd (let z : ◌≡◌ {A = ℕ} 0 1 = cc in omega arith)
        go (got rs []) e = let z : p ≡ length t - 0 = cc in absurd (omega arith)
        go (got rs (w ∷ ws)) e = refl

    pub ending_done : (p : ℕ) → inl p ≡ step_of t roots → length t ≤ p → inl (record { nodes = n; edges = at - n - 1; roots = p - at - 1 }) ≡ sizes_of (read_table t)
    unfolding read_table
    ending_done p e b = go roots rooted e
      where
        go : (r : Got (List ℕ)) → read_graph t ≡ with_roots os r → inl p ≡ step_of t r → inl (record { nodes = n; edges = at - n - 1; roots = p - at - 1 }) ≡ sizes_of (whole_table (read_graph t))
        go (stopped g) q e = absurd (let z : ◌≡◌ {A = ℕ} 0 1 = cc in omega arith)
        go (got rs (w ∷ ws)) q e = let z : p ≡ length t - suc (length ws) = cc in absurd (omega arith)
        go (got rs []) q e =
            let g : Graph = record { operands = os; roots = rs } in
            let z : p ≡ length t - 0 = cc in
            let lw = ap length (words_read t g (ap whole_table q)).0 ∙ length_words g in
            let em : at - n - 1 ≡ edges g = omega (arith, l.ends) in
            let ec : p - at - 1 ≡ length rs = omega (arith, l.ends, l.many) in
            rw q (λ i. inl (record { nodes = sym l.many i; edges = em i; roots = ec i }))
