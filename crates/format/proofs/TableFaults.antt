-- A table is refused with number f exactly where its first fault has number f: followed word by word, the reader stops at a fault, with all in order before
-- it; and over words in order it goes on to the fault. Assumes nothing.
use mathlib.Core.Path.{◌≡◌, refl, sym, ap, ◌∙◌, subst}
use mathlib.Core.Logic.{◌↔◌, inl, inr}
use Prim.Native.Nat.{ℕ, zero, suc, ◌+◌, ◌≤◌, ◌<◌}
use native.Mathlib.Nat.{zero-add, add-zero, add_assoc, le_of_suc-le-suc, not-suc-le-zero, lt_of_not-le, not-le_of_lt, eq-or-lt_of_le}
use native.Mathlib.Omega.{arith}
use mathlib.Core.Bool.{Bool, true, false}
use mathlib.Core.List.{List, [], ◌∷◌, ◌++◌, append_assoc, append-nil}
use lib.ListN.{length, length-append}
use lib.Seq.{append_snoc}
use lib.Dec.{T, leb, eqb, leb→le, le→leb, eqb→eq}
use Rattle.format.specs.Lists.{All, number_in, sum_of, Nodup}
use Rattle.format.specs.Table.{Graph, Node, is_node, counted, list_words, Got, stopped, got, and_then, need, word, read_operands, read_nodes, read_roots, read_graph, faulty, whole_table, read_table, Front, OperandsFront, RootsFront, FirstFault, no_size, no_count, no_operand, no_root, nodes_above, edges_above, operand_outside, root_outside, root_again, words_after, read_end}
use Rattle.format.proofs.Places.{all_append, sum_append, nodup_mid, nodup_snoc, number_mem, mem_number}
use Rattle.format.proofs.Walks.{is_node_lem}
use Rattle.format.proofs.Reading.{node_test, zero_test, need_yes, Holds, onto, operand_on, next_lists, count_on, list_on, root_on, with_roots, size_on, lists_on, read_graph_lem, Operands, got_operands, Rows, got_nodes, TableOf, got_graph}

-- ---- where the reader stops, the table has that fault

runs_snoc : (os : List (List ℕ)) (vs : List ℕ) → list_words (os ++ vs ∷ []) ≡ list_words os ++ counted vs
unfolding list_words
runs_snoc [] vs = append-nil (counted vs)
runs_snoc (us ∷ os) vs = ap (λ (l : List ℕ). counted us ++ l) (runs_snoc os vs) ∙ sym (append_assoc (counted us) (list_words os) (counted vs))

module _ (table : List ℕ) where
  -- where reading stopped with f, the table's first fault is f
  abbrev Sound : {X : Type 0} → Got X → Type 0
  Sound (stopped f) = FirstFault table f
  Sound (got x ws) = Unit {0}

  sound_need : {X : Type 0} (b : Bool) (f : ℕ) (r : Got X) → ((T b → ⊥) → FirstFault table f) → (T b → Sound r) → Sound (need b f r)
  sound_need true f r h k = k tt
  sound_need false f r h k = h (λ t. t)

  sound_then : {X Y : Type 0} (Q : X → List ℕ → Type 0) (r : Got X) (next : X → List ℕ → Got Y) → Sound r → Holds Q r
      → ((x : X) (ws : List ℕ) → Q x ws → Sound (next x ws)) → Sound (and_then r next)
  sound_then Q (stopped f) next h q k = h
  sound_then Q (got x ws) next h q k = k x ws q

  -- what is made of the thing read does not matter
  sound_made : {X Y : Type 0} (r : Got X) (make : X → Y) → Sound r → Sound (and_then r λ x ws. got (make x) ws)
  sound_made (stopped f) make h = h
  sound_made (got x ws) make h = tt

  module _ (n : ℕ) where
    -- after the lists os, inside a list of k: the nodes vs are read, j more are due, from the words ws
    record Inside (os : List (List ℕ)) (k : ℕ) (vs : List ℕ) (j : ℕ) (ws : List ℕ) : Type 0 where
      are : table ≡ n ∷ list_words os ++ k ∷ vs ++ ws
      count : length vs + j ≡ k
      nodes : All (Node n) vs

    enter : (os : List (List ℕ)) (k : ℕ) (ws : List ℕ) → table ≡ n ∷ list_words os ++ k ∷ ws → Inside os k [] k ws
    enter os k ws e = record { are = e ∙ simp append_assoc; count = omega arith; nodes = tt }

    step : {os : List (List ℕ)} {k : ℕ} {vs : List ℕ} {j v : ℕ} {ws : List ℕ} → Inside os k vs (suc j) (v ∷ ws) → Node n v → Inside os k (vs ++ v ∷ []) j ws
    step {vs = vs} {v = v} i h = record {
      are = i.are ∙ simp append_assoc;
      count = omega (arith, length-append vs (v ∷ []));
      nodes = all_append (Node n) vs (v ∷ []) i.nodes (h, tt);
    }

    module _ (os : List (List ℕ)) (f : Front n os) where
      module _ (k : ℕ) (due : length os < n) (fits : sum_of length os + k ≤ 65535) where
        operands_front : {vs : List ℕ} {j : ℕ} {ws : List ℕ} → Inside os k vs (suc j) ws → OperandsFront n os k vs
        operands_front i = record { front = f; due = due; count_fits = fits; inside = i.nodes; more = omega arith }

        sound_operands : {vs : List ℕ} (j : ℕ) (ws : List ℕ) → Inside os k vs j ws → Sound (read_operands n j ws)
        unfolding read_operands word
        sound_operands zero ws i = tt
        sound_operands {vs} (suc j) [] i = no_operand n os k vs (operands_front i) (i.are ∙ append-nil (n ∷ list_words os ++ k ∷ vs))
        sound_operands {vs} (suc j) (v ∷ ws) i =
            sound_need (is_node n v) 3 _ (λ u. operand_outside n os k vs v ws (operands_front i) (λ h. u (node_test n v h)) i.are) λ t.
            sound_made (read_operands n j ws) _ (sound_operands j ws (step i (is_node_lem n v t)))

      module _ (l : length os ≡ n) where
        roots_front : {c : ℕ} {rs : List ℕ} {j : ℕ} {ws : List ℕ} → Inside os c rs (suc j) ws → Nodup rs → RootsFront n os c rs
        roots_front i d = record { front = f; lists = l; inside = i.nodes; nodup = d; more = omega arith }

        sound_roots : {c : ℕ} (j : ℕ) (rs ws : List ℕ) → Inside os c rs j ws → Nodup rs → Sound (read_roots n j rs ws)
        unfolding read_roots word
        sound_roots zero rs ws i d = tt
        sound_roots {c} (suc j) rs [] i d = no_root n os c rs (roots_front i d) (i.are ∙ append-nil (n ∷ list_words os ++ c ∷ rs))
        sound_roots {c} (suc j) rs (r ∷ ws) i d =
            sound_need (is_node n r) 4 _ (λ u. root_outside n os c rs r ws (roots_front i d) (λ h. u (node_test n r h)) i.are) λ t.
            let h : Node n r = is_node_lem n r t in
            sound_need (eqb (number_in r rs) 0) 5 _
            (λ u. root_again n os c rs r ws (roots_front i d) h (number_mem r rs (λ z. u (zero_test (number_in r rs) z))) i.are) λ z.
            sound_made (read_roots n j (rs ++ r ∷ []) ws) _ (sound_roots j (rs ++ r ∷ []) ws (step i h) (nodup_snoc rs r d (eqb→eq (number_in r rs) 0 z)))

        sound_end : (ws : List ℕ) → table ≡ n ∷ list_words os ++ ws → Sound (read_end n os ws)
        unfolding word
        sound_end [] e = no_count n os f (e ∙ append-nil (n ∷ list_words os))
        sound_end (c ∷ ws) e = sound_made (read_roots n c [] ws) _ (sound_roots c [] ws (enter os c ws e) tt)

    -- after the lists os with their m edges, k more are due, from the words ws
    sound_nodes : (os : List (List ℕ)) (k m : ℕ) (ws : List ℕ) → Front n os → length os + k ≡ n → sum_of length os ≡ m → table ≡ n ∷ list_words os ++ ws
        → Sound (read_nodes n k m ws)
    unfolding read_nodes word sum_of
    sound_nodes os zero m ws f l s e = tt
    sound_nodes os (suc k) m [] f l s e = no_count n os f (e ∙ append-nil (n ∷ list_words os))
    sound_nodes os (suc k) m (c ∷ ws) f l s e =
        let due : length os < n = omega arith in
        sound_need (leb (m + c) 65535) 2 _ (λ u. edges_above n os c ws f due (omega (arith, lt_of_not-le (λ h. u (le→leb (m + c) 65535 h)))) e) λ t.
        let fits : sum_of length os + c ≤ 65535 = omega (arith, leb→le (m + c) 65535 t) in
        sound_then (Operands n c ws) (read_operands n c ws) _ (sound_operands os f c due fits c ws (enter os c ws e)) (got_operands n c ws) λ vs rest i.
        let one-longer = length-append os (vs ∷ []) in
        let more_edges = sum_append length os (vs ∷ []) in
        sound_made (read_nodes n k (m + c) rest) _ (sound_nodes (os ++ vs ∷ []) k (m + c) rest
        (record {
          nodes_fit = f.nodes_fit;
          lists_fit = omega arith;
          edges_fit = omega (arith, i.many);
          inside = all_append (All (Node n)) os (vs ∷ []) f.inside (i.inside, tt);
        })
        (omega arith) (omega (arith, i.many)) (e ∙ simp (← i.many, i.are, runs_snoc, append_assoc)))

  sound_graph : (us : List ℕ) → table ≡ us → Sound (read_graph us)
  unfolding read_graph word list_words sum_of
  sound_graph [] e = no_size e
  sound_graph (n ∷ ws) e =
      sound_need (leb n 30000) 2 _ (λ u. nodes_above n ws (lt_of_not-le (λ h. u (le→leb n 30000 h))) e) λ t.
      let fits : n ≤ 30000 = leb→le n 30000 t in
      sound_then (Rows n n 0 ws) (read_nodes n n 0 ws) (read_end n)
      (sound_nodes n [] n 0 ws (record { nodes_fit = fits; lists_fit = omega arith; edges_fit = omega arith; inside = tt }) (omega arith) refl e)
      (got_nodes n n 0 ws (omega arith)) λ os rest i.
      sound_end n os (record { nodes_fit = fits; lists_fit = omega (arith, i.many); edges_fit = omega (arith, i.fit); inside = i.inside }) i.many rest
      (e ∙ ap (λ (l : List ℕ). n ∷ l) i.are)

  stops_first : (f : ℕ) → read_table table ≡ faulty f → FirstFault table f
  unfolding read_table
  stops_first f e = go (read_graph table) (sound_graph table refl) (got_graph table) e
    where
      go : (r : Got Graph) → Sound r → Holds (TableOf table) r → whole_table r ≡ faulty f → FirstFault table f
      go (stopped f') h o z = let same : f' ≡ f = cc in subst (FirstFault table) same h
      go (got g []) h o z = absurd (let same : ◌≡◌ {A = ℕ} 0 1 = cc in omega arith)
      go (got g (w ∷ ws)) h o z = let same : 6 ≡ f = cc in subst (FirstFault table) same (words_after g w ws o.formed o.limits o.are)

-- ---- words in order lead the reader to the fault

need_no : {X : Type 0} (b : Bool) (f : ℕ) (r : Got X) → (T b → ⊥) → need b f r ≡ stopped f
need_no true f r u = absurd (u tt)
need_no false f r u = refl

-- over what is in order, where the words after it stop the reader
module _ (n f : ℕ) (rest : List ℕ) where
  operands_stop : (vs : List ℕ) (k : ℕ) → All (Node n) vs → length vs < k → ((j : ℕ) → read_operands n (suc j) rest ≡ stopped f)
      → read_operands n k (vs ++ rest) ≡ stopped f
  operands_stop vs zero a l s = absurd (not-suc-le-zero l)
  operands_stop [] (suc k) a l s = s k
  operands_stop (v ∷ vs) (suc k) a l s = operand_on n k v (vs ++ rest) a.0 ∙ ap (onto v) (operands_stop vs k a.1 (le_of_suc-le-suc l) s)

  roots_stop : (before rs : List ℕ) (k : ℕ) → All (Node n) rs → Nodup (before ++ rs) → length rs < k
      → ((j : ℕ) → read_roots n (suc j) (before ++ rs) rest ≡ stopped f) → read_roots n k before (rs ++ rest) ≡ stopped f
  roots_stop before rs zero a d l s = absurd (not-suc-le-zero l)
  roots_stop before [] (suc k) a d l s = rw append-nil at (s k)
  roots_stop before (r ∷ rs) (suc k) a d l s =
      root_on n k before r (rs ++ rest) a.0 (nodup_mid before r rs d)
      ∙ ap (onto r) (roots_stop (before ++ r ∷ []) rs k a.1 (rw append_snoc d) (le_of_suc-le-suc l) (λ j. rw append_snoc (s j)))

  lists_stop : (m : ℕ) (os : List (List ℕ)) (k : ℕ) → All (All (Node n)) os → m + sum_of length os ≤ 65535 → length os < k
      → ((j : ℕ) → read_nodes n (suc j) (m + sum_of length os) rest ≡ stopped f) → read_nodes n k m (list_words os ++ rest) ≡ stopped f
  unfolding list_words sum_of
  lists_stop m os zero a h l s = absurd (not-suc-le-zero l)
  lists_stop m [] (suc k) a h l s = rw add-zero at (s k)
  lists_stop m (vs ∷ os) (suc k) a h l s =
      list_on n k m vs (list_words os) rest a.0 (omega arith)
      ∙ ap (onto vs) (lists_stop (m + length vs) os k a.1 (omega arith) (le_of_suc-le-suc l) (λ j. rw add_assoc (s j)))

module _ (n f : ℕ) (os : List (List ℕ)) where
  lists_fault : (rest : List ℕ) → Front n os → length os < n → ((j : ℕ) → read_nodes n (suc j) (sum_of length os) rest ≡ stopped f)
      → read_table (n ∷ list_words os ++ rest) ≡ faulty f
  unfolding read_table
  lists_fault rest h due s =
      ap whole_table (size_on n (list_words os ++ rest) h.nodes_fit ∙ ap (λ (r : Got (List (List ℕ))). and_then r (read_end n))
      (lists_stop n f rest 0 os n h.inside (omega (arith, h.edges_fit)) due (λ j. rw zero-add (s j))))

  operands_fault : (k : ℕ) (vs rest : List ℕ) → OperandsFront n os k vs → ((j : ℕ) → read_operands n (suc j) rest ≡ stopped f)
      → read_table (n ∷ list_words os ++ k ∷ vs ++ rest) ≡ faulty f
  operands_fault k vs rest h s =
      let m : ℕ = sum_of length os in
      ap read_table (append_assoc (n ∷ list_words os) (k ∷ vs) rest) ∙ lists_fault (k ∷ vs ++ rest) h.front h.due λ j.
      count_on n j m k (vs ++ rest) h.count_fits ∙ ap (next_lists n j (m + k)) (operands_stop n f rest vs k h.inside h.more s)

  roots_fault : (c : ℕ) (rs rest : List ℕ) → RootsFront n os c rs → ((j : ℕ) → read_roots n (suc j) rs rest ≡ stopped f)
      → read_table (n ∷ list_words os ++ c ∷ rs ++ rest) ≡ faulty f
  unfolding read_table word
  roots_fault c rs rest h s =
      ap read_table (append_assoc (n ∷ list_words os) (c ∷ rs) rest)
      ∙ ap whole_table (lists_on n os (c ∷ rs ++ rest) h.front h.lists ∙ ap (with_roots os) (roots_stop n f rest [] rs c h.inside h.nodup h.more s))

first_stops : (table : List ℕ) (f : ℕ) → FirstFault table f → read_table table ≡ faulty f
unfolding read_table read_graph read_nodes read_operands read_roots word
first_stops table _ (no_size e) = ap read_table e
first_stops table _ (no_count n os h e) =
    ap read_table (e ∙ sym (append-nil (n ∷ list_words os)))
    ∙ elim (eq-or-lt_of_le h.lists_fit) [ inl l ↦ ap whole_table (lists_on n os [] h l) | inr l ↦ lists_fault n 1 os [] h l (λ j. refl) ]
first_stops table _ (no_operand n os k vs h e) = ap read_table (e ∙ sym (append-nil (n ∷ list_words os ++ k ∷ vs))) ∙ operands_fault n 1 os k vs [] h (λ j. refl)
first_stops table _ (no_root n os c rs h e) = ap read_table (e ∙ sym (append-nil (n ∷ list_words os ++ c ∷ rs))) ∙ roots_fault n 1 os c rs [] h (λ j. refl)
first_stops table _ (nodes_above n rest h e) = ap read_table e ∙ ap whole_table (need_no (leb n 30000) 2 _ (λ t. not-le_of_lt h (leb→le n 30000 t)))
first_stops table _ (edges_above n os k rest h due above e) =
    ap read_table e ∙ lists_fault n 2 os (k ∷ rest) h due λ j.
    need_no (leb (sum_of length os + k) 65535) 2 _ (λ t. not-le_of_lt above (leb→le (sum_of length os + k) 65535 t))
first_stops table _ (operand_outside n os k vs v rest h out e) =
    ap read_table e ∙ operands_fault n 3 os k vs (v ∷ rest) h λ j. need_no (is_node n v) 3 _ (λ t. out (is_node_lem n v t))
first_stops table _ (root_outside n os c rs r rest h out e) =
    ap read_table e ∙ roots_fault n 4 os c rs (r ∷ rest) h λ j. need_no (is_node n r) 4 _ (λ t. out (is_node_lem n r t))
first_stops table _ (root_again n os c rs r rest h i m e) =
    ap read_table e ∙ roots_fault n 5 os c rs (r ∷ rest) h λ j.
    need_yes (is_node n r) 4 _ (node_test n r i) ∙ need_no (eqb (number_in r rs) 0) 5 _ (λ t. mem_number m (eqb→eq (number_in r rs) 0 t))
first_stops table _ (words_after g w rest wf lim e) = ap read_table e ∙ ap whole_table (read_graph_lem g (w ∷ rest) wf lim)

pub first_fault : (table : List ℕ) (f : ℕ) → (read_table table ≡ faulty f) ↔ FirstFault table f
first_fault table f = (stops_first table f, first_stops table f)

-- ---- so a table that is refused on reading is refused with 1 to 6

fault_code : {table : List ℕ} {f : ℕ} → FirstFault table f → (1 ≤ f) × (f ≤ 6)
fault_code (no_size e) = omega arith
fault_code (no_count n os h e) = omega arith
fault_code (no_operand n os k vs h e) = omega arith
fault_code (no_root n os c rs h e) = omega arith
fault_code (nodes_above n rest h e) = omega arith
fault_code (edges_above n os k rest h d a e) = omega arith
fault_code (operand_outside n os k vs v rest h o e) = omega arith
fault_code (root_outside n os c rs r rest h o e) = omega arith
fault_code (root_again n os c rs r rest h i m e) = omega arith
fault_code (words_after g w rest f l e) = omega arith

pub read_code : (table : List ℕ) (f : ℕ) → read_table table ≡ faulty f → (1 ≤ f) × (f ≤ 6)
read_code table f e = fault_code ((first_fault table f).0 e)
