-- The reader takes exactly the words of well-formed graphs within the limits, and gives back the graph. Assumes nothing.
use mathlib.Core.Path.{◌≡◌, refl, sym, ap, ◌∙◌, subst}
use Prim.Native.Nat.{ℕ, zero, suc, ◌+◌, ◌≤◌}
use native.Mathlib.Omega.{arith}
use mathlib.Core.Bool.{Bool, true, false, ◌&&◌}
use mathlib.Core.List.{List, [], ◌∷◌, ◌++◌, append_assoc, append-nil}
use lib.ListN.{length}
use lib.Seq.{append_snoc}
use lib.Dec.{T, leb, eqb, leb→le, le→leb, eqb→eq, eqb_refl}
use Rattle.format.specs.Lists.{All, number_in, sum_of, Nodup}
use Rattle.format.specs.Table.{Graph, nodes, Node, is_node, counted, list_words, words, Got, stopped, got, and_then, need, word, read_operands, read_nodes, read_roots, read_graph, graph, whole_table, read_table, WellFormed, WithinLimits, Front, read_end}
use Rattle.format.proofs.Places.{nodup_mid, nodup_snoc}
use Rattle.format.proofs.Walks.{is_node_lem}

-- ---- facts give tests

both_and : (a b : Bool) → T a → T b → T (a && b)
both_and true b t u = u
both_and false b t u = t

pub node_test : (n v : ℕ) → Node n v → T (is_node n v)
node_test n v h = both_and (leb 1 v) (leb v n) (le→leb 1 v h.0) (le→leb v n h.1)

pub zero_test : (p : ℕ) → p ≡ 0 → T (eqb p 0)
zero_test p e = subst (λ (x : ℕ). T (eqb x 0)) (sym e) (eqb_refl 0)

-- ---- the words of a graph are read as the graph

pub need_yes : {X : Type 0} (b : Bool) (f : ℕ) (r : Got X) → T b → need b f r ≡ r
need_yes true f r t = refl
need_yes false f r t = absurd t

-- x, before what is read next
abbrev pub onto : {X : Type 0} → X → Got (List X) → Got (List X)
onto x r = and_then r λ xs ws. got (x ∷ xs) ws

-- an operand in order: the others are read next
pub operand_on : (n k v : ℕ) (ws : List ℕ) → Node n v → read_operands n (suc k) (v ∷ ws) ≡ onto v (read_operands n k ws)
unfolding read_operands word
operand_on n k v ws h = need_yes (is_node n v) 3 _ (node_test n v h)

read_operands_lem : (n : ℕ) (vs rest : List ℕ) → All (Node n) vs → read_operands n (length vs) (vs ++ rest) ≡ got vs rest
unfolding read_operands
read_operands_lem n [] rest a = refl
read_operands_lem n (v ∷ vs) rest a = operand_on n (length vs) v (vs ++ rest) a.0 ∙ ap (onto v) (read_operands_lem n vs rest a.1)

-- the other operand lists, after one that is read by r
abbrev pub next_lists : ℕ → ℕ → ℕ → Got (List ℕ) → Got (List (List ℕ))
next_lists n k m r = and_then r λ vs ws. onto vs (read_nodes n k m ws)

-- the same for a count of operands, and for a list of them
pub count_on : (n k m c : ℕ) (ws : List ℕ) → m + c ≤ 65535 → read_nodes n (suc k) m (c ∷ ws) ≡ next_lists n k (m + c) (read_operands n c ws)
unfolding read_nodes word
count_on n k m c ws h = need_yes (leb (m + c) 65535) 2 _ (le→leb (m + c) 65535 h)

pub list_on : (n k m : ℕ) (vs us rest : List ℕ) → All (Node n) vs → m + length vs ≤ 65535
    → read_nodes n (suc k) m (counted vs ++ us ++ rest) ≡ onto vs (read_nodes n k (m + length vs) (us ++ rest))
list_on n k m vs us rest a h =
    count_on n k m (length vs) (vs ++ us ++ rest) h
    ∙ ap (next_lists n k (m + length vs)) (ap (read_operands n (length vs)) (append_assoc vs us rest) ∙ read_operands_lem n vs (us ++ rest) a)

read_nodes_lem : (n : ℕ) (os : List (List ℕ)) (m : ℕ) (rest : List ℕ) → All (All (Node n)) os → m + sum_of length os ≤ 65535
    → read_nodes n (length os) m (list_words os ++ rest) ≡ got os rest
unfolding read_nodes list_words sum_of
read_nodes_lem n [] m rest a h = refl
read_nodes_lem n (vs ∷ os) m rest a h =
    list_on n (length os) m vs (list_words os) rest a.0 (omega arith) ∙ ap (onto vs) (read_nodes_lem n os (m + length vs) rest a.1 (omega arith))

-- the same for a root
pub root_on : (n k : ℕ) (before : List ℕ) (v : ℕ) (ws : List ℕ) → Node n v → number_in v before ≡ 0
    → read_roots n (suc k) before (v ∷ ws) ≡ onto v (read_roots n k (before ++ v ∷ []) ws)
unfolding read_roots word
root_on n k before v ws h e =
    need_yes (is_node n v) 4 _ (node_test n v h) ∙ need_yes (eqb (number_in v before) 0) 5 _ (zero_test (number_in v before) e)

read_roots_lem : (n : ℕ) (vs before rest : List ℕ) → All (Node n) vs → Nodup (before ++ vs) → read_roots n (length vs) before (vs ++ rest) ≡ got vs rest
unfolding read_roots
read_roots_lem n [] before rest a d = refl
read_roots_lem n (v ∷ vs) before rest a d =
    root_on n (length vs) before v (vs ++ rest) a.0 (nodup_mid before v vs d)
    ∙ ap (onto v) (read_roots_lem n vs (before ++ v ∷ []) rest a.1 (rw append_snoc d))

-- the graph of these operand lists and of the roots that r reads
abbrev pub with_roots : List (List ℕ) → Got (List ℕ) → Got Graph
with_roots os r = and_then r λ rs ws. got (record { operands = os; roots = rs }) ws

-- n in order: the operand lists are read next
pub size_on : (n : ℕ) (ws : List ℕ) → n ≤ 30000 → read_graph (n ∷ ws) ≡ and_then (read_nodes n n 0 ws) (read_end n)
unfolding read_graph word
size_on n ws h = need_yes (leb n 30000) 2 _ (le→leb n 30000 h)

-- n and n operand lists in order: the roots are read next
pub lists_on : (n : ℕ) (os : List (List ℕ)) (ws : List ℕ) → Front n os → length os ≡ n → read_graph (n ∷ list_words os ++ ws) ≡ read_end n os ws
lists_on n os ws f l =
    size_on n (list_words os ++ ws) f.nodes_fit ∙ ap (λ (r : Got (List (List ℕ))). and_then r (read_end n))
    (subst (λ (k : ℕ). read_nodes n k 0 (list_words os ++ ws) ≡ got os ws) l (read_nodes_lem n os 0 ws f.inside (omega (arith, f.edges_fit))))

pub read_graph_lem : (g : Graph) (ws : List ℕ) → WellFormed g → WithinLimits g → read_graph (words g ++ ws) ≡ got g ws
unfolding words word
read_graph_lem g ws f l =
    ap (λ (us : List ℕ). read_graph (nodes g ∷ us)) (append_assoc (list_words g.operands) (counted g.roots) ws)
    ∙ lists_on (nodes g) g.operands (counted g.roots ++ ws)
    (record { nodes_fit = l.nodes_fit; lists_fit = omega arith; edges_fit = l.edges_fit; inside = f.inside }) refl
    ∙ ap (with_roots g.operands) (read_roots_lem (nodes g) g.roots [] ws f.roots_inside f.roots_nodup)

pub read_words : (g : Graph) → WellFormed g → WithinLimits g → read_table (words g) ≡ graph g
unfolding read_table
read_words g f l = ap whole_table (ap read_graph (sym (append-nil (words g))) ∙ read_graph_lem g [] f l)

-- ---- what is read is the words of a well-formed graph

-- where something was read, P holds of it and of the words after it
abbrev pub Holds : {X : Type 0} → (X → List ℕ → Type 0) → Got X → Type 0
Holds P (stopped f) = Unit {0}
Holds P (got x ws) = P x ws

holds_then : {X Y : Type 0} (P : X → List ℕ → Type 0) (Q : Y → List ℕ → Type 0) (r : Got X) (next : X → List ℕ → Got Y)
    → Holds P r → ((x : X) (ws : List ℕ) → P x ws → Holds Q (next x ws)) → Holds Q (and_then r next)
holds_then P Q (stopped f) next h k = tt
holds_then P Q (got x ws) next h k = k x ws h

holds_need : {X : Type 0} (Q : X → List ℕ → Type 0) (b : Bool) (f : ℕ) (r : Got X) → (T b → Holds Q r) → Holds Q (need b f r)
holds_need Q true f r h = h tt
holds_need Q false f r h = tt

abbrev Word : List ℕ → ℕ → List ℕ → Type 0
Word us v ws = us ≡ v ∷ ws

got_word : (us : List ℕ) → Holds (Word us) (word us)
unfolding word
got_word [] = tt
got_word (v ∷ us) = refl

pub record Operands (n k : ℕ) (us vs ws : List ℕ) : Type 0 where
  pub are : us ≡ vs ++ ws
  pub many : length vs ≡ k
  pub inside : All (Node n) vs

pub got_operands : (n k : ℕ) (us : List ℕ) → Holds (Operands n k us) (read_operands n k us)
unfolding read_operands
got_operands n zero us = record { are = refl; many = refl; inside = tt }
got_operands n (suc k) us =
    holds_then (Word us) (Operands n (suc k) us) (word us) _ (got_word us) λ v ws₁ e.
    holds_need (Operands n (suc k) us) (is_node n v) 3 _ λ t.
    holds_then (Operands n k ws₁) (Operands n (suc k) us) (read_operands n k ws₁) _ (got_operands n k ws₁) λ vs ws₂ i.
    record { are = e ∙ ap (λ (l : List ℕ). v ∷ l) i.are; many = ap suc i.many; inside = (is_node_lem n v t, i.inside) }

pub record Rows (n k m : ℕ) (us : List ℕ) (os : List (List ℕ)) (ws : List ℕ) : Type 0 where
  pub are : us ≡ list_words os ++ ws
  pub many : length os ≡ k
  pub inside : All (All (Node n)) os
  pub fit : m + sum_of length os ≤ 65535

pub got_nodes : (n k m : ℕ) (us : List ℕ) → m ≤ 65535 → Holds (Rows n k m us) (read_nodes n k m us)
unfolding read_nodes list_words sum_of
got_nodes n zero m us h = record { are = refl; many = refl; inside = tt; fit = omega arith }
got_nodes n (suc k) m us h =
    holds_then (Word us) (Rows n (suc k) m us) (word us) _ (got_word us) λ c ws₁ e.
    holds_need (Rows n (suc k) m us) (leb (m + c) 65535) 2 _ λ t.
    holds_then (Operands n c ws₁) (Rows n (suc k) m us) (read_operands n c ws₁) _ (got_operands n c ws₁) λ vs ws₂ i.
    holds_then (Rows n k (m + c) ws₂) (Rows n (suc k) m us) (read_nodes n k (m + c) ws₂) _ (got_nodes n k (m + c) ws₂ (leb→le (m + c) 65535 t)) λ os ws₃ j.
    record {
      are = e ∙ (λ x. sym i.many x ∷ (i.are ∙ ap (λ (l : List ℕ). vs ++ l) j.are ∙ sym (append_assoc vs (list_words os) ws₃)) x);
      many = ap suc j.many;
      inside = (i.inside, j.inside);
      fit = omega (arith, i.many, j.fit);
    }

record Roots (n k : ℕ) (before us vs ws : List ℕ) : Type 0 where
  are : us ≡ vs ++ ws
  many : length vs ≡ k
  inside : All (Node n) vs
  nodup : Nodup (before ++ vs)

got_roots : (n k : ℕ) (before us : List ℕ) → Nodup before → Holds (Roots n k before us) (read_roots n k before us)
unfolding read_roots
got_roots n zero before us d = record { are = refl; many = refl; inside = tt; nodup = rw append-nil d }
got_roots n (suc k) before us d =
    holds_then (Word us) (Roots n (suc k) before us) (word us) _ (got_word us) λ v ws₁ e.
    holds_need (Roots n (suc k) before us) (is_node n v) 4 _ λ t.
    holds_need (Roots n (suc k) before us) (eqb (number_in v before) 0) 5 _ λ z.
    holds_then (Roots n k (before ++ v ∷ []) ws₁) (Roots n (suc k) before us) (read_roots n k (before ++ v ∷ []) ws₁) _
    (got_roots n k (before ++ v ∷ []) ws₁ (nodup_snoc before v d (eqb→eq (number_in v before) 0 z))) λ vs ws₂ i.
    record {
      are = e ∙ ap (λ (l : List ℕ). v ∷ l) i.are;
      many = ap suc i.many;
      inside = (is_node_lem n v t, i.inside);
      nodup = rw append_snoc at i.nodup;
    }

pub record TableOf (us : List ℕ) (g : Graph) (ws : List ℕ) : Type 0 where
  pub are : us ≡ words g ++ ws
  pub formed : WellFormed g
  pub limits : WithinLimits g

pub got_graph : (us : List ℕ) → Holds (TableOf us) (read_graph us)
unfolding read_graph words
got_graph us =
    holds_then (Word us) (TableOf us) (word us) _ (got_word us) λ n ws₁ e.
    holds_need (TableOf us) (leb n 30000) 2 _ λ t.
    holds_then (Rows n n 0 ws₁) (TableOf us) (read_nodes n n 0 ws₁) _ (got_nodes n n 0 ws₁ (omega arith)) λ os ws₂ j.
    holds_then (Word ws₂) (TableOf us) (word ws₂) _ (got_word ws₂) λ c ws₃ e'.
    holds_then (Roots n c [] ws₃) (TableOf us) (read_roots n c [] ws₃) _ (got_roots n c [] ws₃ tt) λ rs ws₄ i.
    let g : Graph = record { operands = os; roots = rs } in
    record {
      are = e ∙ (λ x. sym j.many x ∷ (j.are
          ∙ ap (λ (l : List ℕ). list_words os ++ l) (e' ∙ (λ y. sym i.many y ∷ i.are y)) ∙ sym (append_assoc (list_words os) (counted rs) ws₄)) x);
      formed = record {
        inside = subst (λ (x : ℕ). All (All (Node x)) os) (sym j.many) j.inside;
        roots_inside = subst (λ (x : ℕ). All (Node x) rs) (sym j.many) i.inside;
        roots_nodup = i.nodup;
      };
      limits = record { nodes_fit = subst (λ (x : ℕ). x ≤ 30000) (sym j.many) (leb→le n 30000 t); edges_fit = omega (arith, j.fit) };
    }

whole_graph : (r : Got Graph) (g : Graph) → whole_table r ≡ graph g → r ≡ got g []
whole_graph (stopped f) g e = absurd (let z : ◌≡◌ {A = ℕ} 0 1 = cc in omega arith)
whole_graph (got h []) g e = cc
whole_graph (got h (w ∷ ws)) g e = absurd (let z : ◌≡◌ {A = ℕ} 0 1 = cc in omega arith)

pub words_read : (us : List ℕ) (g : Graph) → read_table us ≡ graph g → (us ≡ words g) × WellFormed g × WithinLimits g
unfolding read_table
words_read us g e =
    let h = subst (Holds (TableOf us)) (whole_graph (read_graph us) g e) (got_graph us) in
    (h.are ∙ append-nil (words g), h.formed, h.limits)
