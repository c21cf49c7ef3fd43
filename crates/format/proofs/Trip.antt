-- Trits and shadows give back the graph in level numbers; they are the same for two graphs exactly where these differ only in the numbers of
-- their nodes. Assumes nothing.
use mathlib.Core.Path.{◌≡◌, refl, sym, ap, ◌∙◌}
use mathlib.Core.Logic.{◌≢◌, ◌↔◌}
use Prim.Native.Nat.{ℕ, zero, suc, ◌≤◌}
use native.Mathlib.Nat.{le_antisymm}
use native.Mathlib.Omega.{arith}
use mathlib.Core.List.{List, [], ◌∷◌, ◌++◌, map, map-map, append-nil, map-append}
use lib.ListN.{length, get_or, drop, replicate, length-map, get_or-map}
use Rattle.format.specs.Lists.{All, number_in, node_at}
use Rattle.format.specs.Table.{Graph, nodes, Node, operands_of, WellFormed}
use Rattle.format.specs.Level.{Walk, enter, see, see_all, close, visit, super_root, taken, turns, walk, level_order}
use Rattle.format.specs.Renumbering.{renumbered, Renumbering}
use Rattle.format.proofs.Cutting.{in_front, cut, as_graph, scanned}
use Rattle.format.proofs.Places.{all_imp, all_map, all_drop, all_node_at, map_id, drop_map, number_map, nodup_map, get_or_number, node_number, number_node, number_le}
use Rattle.format.proofs.Walks.{operands_inside, rows_of, inv_turns, see_all_lem}
use Rattle.format.proofs.Order.{Packable, inv_walk, order_nodup, order_inside, order_number, fits_length}

-- ---- from trits and shadows to the graph

cut_row : (xs rest : List ℕ) → All (λ x. x ≢ 0) xs → cut (xs ++ 0 ∷ rest) ≡ xs ∷ cut rest
unfolding cut
cut_row [] rest a = refl
cut_row (zero ∷ xs) rest a = absurd (a.0 refl)
cut_row (suc x ∷ xs) rest a = ap (in_front (suc x)) (cut_row xs rest a.1)

-- a row of nodes, numbered by a p that takes nodes to numbers above 0, and 0 to 0
cut_nodes : (n : ℕ) (p : ℕ → ℕ) → p 0 ≡ 0 → ((v : ℕ) → Node n v → p v ≢ 0) → (vs rest : List ℕ) → All (Node n) vs
    → cut (map p (vs ++ 0 ∷ rest)) ≡ map p vs ∷ cut (map p rest)
cut_nodes n p z h vs rest a =
    ap cut (map-append p vs (0 ∷ rest) ∙ ap (λ (x : ℕ). map p vs ++ x ∷ map p rest) z)
    ∙ cut_row (map p vs) (map p rest) (all_map (λ x. x ≢ 0) p vs (all_imp (Node n) (λ v. p v ≢ 0) vs h a))

cut_rows : (g : Graph) → WellFormed g → (p : ℕ → ℕ) → p 0 ≡ 0 → ((v : ℕ) → Node (nodes g) v → p v ≢ 0) → (vs : List ℕ)
    → cut (map p (rows_of g vs)) ≡ map (λ (v : ℕ). map p (operands_of g v)) vs
unfolding rows_of cut
cut_rows g f p z h [] = refl
cut_rows g f p z h (v ∷ vs) =
    cut_nodes (nodes g) p z h (operands_of g v) (rows_of g vs) (operands_inside g f v)
    ∙ ap (λ (l : List (List ℕ)). map p (operands_of g v) ∷ l) (cut_rows g f p z h vs)

-- 0 is no node
no_zero : (n : ℕ) (q : List ℕ) → All (Node n) q → number_in 0 q ≡ 0
no_zero n q a = go (number_in 0 q) refl
  where
    go : (p : ℕ) → number_in 0 q ≡ p → p ≡ 0
    go zero e = refl
    go (suc k) e =
        let r = get_or_number 0 q k e in
        let b : Node n (get_or q k 0) = all_node_at (Node n) q (suc k) a (omega arith) r.0 in
        absurd (omega (arith, r.1))

pub unpacked : (g : Graph) → Packable g → scanned (walk g).trits (walk g).shadows ≡ renumbered g (level_order g)
unfolding scanned renumbered level_order
unpacked g p =
    let q : List ℕ = (walk g).queue in
    let z : number_in 0 q ≡ 0 = no_zero (nodes g) q (order_inside g p) in
    let at : ℕ → ℕ = λ v. number_in v q in
    ap (λ (l : List ℕ). as_graph (cut l)) ((inv_walk g p).shows q [] (sym (append-nil q)) z)
    ∙ ap as_graph (cut_nodes (nodes g) at z (order_number g p) g.roots (rows_of g q) p.formed.roots_inside
    ∙ ap (λ (l : List (List ℕ)). map at g.roots ∷ l) (cut_rows g p.formed at z (order_number g p) q))

-- ---- the walk of a renumbered graph is the renumbered walk

abbrev pub mapped : (ℕ → ℕ) → Walk → Walk
mapped f w = record { queue = map f w.queue; trits = w.trits; shadows = w.shadows }

enter_map : (f : ℕ → ℕ) (p v : ℕ) (w : Walk) → enter p (f v) (mapped f w) ≡ mapped f (enter p v w)
enter_map f zero v w = λ i. record { queue = sym (map-append f w.queue (v ∷ [])) i; trits = w.trits ++ 1 ∷ []; shadows = w.shadows }
enter_map f (suc k) v w = refl

module _ (n : ℕ) (f : ℕ → ℕ) (inj : (u v : ℕ) → Node n u → Node n v → f u ≡ f v → u ≡ v) where
  see_map : (v : ℕ) (w : Walk) → Node n v → All (Node n) w.queue → see (f v) (mapped f w) ≡ mapped f (see v w)
  unfolding see
  see_map v w h a =
      ap (λ (p : ℕ). enter p (f v) (mapped f w)) (number_map f v w.queue (all_imp (Node n) (λ x. f v ≡ f x → v ≡ x) w.queue (λ x k e. inj v x h k e) a))
      ∙ enter_map f (number_in v w.queue) v w

  see_all_map : (vs : List ℕ) (w : Walk) → All (Node n) vs → All (Node n) w.queue → see_all (map f vs) (mapped f w) ≡ mapped f (see_all vs w)
  unfolding see_all
  see_all_map [] w h a = refl
  see_all_map (v ∷ vs) w h a = ap (see_all (map f vs)) (see_map v w h.0 a) ∙ see_all_map vs (see v w) h.1 (see_all_lem (Node n) v w h.0 a)

module _ (g h : Graph) (fg : WellFormed g) (f : ℕ → ℕ) (inj : (u v : ℕ) → Node (nodes g) u → Node (nodes g) v → f u ≡ f v → u ≡ v)
    (rs : map f g.roots ≡ h.roots) (os : (v : ℕ) → Node (nodes g) v → map f (operands_of g v) ≡ operands_of h (f v)) where
  taken_map : (l : List ℕ) (w : Walk) → All (Node (nodes g)) l → All (Node (nodes g)) w.queue → taken h (map f l) (mapped f w) ≡ mapped f (taken g l w)
  unfolding visit
  taken_map [] w b a = refl
  taken_map (v ∷ l) w b a =
      ap close (ap (λ (vs : List ℕ). see_all vs (mapped f w)) (sym (os v b.0)) ∙ see_all_map (nodes g) f inj (operands_of g v) w (operands_inside g fg v) a)

  turns_map : (i : ℕ) → turns h i ≡ mapped f (turns g i)
  unfolding turns super_root
  turns_map zero = λ i. record {
    queue = sym rs i;
    trits = replicate ((ap length (sym rs) ∙ length-map g.roots f) i) 1 ++ 0 ∷ [];
    shadows = [];
  }
  turns_map (suc i) =
      let w : Walk = turns g i in
      let a : All (Node (nodes g)) w.queue = (inv_turns g fg i).inside in
      ap (λ (x : Walk). taken h (drop i x.queue) x) (turns_map i)
      ∙ ap (λ (l : List ℕ). taken h l (mapped f w)) (drop_map f i w.queue)
      ∙ taken_map (drop i w.queue) w (all_drop (Node (nodes g)) i w.queue a) a

  walk_map : nodes h ≡ nodes g → walk h ≡ mapped f (walk g)
  unfolding walk
  walk_map e = ap (turns h) e ∙ turns_map (nodes g)

-- ---- one graph under two numberings: from graphs to trits

-- the bijection does not confuse nodes
same_inj : (g h : Graph) (s : Renumbering g h) (u v : ℕ) → Node (nodes g) u → Node (nodes g) v → s.to u ≡ s.to v → u ≡ v
same_inj g h s u v a b e = sym (s.from_to u a) ∙ ap s.from e ∙ s.from_to v b

-- an injection of n nodes into n' nodes: n ≤ n'
same_le : (g h : Graph) → Packable g → (f : ℕ → ℕ) → ((v : ℕ) → Node (nodes g) v → Node (nodes h) (f v))
    → ((u v : ℕ) → Node (nodes g) u → Node (nodes g) v → f u ≡ f v → u ≡ v) → nodes g ≤ nodes h
same_le g h p f into inj =
    let q : List ℕ = level_order g in
    let a : All (Node (nodes g)) q = order_inside g p in
    omega (
      arith,
      p.all_reached,
      length-map q f,
      fits_length (nodes h) (map f q) (nodup_map f (Node (nodes g)) inj q a (order_nodup g p))
          (all_map (Node (nodes h)) f q (all_imp (Node (nodes g)) (λ v. Node (nodes h) (f v)) q into a)),
    )

pub same_nodes : (g h : Graph) → Packable g → Packable h → Renumbering g h → nodes h ≡ nodes g
same_nodes g h p k s =
    le_antisymm
    (same_le h g k s.from s.from_node (λ u v a b e. sym (s.to_from u a) ∙ ap s.to e ∙ s.to_from v b))
    (same_le g h p s.to s.to_node (same_inj g h s))

same_walk : (g h : Graph) → Packable g → Packable h → (s : Renumbering g h) → walk h ≡ mapped s.to (walk g)
same_walk g h p k s = walk_map g h p.formed s.to (same_inj g h s) s.roots_to s.operands_to (same_nodes g h p k s)

-- ---- from trits to graphs

-- the operands of the node at a level number, renumbered
pub renumbered_row : (g : Graph) (q : List ℕ) (p : ℕ) → operands_of (renumbered g q) p ≡ map (λ (u : ℕ). number_in u q) (operands_of g (node_at q p))
unfolding renumbered operands_of
renumbered_row g q zero = refl
renumbered_row g q (suc k) = get_or-map (λ (v : ℕ). map (λ (u : ℕ). number_in u q) (operands_of g v)) q k 0

renumbered_nodes : (g : Graph) (q : List ℕ) → nodes (renumbered g q) ≡ length q
unfolding renumbered
renumbered_nodes g q = length-map q (λ (v : ℕ). map (λ (u : ℕ). number_in u q) (operands_of g v))

-- places turned back into nodes
back : (n : ℕ) (q : List ℕ) → ((v : ℕ) → Node n v → number_in v q ≢ 0) → (vs : List ℕ) → All (Node n) vs
    → map (node_at q) (map (λ (u : ℕ). number_in u q) vs) ≡ vs
back n q h vs a = map-map (node_at q) (λ (u : ℕ). number_in u q) vs
    ∙ map_id (λ (u : ℕ). node_at q (number_in u q)) vs (all_imp (Node n) (λ u. node_at q (number_in u q) ≡ u) vs (λ u b. node_number q u (h u b)) a)

-- the node of h at the level number that v has in g
abbrev across : Graph → Graph → ℕ → ℕ
across g h v = node_at (level_order h) (number_in v (level_order g))

-- a place that is not 0
number_pos : (v : ℕ) (q : List ℕ) → number_in v q ≢ 0 → 1 ≤ number_in v q
number_pos v q h = omega arith

across_node : (g h : Graph) → Packable g → Packable h → nodes g ≡ nodes h → (v : ℕ) → Node (nodes g) v → Node (nodes h) (across g h v)
across_node g h p k e v a =
    all_node_at (Node (nodes h)) (level_order h) (number_in v (level_order g)) (order_inside h k) (number_pos v (level_order g) (order_number g p v a))
    (omega (arith, number_le v (level_order g), p.all_reached, k.all_reached))

across_back : (g h : Graph) → Packable g → Packable h → nodes g ≡ nodes h → (v : ℕ) → Node (nodes g) v → across h g (across g h v) ≡ v
across_back g h p k e v a =
    ap (node_at (level_order g)) (number_node (level_order h) (number_in v (level_order g)) (order_nodup h k) (number_pos v (level_order g) (order_number g p v a))
    (omega (arith, number_le v (level_order g), p.all_reached, k.all_reached)))
    ∙ node_number (level_order g) v (order_number g p v a)

-- two graphs that are one in level numbers
same_of_renumbered : (g h : Graph) → Packable g → Packable h → renumbered g (level_order g) ≡ renumbered h (level_order h) → Renumbering g h
unfolding renumbered
same_of_renumbered g h p k e =
    let q : List ℕ = level_order g in
    let r : List ℕ = level_order h in
    let n : nodes g ≡ nodes h = sym p.all_reached ∙ sym (renumbered_nodes g q) ∙ ap nodes e ∙ renumbered_nodes h r ∙ k.all_reached in
    record {
      to = across g h;
      from = across h g;
      to_node = across_node g h p k n;
      from_node = across_node h g k p (sym n);
      from_to = across_back g h p k n;
      to_from = across_back h g k p (sym n);
      roots_to =
          sym (map-map (node_at r) (λ (u : ℕ). number_in u q) g.roots)
          ∙ (λ i. map (node_at r) (e i).roots)
          ∙ back (nodes h) r (order_number h k) h.roots k.formed.roots_inside;
      operands_to = λ v a.
          sym (map-map (node_at r) (λ (u : ℕ). number_in u q) (operands_of g v))
          ∙ ap (λ (u : ℕ). map (node_at r) (map (λ (u : ℕ). number_in u q) (operands_of g u))) (sym (node_number q v (order_number g p v a)))
          ∙ ap (map (node_at r)) (sym (renumbered_row g q (number_in v q)) ∙ (λ i. operands_of (e i) (number_in v q)) ∙ renumbered_row h r (number_in v q))
          ∙ back (nodes h) r (order_number h k) (operands_of h (across g h v)) (operands_inside h k.formed (across g h v));
    }

-- the same trits and shadows exactly for the same graph but for the numbers of its nodes
pub same_code : (g h : Graph) → Packable g → Packable h
    → (((walk g).trits ≡ (walk h).trits) × ((walk g).shadows ≡ (walk h).shadows)) ↔ Renumbering g h
same_code g h p k = (
  (λ e. same_of_renumbered g h p k (sym (unpacked g p) ∙ (λ i. scanned (e.0 i) (e.1 i)) ∙ unpacked h k)),
  (λ s. ((λ i. (sym (same_walk g h p k s) i).trits), (λ i. (sym (same_walk g h p k s) i).shadows))),
)
