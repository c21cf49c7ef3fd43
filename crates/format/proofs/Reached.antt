-- The walk ends, and it takes exactly the nodes that a root reaches; so the test `reached` says that every node is reached from a root. Assumes nothing.
use mathlib.Core.Path.{◌≡◌, refl, sym, ap, ◌∙◌, subst}
use mathlib.Core.Logic.{◌↔◌}
use Prim.Native.Nat.{ℕ, zero, suc, ◌+◌, ◌≤◌, ◌<◌}
use native.Mathlib.Nat.{le_antisymm}
use native.Mathlib.Omega.{arith}
use mathlib.Core.List.Memᴰ
use mathlib.Core.List.{List, [], ◌∷◌, Memᴰ}
use lib.ListN.{length, take, drop, length-append}
use lib.Seq.{take_all, take-append_seam}
use lib.Dec.{T, eqb, eqb→eq, eqb_refl}
use Rattle.format.specs.Lists.{All, one_to}
use Rattle.format.specs.Table.{Graph, nodes, Node, operands_of, WellFormed}
use Rattle.format.specs.Level.{Walk, see, see_all, visit, super_root, taken, turns, walk, level_order, reached, Reach, root, further}
use Rattle.format.proofs.Laws.{length_run}
use Rattle.format.proofs.Places.{all_append, all_drop, all_imp, all_mem, number_mem, complete, perm_length, nodup_run, all_run, take_end, take_next}
use Rattle.format.proofs.Walks.{see_cases, see_all_grows, Grows, inv_turns, turns_grows, see_all_lem}
use Rattle.format.proofs.Order.{order_mem, fits_length}

-- ---- the walk ends: no node is left after n turns

walk_short : (g : Graph) → WellFormed g → length (walk g).queue ≤ nodes g
unfolding walk
walk_short g f = fits_length (nodes g) (walk g).queue (inv_turns g f (nodes g)).nodup (inv_turns g f (nodes g)).inside

-- "Roots enter the queue in list order", before all others
pub roots_order : (g : Graph) → take (length g.roots) (level_order g) ≡ g.roots
unfolding level_order walk
roots_order g = let r = turns_grows g (nodes g) in ap (take (length g.roots)) r.1 ∙ take-append_seam g.roots r.0

-- ---- what is in the queue is reached

all_of : {A : Type 0} (P : A → Type 0) (xs : List A) → ((x : A) → Memᴰ x xs → P x) → All P xs
all_of P [] h = tt
all_of P (x ∷ xs) h = (h x (Memᴰ.head refl), all_of P xs (λ y m. h y (Memᴰ.tail m)))

see_all_all : (P : ℕ → Type 0) (vs : List ℕ) (w : Walk) → All P vs → All P w.queue → All P (see_all vs w).queue
unfolding see_all
see_all_all P [] w h a = a
see_all_all P (v ∷ vs) w h a = see_all_all P vs (see v w) h.1 (see_all_lem P v w h.0 a)

reach_taken : (g : Graph) (l : List ℕ) (w : Walk) → All (Reach g) l → All (Reach g) w.queue → All (Reach g) (taken g l w).queue
unfolding visit
reach_taken g [] w h a = a
reach_taken g (v ∷ l) w h a = see_all_all (Reach g) (operands_of g v) w (all_of (Reach g) (operands_of g v) (λ u m. further h.0 m)) a

reach_turns : (g : Graph) (i : ℕ) → All (Reach g) (turns g i).queue
unfolding turns super_root
reach_turns g zero = all_of (Reach g) g.roots (λ v m. root m)
reach_turns g (suc i) =
    let w : Walk = turns g i in
    reach_taken g (drop i w.queue) w (all_drop (Reach g) i w.queue (reach_turns g i)) (reach_turns g i)

-- ---- what is reached is in the queue

-- each operand that was seen is in the queue
see_has : (v : ℕ) (w : Walk) → Memᴰ v (see v w).queue
see_has v w = see_cases (λ (x : Walk). Memᴰ v x.queue) v w
    (λ e. Memᴰ.append_right w.queue (Memᴰ.head refl))
    (λ k e. number_mem v w.queue (λ z. omega arith))

grown : {v : ℕ} {q : List ℕ} (w : Walk) → Grows q w → Memᴰ v q → Memᴰ v w.queue
grown {v} w a m = subst (λ (l : List ℕ). Memᴰ v l) (sym a.1) (Memᴰ.append_left a.0 m)

see_all_has : (vs : List ℕ) (w : Walk) → All (λ (v : ℕ). Memᴰ v (see_all vs w).queue) vs
unfolding see_all
see_all_has [] w = tt
see_all_has (v ∷ vs) w = (grown (see_all vs (see v w)) (see_all_grows vs (see v w)) (see_has v w), see_all_has vs (see v w))

-- the operands of the nodes in l are in the queue
abbrev Closed : Graph → List ℕ → Walk → Type 0
Closed g l w = All (λ (v : ℕ). All (λ (u : ℕ). Memᴰ u w.queue) (operands_of g v)) l

closed_grown : (g : Graph) (l : List ℕ) (w x : Walk) → Grows w.queue x → Closed g l w → Closed g l x
closed_grown g l w x a c =
    all_imp (λ (v : ℕ). All (λ (u : ℕ). Memᴰ u w.queue) (operands_of g v)) (λ (v : ℕ). All (λ (u : ℕ). Memᴰ u x.queue) (operands_of g v)) l
    (λ v. all_imp (λ (u : ℕ). Memᴰ u w.queue) (λ (u : ℕ). Memᴰ u x.queue) (operands_of g v) (λ u m. grown x a m)) c

closed_taken : (g : Graph) (i : ℕ) (w : Walk) (l : List ℕ) → drop i w.queue ≡ l → Closed g (take i w.queue) w
    → Closed g (take (suc i) (taken g l w).queue) (taken g l w)
unfolding visit
closed_taken g i w [] e c = subst (λ (l : List ℕ). Closed g l w) (sym (take_end i w.queue e)) c
closed_taken g i w (v ∷ rest) e c =
    let x : Walk = see_all (operands_of g v) w in
    let s = see_all_grows (operands_of g v) w in
    subst (λ (l : List ℕ). Closed g l x) (sym (ap (take (suc i)) s.1 ∙ take_next i w.queue v rest s.0 e))
    (all_append (λ (y : ℕ). All (λ (u : ℕ). Memᴰ u x.queue) (operands_of g y)) (take i w.queue) (v ∷ [])
    (closed_grown g (take i w.queue) w x s c) (see_all_has (operands_of g v) w, tt))

closed_turns : (g : Graph) (i : ℕ) → Closed g (take i (turns g i).queue) (turns g i)
unfolding turns
closed_turns g zero = tt
closed_turns g (suc i) = closed_taken g i (turns g i) (drop i (turns g i).queue) refl (closed_turns g i)

closed_walk : (g : Graph) → WellFormed g → Closed g (walk g).queue (walk g)
unfolding walk
closed_walk g f = subst (λ (l : List ℕ). Closed g l (walk g)) (take_all (nodes g) (walk g).queue (walk_short g f)) (closed_turns g (nodes g))

order_reach : (g : Graph) → WellFormed g → {v : ℕ} → Reach g v → Memᴰ v (walk g).queue
unfolding walk
order_reach g f (root m) = grown (walk g) (turns_grows g (nodes g)) m
order_reach g f (further {u = u} r m) =
    all_mem (λ (x : ℕ). Memᴰ x (walk g).queue) (operands_of g u)
    (all_mem (λ (y : ℕ). All (λ (x : ℕ). Memᴰ x (walk g).queue) (operands_of g y)) (walk g).queue (closed_walk g f) (order_reach g f r)) m

-- the level order has exactly what the roots reach
order_reaches : (g : Graph) → WellFormed g → (v : ℕ) → Memᴰ v (level_order g) ↔ Reach g v
unfolding level_order walk
order_reaches g f v = ((λ m. all_mem (Reach g) (walk g).queue (reach_turns g (nodes g)) m), order_reach g f)

-- and the test says that the roots reach every node
pub reached_all : (g : Graph) → WellFormed g → T (reached g) ↔ ((v : ℕ) → Node (nodes g) v → Reach g v)
unfolding reached level_order
reached_all g f = (
  (λ t v h. (order_reaches g f v).0 (order_mem g (record { formed = f; all_reached = eqb→eq (length (level_order g)) (nodes g) t }) v h)),
  (λ r.
      let n : ℕ = nodes g in
      let c = complete (one_to n) (level_order g) (nodup_run 1 n)
      (all_imp (λ (x : ℕ). (1 ≤ x) × (x < 1 + n)) (λ (x : ℕ). Memᴰ x (level_order g)) (one_to n) (λ x h. (order_reaches g f x).1 (r x (omega arith))) (all_run 1 n)) in
      let e : length (level_order g) ≡ n = le_antisymm (walk_short g f) (omega (arith, perm_length c.1, length-append (one_to n) c.0, length_run 1 n)) in
      subst (λ (x : ℕ). T (eqb x n)) (sym e) (eqb_refl n)),
)
