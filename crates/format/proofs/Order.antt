-- The level order of a well-formed graph whose nodes are all reached: it has every node once; and the counts of trits. Assumes nothing.
use mathlib.Core.Path.{◌≡◌, refl, sym, ap, ◌∙◌, subst}
use mathlib.Core.Logic.{◌≢◌}
use Prim.Native.Nat.{ℕ, suc, ◌+◌, ◌≤◌}
use native.Mathlib.Nat.{suc-ne-zero}
use native.Mathlib.Numerals.{add-one}
use native.Mathlib.Omega.{arith}
use mathlib.Core.List.Permᴰ
use mathlib.Core.List.{List, [], ◌∷◌, ◌++◌, append-nil, Memᴰ, Permᴰ}
use lib.ListN.{length, get_or, length-append}
use lib.Seq.{take_all, get_or-append_seam, append_snoc}
use borrow.Author.Tests.{ne_eqb}
use Rattle.format.specs.Lists.{bit, run, All, count_in, number_in, one_to, sum_of, Nodup}
use Rattle.format.specs.Table.{Graph, nodes, Node, edges, operands_of, WellFormed}
use Rattle.format.specs.Level.{walk, level_order, Counts}
use Rattle.format.proofs.Laws.{count_append, length_run}
use Rattle.format.proofs.Places.{mem_run, all_imp, mem_number, complete, perm_length, perm_mem, perm_sum}
use Rattle.format.proofs.Walks.{operands_inside, Inv, rows_of, inv_turns}

-- the graphs that are packed
pub record Packable (g : Graph) : Type 0 where
  pub formed : WellFormed g
  pub all_reached : length (level_order g) ≡ nodes g

-- ---- every node once

-- nodes, none twice: at most n
pub fits : (n : ℕ) (q : List ℕ) → Nodup q → All (Node n) q → (r : List ℕ) × Permᴰ (q ++ r) (one_to n)
fits n q d a = complete q (one_to n) d (all_imp (Node n) (λ x. Memᴰ x (one_to n)) q (λ x h. mem_run 1 n x h.0 (omega arith)) a)

pub fits_length : (n : ℕ) (q : List ℕ) → Nodup q → All (Node n) q → length q ≤ n
fits_length n q d a =
    let c = fits n q d a in
    omega (arith, length-append q c.0, perm_length c.1, length_run 1 n)

length_zero : {A : Type 0} (l : List A) → length l ≡ 0 → l ≡ []
length_zero [] e = refl
length_zero (x ∷ l) e = absurd (suc-ne-zero (length l) e)

-- as many as n: all of them
fits_perm : (n : ℕ) (q : List ℕ) → Nodup q → All (Node n) q → length q ≡ n → Permᴰ q (one_to n)
fits_perm n q d a e =
    let c = fits n q d a in
    let z : c.0 ≡ [] = length_zero c.0 (omega (arith, length-append q c.0, perm_length c.1, length_run 1 n)) in
    subst (λ (l : List ℕ). Permᴰ l (one_to n)) (ap (λ (l : List ℕ). q ++ l) z ∙ append-nil q) c.1

module _ (g : Graph) (p : Packable g) where
  -- what holds of the whole walk
  pub inv_walk : Inv (nodes g) (walk g) (g.roots ++ 0 ∷ rows_of g (level_order g))
  unfolding walk level_order
  inv_walk = subst (λ (l : List ℕ). Inv (nodes g) (walk g) (g.roots ++ 0 ∷ rows_of g l))
      (take_all (nodes g) (walk g).queue (omega (arith, p.all_reached))) (inv_turns g p.formed (nodes g))

  pub order_nodup : Nodup (level_order g)
  unfolding level_order
  order_nodup = inv_walk.nodup

  pub order_inside : All (Node (nodes g)) (level_order g)
  unfolding level_order
  order_inside = inv_walk.inside

  pub order_perm : Permᴰ (level_order g) (one_to (nodes g))
  order_perm = fits_perm (nodes g) (level_order g) order_nodup order_inside p.all_reached

  -- so every node has a place
  pub order_mem : (v : ℕ) → Node (nodes g) v → Memᴰ v (level_order g)
  order_mem v h = perm_mem (Permᴰ.symm order_perm) (mem_run 1 (nodes g) v h.0 (omega arith))

  pub order_number : (v : ℕ) → Node (nodes g) v → number_in v (level_order g) ≢ 0
  order_number v h = mem_number (order_mem v h)

-- ---- the counts

length_rows_of : (g : Graph) (vs : List ℕ) → length (rows_of g vs) ≡ sum_of (λ (v : ℕ). length (operands_of g v)) vs + length vs
unfolding rows_of sum_of
length_rows_of g [] = refl
length_rows_of g (v ∷ vs) = omega (arith, length-append (operands_of g v) (0 ∷ rows_of g vs), length_rows_of g vs)

-- no zero in a list of nodes
count_nodes : (n : ℕ) (vs : List ℕ) → All (Node n) vs → count_in 0 vs ≡ 0
count_nodes n [] a = refl
count_nodes n (v ∷ vs) a = omega (arith, ap bit (ne_eqb v 0 (λ e. omega arith)), count_nodes n vs a.1)

count_rows_of : (g : Graph) → WellFormed g → (vs : List ℕ) → count_in 0 (rows_of g vs) ≡ length vs
unfolding rows_of
count_rows_of g f [] = refl
count_rows_of g f (v ∷ vs) =
    omega (arith, count_append 0 (operands_of g v) (0 ∷ rows_of g vs), count_nodes (nodes g) (operands_of g v) (operands_inside g f v), count_rows_of g f vs)

-- the operand counts of nodes 1 to n add up to m
sum_edges : (g : Graph) (pre os : List (List ℕ)) → g.operands ≡ pre ++ os → sum_of (λ (v : ℕ). length (operands_of g v)) (run (suc (length pre)) (length os)) ≡ sum_of length os
unfolding sum_of operands_of
sum_edges g pre [] e = refl
sum_edges g pre (xs ∷ os) e =
    let l : List (List ℕ) = pre ++ xs ∷ [] in
    let h : get_or g.operands (length pre) [] ≡ xs = ap (λ (o : List (List ℕ)). get_or o (length pre) []) e ∙ get_or-append_seam pre xs os [] in
    let ih = sum_edges g l os (e ∙ sym (append_snoc pre xs os)) in
    let s : length l ≡ suc (length pre) = length-append pre (xs ∷ []) ∙ add-one (length pre) in
    (λ i. length (h i) + (ap (λ (k : ℕ). sum_of (λ (v : ℕ). length (operands_of g v)) (run (suc k) (length os))) (sym s) ∙ ih) i)

pub counts : (g : Graph) → Packable g → Counts g
unfolding level_order
counts g p =
    let i = inv_walk g p in
    let a = p.all_reached in
    let l : length (walk g).trits ≡ nodes g + edges g + length g.roots + 1 =
    omega (
      arith,
      i.size,
      length-append g.roots (0 ∷ rows_of g (level_order g)),
      length_rows_of g (level_order g),
      perm_sum (λ (v : ℕ). length (operands_of g v)) (order_perm g p),
      sum_edges g [] g.operands refl,
    ) in
    let z : count_in 0 (walk g).trits ≡ nodes g + 1 =
    omega (
      arith,
      i.zeros,
      count_append 0 g.roots (0 ∷ rows_of g (level_order g)),
      count_nodes (nodes g) g.roots p.formed.roots_inside,
      count_rows_of g p.formed (level_order g),
    ) in
    let o : count_in 1 (walk g).trits ≡ nodes g = i.ones ∙ a in
    record { size = l; zeros = z; ones = o; twos = omega (arith, i.kinds); shadows = sym i.twos }
