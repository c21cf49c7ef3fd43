-- What is listed and answered of a node of an accepted table, from the table's own operands carried through the order list. Assumes nothing.
use Prim.Native.Nat.{ℕ, ◌+◌, ◌≤◌, ◌<◌}
use native.Mathlib.Omega.{arith}
use mathlib.Core.Path.{◌≡◌, sym, ap, ◌∙◌}
use mathlib.Core.Bool.{◌&&◌, cond}
use mathlib.Core.Option.{some}
use mathlib.Core.List.{List, map}
use lib.Dec.{ltb, eqb}
use lib.ListN.{length, get_or, replicate}
use Rattle.format.specs.Lists.{one_to, sum_of, join, count_in, node_at}
use Rattle.format.specs.Table.{Graph, nodes, edges, operands_of}
use Rattle.format.specs.Level.{walk, level_order}
use Rattle.format.specs.Trits.{select, nth}
use Rattle.format.specs.Image.{node_count, edge_count}
use Rattle.format.specs.Packing.{Accepted}
use Rattle.format.specs.Edges.{operand_of, user_of, operand_edges, use_edges}
use Rattle.format.specs.Question.{Reply, plain, answer, says, Beyond}
use Rattle.format.specs.Renumbering.{operands_at, users_at}
use Rattle.format.proofs.Order.{counts}
use Rattle.format.proofs.Neighbours.{operands_scanned, users_of}
use Rattle.format.proofs.Replies.{operands_reply, operand_reply, operand_33, uses_reply, user_reply, user_33}
use Rattle.format.proofs.Accepting.{packable, proper_table, root_count_lem, edge_count_lem}
use Rattle.format.proofs.Outcomes.{kind_3, kind_5, sum_same, sum_total}
use Rattle.format.proofs.Trip.{unpacked, renumbered_row}
use Rattle.format.proofs.Sizes.{total}
use Rattle.format.proofs.Sums.{operands_sum, uses_sum}
use Rattle.format.proofs.Places.{map_same, all_imp, all_run}
use Rattle.format.proofs.ProperLaws.{nth_selected, zeros_ones}
use Rattle.format.proofs.Select.{select_at}

module _ (table : List ℕ) (g : Graph) (a : Accepted table g) where
  abbrev trits : List ℕ
  trits = (walk g).trits

  abbrev H : List ℕ
  H = (walk g).shadows

  node_count_lem : node_count trits ≡ nodes g
  unfolding node_count
  node_count_lem = (counts g (packable table g a)).ones

  pub operands_listed : (i : ℕ) → 1 ≤ i → map operand_of (operand_edges trits H i) ≡ operands_at g i
  operands_listed i h =
      operands_scanned i trits H (proper_table table g a) h
      ∙ ap (λ (x : Graph). operands_of x i) (unpacked g (packable table g a)) ∙ renumbered_row g (level_order g) i

  pub users_listed : (v : ℕ) → map user_of (use_edges trits H v) ≡ users_at g v
  users_listed v =
      let times : List ℕ → ℕ → List ℕ = λ row i. replicate (count_in v row) i in
      users_of trits H (proper_table table g a) v
      ∙ ap (λ (n : ℕ). join (map (λ (i : ℕ). times (map operand_of (operand_edges trits H i)) i) (one_to n))) node_count_lem
      ∙ ap join (map_same (λ (i : ℕ). times (map operand_of (operand_edges trits H i)) i) (λ (i : ℕ). times (operands_at g i) i) (one_to (nodes g))
      (all_imp (λ (i : ℕ). (1 ≤ i) × (i < 1 + nodes g)) (λ (i : ℕ). times (map operand_of (operand_edges trits H i)) i ≡ times (operands_at g i) i) (one_to (nodes g))
      (λ i h. ap (λ (row : List ℕ). times row i) (operands_listed i h.0)) (all_run 1 (nodes g))))

  module _ (i : ℕ) (low : 1 ≤ i) (high : i ≤ nodes g) where
    inside : i ≤ node_count trits
    inside = omega (arith, node_count_lem)

    pub operand_counts : answer trits H 3 i 0 ≡ says 0 (length (operands_at g i)) 0
    operand_counts = operands_reply trits H (proper_table table g a) i low inside (operands_at g i) (operands_listed i low)

    -- the operands stand after the i-th zero
    pub operand_answers : (p : ℕ) × (select 0 trits i ≡ some p)
        × ((b : ℕ) → 1 ≤ b → b ≤ length (operands_at g i) → answer trits H 4 i b ≡ says 0 (node_at (operands_at g i) b) (get_or trits (p + b) 0))
    operand_answers =
        let pr = proper_table table g a in
        let s = nth_selected 0 trits i low (omega (arith, zeros_ones trits pr.is_balanced, inside)) in (
          nth 0 trits i,
          ap (select 0 trits) (sym s.ranked) ∙ select_at 0 trits (nth 0 trits i) s.inside s.holds,
          operand_reply trits H pr i low inside (operands_at g i) (operands_listed i low),
        )

    pub operand_past : (b : ℕ) → Beyond (length (operands_at g i)) b → answer trits H 4 i b ≡ says 33 0 0
    operand_past = operand_33 trits H (proper_table table g a) i low inside (operands_at g i) (operands_listed i low)

    pub use_counts : answer trits H 5 i 0 ≡ says 0 (length (users_at g i)) 0
    use_counts = uses_reply trits H (proper_table table g a) i low inside (users_at g i) (users_listed i)

    pub user_answers : (b : ℕ) → 1 ≤ b → b ≤ length (users_at g i)
        → answer trits H 6 i b ≡ says 0 (node_at (users_at g i) b) (cond (ltb (length g.roots) i && eqb b 1) 1 2)
    user_answers b h k =
        user_reply trits H (proper_table table g a) i low inside (users_at g i) (users_listed i) b h k
        ∙ ap (λ (c : ℕ). says 0 (node_at (users_at g i) b) (cond (ltb c i && eqb b 1) 1 2)) (root_count_lem g (packable table g a))

    pub user_past : (b : ℕ) → Beyond (length (users_at g i)) b → answer trits H 6 i b ≡ says 33 0 0
    user_past = user_33 trits H (proper_table table g a) i low inside (users_at g i) (users_listed i)

  sum_kind : (k : ℕ) (F : ℕ → ℕ) → ((i : ℕ) → 1 ≤ i → i ≤ node_count trits → answer trits H k i 0 ≡ plain (F i)) → total F (node_count trits) ≡ edge_count trits
      → sum_of (λ (i : ℕ). (answer trits H k i 0).value) (one_to (nodes g)) ≡ edges g
  sum_kind k F kind sum =
      sum_same (λ (i : ℕ). (answer trits H k i 0).value) F (one_to (nodes g))
      (all_imp (λ (i : ℕ). (1 ≤ i) × (i < 1 + nodes g)) (λ (i : ℕ). (answer trits H k i 0).value ≡ F i) (one_to (nodes g))
      (λ i h. ap (λ (r : Reply). r.value) (kind i h.0 (omega (arith, node_count_lem)))) (all_run 1 (nodes g)))
      ∙ sum_total F (nodes g) ∙ ap (total F) (sym node_count_lem) ∙ sum ∙ edge_count_lem g (packable table g a)

  pub kind_3_sum : sum_of (λ (i : ℕ). (answer trits H 3 i 0).value) (one_to (nodes g)) ≡ edges g
  kind_3_sum = sum_kind 3 (λ i. length (operand_edges trits H i)) (kind_3 trits H) (operands_sum trits H (proper_table table g a))

  pub kind_5_sum : sum_of (λ (i : ℕ). (answer trits H 5 i 0).value) (one_to (nodes g)) ≡ edges g
  kind_5_sum = sum_kind 5 (λ i. length (use_edges trits H i)) (kind_5 trits H) (uses_sum trits H (proper_table table g a))
