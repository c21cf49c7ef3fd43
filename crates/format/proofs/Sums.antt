-- "Over all nodes the counts of kind 3 sum to m, and so do those of kind 5." Assumes nothing.
use Prim.Native.Nat.{ℕ, zero, suc, ◌+◌, ◌-◌, ◌≤◌, ◌<◌, zero-le, suc-le-suc}
use native.Mathlib.Nat.{le_of_suc-le-suc, not-suc-le-zero, le_refl, zero-add, add-zero, suc_inj}
use native.Mathlib.Omega.{arith}
use mathlib.Core.Path.{◌≡◌, sym, ap, ◌∙◌}
use mathlib.Core.List.{List, [], ◌∷◌}
use lib.Dec.{leb, ltb}
use lib.ListN.{length, get_or}
use lib.Seq.{take_all}
use borrow.Author.Tests.{leb-true, eqb-true, ne_eqb, lt-ltb, le-ltb}
use native.Mathlib.Decide.{dec_le}
use Rattle.format.specs.Lists.{bit, count_in}
use Rattle.format.specs.Trits.{rank, places, Selected, nth}
use Rattle.format.specs.Image.{until_zero, node_count, root_count, edge_count}
use Rattle.format.specs.Proper.{roots_first, limits, ProperTrits}
use Rattle.format.specs.Edges.{operand_edges, use_edges}
use Rattle.format.proofs.Laws.{both_true, rank_here, rank_three, get_or_other}
use Rattle.format.proofs.Select.{place_rank}
use Rattle.format.proofs.Sizes.{total, total_counts, total_cong, total_add}
use Rattle.format.proofs.CheckLaws.{shadow_nodes}
use Rattle.format.proofs.EdgeLaws.{lt_of_rank}
use Rattle.format.proofs.ProperLaws.{zeros_ones, last_zero_lem, length_trits, nth_selected, operand_count_lem, use_count_lem}

-- ---- the first zero stands at c, the last at L - 1

before_first : (t : ℕ) (xs : List ℕ) (p : ℕ) → 0 < t → p ≤ length xs → rank 0 xs p ≡ 0 → rank t xs p ≤ count_in t (until_zero xs)
unfolding rank
before_first t xs zero pt l r = zero-le
before_first t [] (suc p) pt l r = absurd (not-suc-le-zero l)
before_first t (zero ∷ xs) (suc p) pt l r = absurd (omega arith)
before_first t (suc x ∷ xs) (suc p) pt l r =
    omega (arith, before_first t xs p pt (le_of_suc-le-suc l) (omega (arith, ap bit (ne_eqb (suc x) 0 (λ q. omega arith)))))

upto_first : (t : ℕ) (xs : List ℕ) (p : ℕ) → 0 < t → p < length xs → get_or xs p 0 ≡ 0 → count_in t (until_zero xs) ≤ rank t xs p
unfolding rank
upto_first t [] p pt l e = absurd (not-suc-le-zero l)
upto_first t (zero ∷ xs) p pt l e = zero-le
upto_first t (suc x ∷ xs) zero pt l e = absurd (omega arith)
upto_first t (suc x ∷ xs) (suc p) pt l e = omega (arith, upto_first t xs p pt (le_of_suc-le-suc l) e)

pub first_zero : (trits H : List ℕ) → ProperTrits trits H → nth 0 trits 1 ≡ root_count trits
unfolding root_count roots_first
first_zero trits H p =
    let z : ℕ = nth 0 trits 1 in
    let s : Selected 0 trits 1 z = nth_selected 0 trits 1 (le_refl 1) (omega (arith, zeros_ones trits p.is_balanced)) in
    let inz : z < length trits = s.inside in
    let r0 : rank 0 trits z ≡ 0 = suc_inj s.ranked in
    omega (
      arith,
      rank_three trits p.threes z (omega arith),
      before_first 1 trits z (le_refl 1) (omega arith) r0,
      upto_first 1 trits z (le_refl 1) inz s.holds,
      before_first 2 trits z (suc-le-suc zero-le) (omega arith) r0,
      eqb-true (count_in 2 (until_zero trits)) 0 p.roots_are_first,
    )

pub final_zero : (trits H : List ℕ) → ProperTrits trits H → nth 0 trits (suc (node_count trits)) ≡ length trits - 1
unfolding nth rank
final_zero trits H p =
    let L : ℕ = length trits in
    let one : 1 ≤ L = p.length_low in
    let q : ℕ = L - 1 in
    let lq : q < L = omega arith in
    let e : suc q ≡ L = omega arith in
    let z : get_or trits q 0 ≡ 0 = get_or_other trits q 0 3 lq ∙ last_zero_lem trits p.is_balanced in
    let all : rank 0 trits L ≡ count_in 0 trits = ap (count_in 0) (take_all L trits (le_refl L)) in
    let r : rank 0 trits q ≡ suc (node_count trits) - 1 = omega (arith, rank_here 0 trits q lq z, ap (λ (k : ℕ). rank 0 trits k) e, zeros_ones trits p.is_balanced) in
    ap (λ (k : ℕ). get_or (places 0 trits) k 0) (sym r) ∙ place_rank 0 trits q lq z

-- ---- the sums

front_le : (t : ℕ) (xs : List ℕ) → count_in t (until_zero xs) ≤ count_in t xs
front_le t [] = zero-le
front_le t (zero ∷ xs) = zero-le
front_le t (suc x ∷ xs) = omega (arith, front_le t xs)

pub roots_nodes : (trits : List ℕ) → root_count trits ≤ node_count trits
unfolding root_count node_count
roots_nodes trits = front_le 1 trits

-- m = n + k - c
pub edges_shadows : (trits H : List ℕ) → ProperTrits trits H → edge_count trits + root_count trits ≡ node_count trits + length H
unfolding edge_count
edges_shadows trits H p = omega (arith, length_trits trits H p, roots_nodes trits)

pub shadows_few : {trits H : List ℕ} → ProperTrits trits H → length H ≤ 65535
unfolding limits
shadows_few {trits} {H} p =
    omega (arith, edges_shadows trits H p, roots_nodes trits, leb-true (edge_count trits) 65535 (both_true (leb (node_count trits) 30000) (leb (edge_count trits) 65535) p.in_limits).1)

sum_operands : (trits H : List ℕ) → ProperTrits trits H → (j : ℕ) → j ≤ node_count trits
    → total (λ i. length (operand_edges trits H i)) j + nth 0 trits 1 + j ≡ nth 0 trits (suc j)
sum_operands trits H p zero l = ap (λ (k : ℕ). k + 0) (zero-add (nth 0 trits 1)) ∙ add-zero (nth 0 trits 1)
sum_operands trits H p (suc j) l =
    let s : Selected 0 trits (suc j) (nth 0 trits (suc j)) = nth_selected 0 trits (suc j) (suc-le-suc zero-le) (omega (arith, zeros_ones trits p.is_balanced)) in
    let s' : Selected 0 trits (suc (suc j)) (nth 0 trits (suc (suc j))) = nth_selected 0 trits (suc (suc j)) (suc-le-suc zero-le) (omega (arith, zeros_ones trits p.is_balanced)) in
    omega (
      arith,
      sum_operands trits H p j (omega arith),
      operand_count_lem trits H p (suc j) (suc-le-suc zero-le) l,
      lt_of_rank 0 trits (nth 0 trits (suc j)) (nth 0 trits (suc (suc j))) (omega (arith, s.ranked, s'.ranked)),
    )

pub operands_sum : (trits H : List ℕ) → ProperTrits trits H → total (λ i. length (operand_edges trits H i)) (node_count trits) ≡ edge_count trits
unfolding edge_count
operands_sum trits H p =
    omega (arith, sum_operands trits H p (node_count trits) (le_refl (node_count trits)), first_zero trits H p, final_zero trits H p, p.length_low)

total_above : (c n : ℕ) → total (λ i. bit (ltb c i)) n ≡ n - c
total_above c zero = omega arith
total_above c (suc n) = go (dec_le (suc c) (suc n)) (total_above c n)
  where
    go : Dec (suc c ≤ suc n) → total (λ i. bit (ltb c i)) n ≡ n - c → total (λ i. bit (ltb c i)) n + bit (ltb c (suc n)) ≡ suc n - c
    go (yes h) e = omega (arith, ap bit (lt-ltb c (suc n) h))
    go (no h) e = omega (arith, ap bit (le-ltb c (suc n) (omega arith)))

pub uses_sum : (trits H : List ℕ) → ProperTrits trits H → total (λ i. length (use_edges trits H i)) (node_count trits) ≡ edge_count trits
uses_sum trits H p =
    total_cong (λ i. length (use_edges trits H i)) (λ i. bit (ltb (root_count trits) i) + count_in i H) (node_count trits) (λ i a b. use_count_lem trits H p i a b)
    ∙ total_add (λ i. bit (ltb (root_count trits) i)) (λ i. count_in i H) (node_count trits)
    ∙ omega (
      arith,
      total_above (root_count trits) (node_count trits),
      total_counts (node_count trits) H (shadow_nodes trits H p.paired p.seen),
      edges_shadows trits H p,
      roots_nodes trits,
    )
