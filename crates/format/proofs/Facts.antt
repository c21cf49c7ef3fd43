-- An image gives its trits and shadows back; every edge's numbers are nodes; the edges are m. Assumes nothing.
use Prim.Native.Nat.{ℕ, zero, suc, ◌+◌, ◌-◌, ◌≤◌, ◌<◌, zero-le, suc-le-suc}
use native.Mathlib.Nat.{zero-add, le_of_suc-le-suc, not-suc-le-zero}
use native.Mathlib.Omega.{arith}
use native.Mathlib.Decide.{dec_le}
use mathlib.Core.Path.{◌≡◌, refl, sym, ap, ◌∙◌, subst}
use mathlib.Core.Bool.{Bool, true, false, cond}
use mathlib.Core.List.{List, [], ◌∷◌, map, map-map}
use lib.Dec.{eqb, ltb}
use lib.ListN.{length, get_or, length-map, get_or-eq_default}
use borrow.Author.Tests.{eqb-true, ltb-true}
use Rattle.format.specs.Lists.{run, keep, cons_if, count_in}
use Rattle.format.specs.Trits.{rank, places}
use Rattle.format.specs.Image.{node_count, edge_count, image, group, shadow_at}
use Rattle.format.specs.Proper.{trits_of, shadows_of, ProperTrits}
use Rattle.format.specs.Edges.{operand_at, edge_at, edge_list, operand_edges, is_edge, user_of}
use Rattle.format.specs.Table.{AllNodes}
use Rattle.format.proofs.Laws.{both_true, rank_mono, length_run, get_or_run, length_keep, rank_here, get_or_other, length_keep_key}
use Rattle.format.proofs.Select.{place_of_lem, length_places}
use Rattle.format.proofs.Sizes.{total_counts, total_cong}
use Rattle.format.proofs.CheckLaws.{shadow_nodes, trits_of_image, shadows_of_image}
use Rattle.format.proofs.ProperLaws.{zeros_ones, last_zero_lem}
use Rattle.format.proofs.ImageReads.{Each, each_kept}
use Rattle.format.proofs.Sums.{operands_sum}
use Rattle.format.proofs.Laws.{rank_count}

-- ---- an image gives its trits and shadows back

-- two proper tables' images are the same only where trits and shadows are
pub image_injective : (t H t' H' : List ℕ) → ProperTrits t H → ProperTrits t' H' → image t H ≡ image t' H' → (t ≡ t') × (H ≡ H')
image_injective t H t' H' p p' e =
    (sym (trits_of_image t H p) ∙ ap trits_of e ∙ trits_of_image t' H' p', sym (shadows_of_image t H p) ∙ ap shadows_of e ∙ shadows_of_image t' H' p')

-- ---- the elements that a test keeps

each_keep : (P : ℕ → Type 0) (f : ℕ → Bool) (xs : List ℕ) → ((i : ℕ) → i < length xs → f (get_or xs i 0) ≡ true → P (get_or xs i 0)) → Each P (keep f xs)
each_keep P f [] h i l = absurd (not-suc-le-zero l)
each_keep P f (x ∷ xs) h i l = go (f x) refl (each_keep P f xs (λ j k. h (suc j) (suc-le-suc k))) i l
  where
    go : (b : Bool) → f x ≡ b → Each P (keep f xs) → (i : ℕ) → i < length (cons_if b x (keep f xs)) → P (get_or (cons_if b x (keep f xs)) i 0)
    go true e ih zero l = h zero (suc-le-suc zero-le) e
    go true e ih (suc i) l = ih i (le_of_suc-le-suc l)
    go false e ih i l = ih i l

-- an edge's place
pub record Edged (trits : List ℕ) (p : ℕ) : Type 0 where
  pub inside : p < length trits
  pub written : 0 < get_or trits p 0
  pub used : 0 < rank 0 trits p

pub edge_places : (trits : List ℕ) → Each (Edged trits) (keep (is_edge trits) (run 0 (length trits)))
edge_places trits =
    each_keep (Edged trits) (is_edge trits) (run 0 (length trits))
    (λ i l e.
    let li : i < length trits = subst (λ (k : ℕ). i < k) (length_run 0 (length trits)) l in
    let ei : get_or (run 0 (length trits)) i 0 ≡ i = get_or_run 0 (length trits) i 0 li ∙ zero-add i in
    let e' : is_edge trits i ≡ true = ap (is_edge trits) (sym ei) ∙ e in
    let b = both_true (ltb 0 (get_or trits i 0)) (ltb 0 (rank 0 trits i)) e' in
    subst (Edged trits) (sym ei) (record { inside = li; written = ltb-true 0 (get_or trits i 0) b.0; used = ltb-true 0 (rank 0 trits i) b.1 }))

-- ---- an edge's user and operand are nodes

pub user_node : (trits H : List ℕ) → ProperTrits trits H → (p : ℕ) → p < length trits → rank 0 trits p ≤ node_count trits
user_node trits H pr p l =
    let q : ℕ = length trits - 1 in
    let one : 1 ≤ length trits = pr.length_low in
    let lq : q < length trits = omega arith in
    let z : get_or trits q 0 ≡ 0 = get_or_other trits q 0 3 lq ∙ last_zero_lem trits pr.is_balanced in
    omega (arith, rank_mono 0 trits p q (omega arith), rank_here 0 trits q lq z, rank_count 0 trits (suc q), zeros_ones trits pr.is_balanced)

pub operand_node : (trits H : List ℕ) → ProperTrits trits H → (p : ℕ) → p < length trits → operand_at trits H p ≤ node_count trits
unfolding operand_at node_count shadow_at
operand_node trits H pr p l = go (eqb (get_or trits p 0) 1) refl
  where
    shadow : (j : ℕ) → Dec (suc j ≤ length H) → get_or H j 0 ≤ count_in 1 trits
    shadow j (yes h) = (shadow_nodes trits H pr.paired pr.seen j h).1
    shadow j (no h) = subst (λ (x : ℕ). x ≤ count_in 1 trits) (sym (get_or-eq_default H 0 (omega arith))) zero-le

    go : (b : Bool) → eqb (get_or trits p 0) 1 ≡ b → cond (eqb (get_or trits p 0) 1) (rank 1 trits p + 1) (get_or H (rank 2 trits p) 0) ≤ count_in 1 trits
    go true e =
        subst (λ (b : Bool). cond b (rank 1 trits p + 1) (get_or H (rank 2 trits p) 0) ≤ count_in 1 trits) (sym e)
        (omega (arith, rank_here 1 trits p l (eqb-true (get_or trits p 0) 1 e), rank_count 1 trits (suc p)))
    go false e = subst (λ (b : Bool). cond b (rank 1 trits p + 1) (get_or H (rank 2 trits p) 0) ≤ count_in 1 trits) (sym e) (shadow (rank 2 trits p) (dec_le (suc (rank 2 trits p)) (length H)))

-- ---- the edges are m

nodes_map : (n : ℕ) (f : ℕ → ℕ) (xs : List ℕ) → Each (λ x. (1 ≤ f x) × (f x ≤ n)) xs → AllNodes n (map f xs)
nodes_map n f [] h j l = absurd (not-suc-le-zero l)
nodes_map n f (x ∷ xs) h zero l = h zero (suc-le-suc zero-le)
nodes_map n f (x ∷ xs) h (suc j) l = nodes_map n f xs (λ i k. h (suc i) (suc-le-suc k)) j (le_of_suc-le-suc l)

pub length_edges : (trits H : List ℕ) → ProperTrits trits H → length (edge_list trits H) ≡ edge_count trits
unfolding edge_list operand_edges edge_at rank
length_edges trits H pr =
    let n : ℕ = node_count trits in
    let ps : List ℕ = keep (is_edge trits) (run 0 (length trits)) in
    let us : List ℕ = map user_of (edge_list trits H) in
    let eus : us ≡ map (rank 0 trits) ps = map-map user_of (edge_at trits H) ps in
    let ok : AllNodes n us = subst (AllNodes n) (sym eus)
    (nodes_map n (rank 0 trits) ps (λ i l. let d : Edged trits (get_or ps i 0) = edge_places trits i l in (d.used, user_node trits H pr (get_or ps i 0) d.inside))) in
    sym (length-map (edge_list trits H) user_of)
    ∙ sym (total_counts n us ok)
    ∙ sym (total_cong (λ i. length (operand_edges trits H i)) (λ i. count_in i us) n (λ i a b. length_keep_key user_of i (edge_list trits H)))
    ∙ operands_sum trits H pr

-- ---- a group's places hold 2

pub group_twos : (trits H : List ℕ) (i : ℕ) → Each (λ p. get_or trits p 0 ≡ 2) (group trits H i)
unfolding group
group_twos trits H i =
    each_kept (λ p. get_or trits p 0 ≡ 2) (λ p. eqb (shadow_at trits H p) i) (places 2 trits) (λ j l. (place_of_lem 2 trits j (subst (λ (k : ℕ). j < k) (length_places 2 trits) l)).holds)

pub operands_le : (trits H : List ℕ) → ProperTrits trits H → (i : ℕ) → length (operand_edges trits H i) ≤ edge_count trits
unfolding operand_edges
operands_le trits H pr i = omega (arith, length_keep (λ e. eqb e.user i) (edge_list trits H), length_edges trits H pr)
