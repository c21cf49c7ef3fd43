-- What the rules of a proper image say of its trits and shadows. Assumes nothing.
use Prim.Native.Nat.{ℕ, zero, suc, ◌+◌, ◌-◌, ◌≤◌, ◌<◌, zero-le, suc-le-suc}
use native.Mathlib.Nat.{le_of_suc-le-suc, not-suc-le-zero, le_refl}
use native.Mathlib.Omega.{arith}
use native.Mathlib.Numerals.{one-add}
use mathlib.Core.Path.{◌≡◌, refl, sym, ap, ap₂, ◌∙◌, subst}
use mathlib.Core.Bool.{Bool, true}
use mathlib.Core.Option.{Option}
use mathlib.Core.List.{List, [], ◌∷◌, ◌++◌, map}
use lib.Dec.{eqb, leb, ltb}
use lib.ListN.{length, get_or, length-map, length-append}
use borrow.Author.Tests.{eqb-true, eq-eqb, ne_eqb, le-leb, leb-true, lt-ltb, le-ltb}
use Rattle.format.specs.Lists.{bit, run, cons_if, count_in}
use Rattle.format.specs.Trits.{rank, places, select, Selected, nth}
use Rattle.format.specs.Image.{until_zero, node_count, root_count, group, shadow_at}
use Rattle.format.specs.Proper.{roots_first, balanced, grown, ones_before, ProperTrits}
use Rattle.format.specs.Edges.{edge_at, operand_edges, use_edges}
use Rattle.format.proofs.Laws.{both_true, count_three, every_run, run_every, length_run, length_cons_if}
use Rattle.format.proofs.Select.{select_at, select_found, place_of_lem}
use Rattle.format.proofs.Sizes.{length_group}
use Rattle.format.proofs.CheckLaws.{shadow_seen}
use Rattle.format.proofs.EdgeLaws.{Seen, operand_edges_run, use_edges_run}

-- ---- counts

pub zeros_ones : (trits : List ℕ) → balanced trits ≡ true → count_in 0 trits ≡ node_count trits + 1
unfolding balanced node_count
zeros_ones trits e = sym (eqb-true (count_in 1 trits + 1) (count_in 0 trits) (both_true (eqb (count_in 1 trits + 1) (count_in 0 trits)) (eqb (get_or trits (length trits - 1) 3) 0) e).0)

pub last_zero_lem : (trits : List ℕ) → balanced trits ≡ true → get_or trits (length trits - 1) 3 ≡ 0
unfolding balanced
last_zero_lem trits e = eqb-true (get_or trits (length trits - 1) 3) 0 (both_true (eqb (count_in 1 trits + 1) (count_in 0 trits)) (eqb (get_or trits (length trits - 1) 3) 0) e).1

-- L = n + 1 + n + k
pub length_trits : (trits H : List ℕ) → ProperTrits trits H → length trits ≡ node_count trits + 1 + node_count trits + length H
unfolding node_count
length_trits trits H p = omega (arith, count_three trits p.threes, zeros_ones trits p.is_balanced, p.paired)

-- ---- the first zero

front : (t : ℕ) (xs : List ℕ) (p : ℕ) → 0 < t → p < length xs → rank 0 xs p ≡ 0 → get_or xs p 0 ≡ t → suc (rank t xs p) ≤ count_in t (until_zero xs)
unfolding rank
front t [] p pt l r e = absurd (not-suc-le-zero l)
front t (zero ∷ xs) zero pt l r e = absurd (omega arith)
front t (zero ∷ xs) (suc p) pt l r e = absurd (omega arith)
front t (suc x ∷ xs) zero pt l r e = omega (arith, ap bit (eq-eqb (suc x) t e))
front t (suc x ∷ xs) (suc p) pt l r e =
    omega (arith, front t xs p pt (le_of_suc-le-suc l) (omega (arith, ap bit (ne_eqb (suc x) 0 (λ q. omega arith)))) e)

back : (t : ℕ) (xs : List ℕ) (p : ℕ) → 0 < t → p ≤ length xs → 0 < rank 0 xs p → count_in t (until_zero xs) ≤ rank t xs p
unfolding rank
back t [] zero pt l r = absurd (not-suc-le-zero r)
back t [] (suc p) pt l r = absurd (not-suc-le-zero l)
back t (zero ∷ xs) zero pt l r = absurd (not-suc-le-zero r)
back t (zero ∷ xs) (suc p) pt l r = zero-le
back t (suc x ∷ xs) zero pt l r = absurd (not-suc-le-zero r)
back t (suc x ∷ xs) (suc p) pt l r =
    omega (arith, back t xs p pt (le_of_suc-le-suc l) (omega (arith, ap bit (ne_eqb (suc x) 0 (λ q. omega arith)))))

-- a node is a root exactly if its 1 has no zero before it
root_front : (trits : List ℕ) (i r : ℕ) → Selected 1 trits i r → rank 0 trits r ≡ 0 → i ≤ root_count trits
unfolding root_count
root_front trits i r s e = omega (arith, front 1 trits r (le_refl 1) s.inside e s.holds, s.ranked)

root_back : (trits : List ℕ) (i r : ℕ) → Selected 1 trits i r → 0 < rank 0 trits r → root_count trits < i
unfolding root_count
root_back trits i r s h = let inr : r < length trits = s.inside in omega (arith, back 1 trits r (le_refl 1) (omega arith) h, s.ranked)

root_test : (trits : List ℕ) (i r : ℕ) → Selected 1 trits i r → ltb 0 (rank 0 trits r) ≡ ltb (root_count trits) i
root_test trits i r s = go (rank 0 trits r) refl
  where
    go : (x : ℕ) → rank 0 trits r ≡ x → ltb 0 (rank 0 trits r) ≡ ltb (root_count trits) i
    go zero e = ap (ltb 0) e ∙ sym (le-ltb (root_count trits) i (root_front trits i r s e))
    go (suc x) e =
        let h : 0 < rank 0 trits r = omega arith in
        lt-ltb 0 (rank 0 trits r) h ∙ sym (lt-ltb (root_count trits) i (root_back trits i r s h))

-- ---- every 2 stands after a zero, and its entry in H stands before it

pub proper_seen : (trits H : List ℕ) → ProperTrits trits H → Seen trits H
unfolding roots_first shadow_at
proper_seen trits H p q l e = (go (rank 0 trits q) refl, (shadow_seen trits H p.seen q l e).1)
  where
    go : (x : ℕ) → rank 0 trits q ≡ x → 0 < rank 0 trits q
    go zero ex = absurd (omega (arith, front 2 trits q (suc-le-suc zero-le) l ex e, eqb-true (count_in 2 (until_zero trits)) 0 p.roots_are_first))
    go (suc x) ex = omega arith

-- ---- a node's 1, its zero and the next

pub nth_selected : (t : ℕ) (trits : List ℕ) (j : ℕ) → 1 ≤ j → j ≤ count_in t trits → Selected t trits j (nth t trits j)
unfolding nth
nth_selected t trits j h l =
    let e : suc (j - 1) ≡ j = omega arith in
    subst (λ (x : ℕ). Selected t trits x (get_or (places t trits) (j - 1) 0)) e (place_of_lem t trits (j - 1) (omega arith))

-- operands and uses of node i, for a proper image
pub operands_places : (trits H : List ℕ) → ProperTrits trits H → (i : ℕ) → 1 ≤ i → i ≤ node_count trits
    → operand_edges trits H i ≡ map (edge_at trits H) (run (suc (nth 0 trits i)) (nth 0 trits (suc i) - suc (nth 0 trits i)))
operands_places trits H p i h l =
    operand_edges_run trits H i (nth 0 trits i) (nth 0 trits (suc i)) h
    (nth_selected 0 trits i h (omega (arith, zeros_ones trits p.is_balanced)))
    (nth_selected 0 trits (suc i) (suc-le-suc zero-le) (omega (arith, zeros_ones trits p.is_balanced)))

pub uses_places : (trits H : List ℕ) → ProperTrits trits H → (i : ℕ) → 1 ≤ i → i ≤ node_count trits
    → use_edges trits H i ≡ map (edge_at trits H) (cons_if (ltb (root_count trits) i) (nth 1 trits i) [] ++ group trits H i)
unfolding node_count
uses_places trits H p i h l =
    let s : Selected 1 trits i (nth 1 trits i) = nth_selected 1 trits i h l in
    use_edges_run trits H i (nth 1 trits i) p.threes (proper_seen trits H p) s p.paired
    ∙ ap (λ (b : Bool). map (edge_at trits H) (cons_if b (nth 1 trits i) [] ++ group trits H i)) (root_test trits i (nth 1 trits i) s)

-- counts of operands and of uses
pub operand_count_lem : (trits H : List ℕ) → ProperTrits trits H → (i : ℕ) → 1 ≤ i → i ≤ node_count trits
    → length (operand_edges trits H i) ≡ nth 0 trits (suc i) - nth 0 trits i - 1
operand_count_lem trits H p i h l =
    ap length (operands_places trits H p i h l)
    ∙ length-map (run (suc (nth 0 trits i)) (nth 0 trits (suc i) - suc (nth 0 trits i))) (edge_at trits H)
    ∙ length_run (suc (nth 0 trits i)) (nth 0 trits (suc i) - suc (nth 0 trits i))
    ∙ omega arith

pub use_count_lem : (trits H : List ℕ) → ProperTrits trits H → (i : ℕ) → 1 ≤ i → i ≤ node_count trits
    → length (use_edges trits H i) ≡ bit (ltb (root_count trits) i) + count_in i H
use_count_lem trits H p i h l =
    let real : List ℕ = cons_if (ltb (root_count trits) i) (nth 1 trits i) [] in
    ap length (uses_places trits H p i h l)
    ∙ length-map (real ++ group trits H i) (edge_at trits H)
    ∙ length-append real (group trits H i)
    ∙ ap₂ (λ (x y : ℕ). x + y) (length_cons_if (ltb (root_count trits) i) (nth 1 trits i)) (length_group trits H p.paired i)

-- ---- "for each i up to the number of ones, at least i ones precede the i-th zero", as a walk over the trits sees it

pub grown_walk : (trits : List ℕ) → grown trits ≡ true → (p : ℕ) → p < length trits → get_or trits p 0 ≡ 0 → rank 0 trits p < count_in 1 trits
    → rank 0 trits p < rank 1 trits p
unfolding grown
grown_walk trits e p l z h =
    let i : ℕ = rank 0 trits p in
    let f : ℕ → Bool = λ i. leb i (ones_before trits (select 0 trits i)) in
    let r : f (suc i) ≡ true = ap f (sym (one-add i)) ∙ every_run f 1 (count_in 1 trits) e i h in
    leb-true (suc i) (rank 1 trits p) (ap (λ (o : Option ℕ). leb (suc i) (ones_before trits o)) (sym (select_at 0 trits p l z)) ∙ r)

pub walk_grown : (trits : List ℕ) → count_in 1 trits ≤ count_in 0 trits
    → ((p : ℕ) → p < length trits → get_or trits p 0 ≡ 0 → rank 0 trits p < count_in 1 trits → rank 0 trits p < rank 1 trits p) → grown trits ≡ true
unfolding grown
walk_grown trits c h =
    run_every (λ i. leb i (ones_before trits (select 0 trits i))) 1 (count_in 1 trits)
    (λ j l.
    let p : ℕ = get_or (places 0 trits) j 0 in
    let s : Selected 0 trits (suc j) p = place_of_lem 0 trits j (omega arith) in
    let rj : suc (rank 0 trits p) ≡ suc j = s.ranked in
    let g : rank 0 trits p < rank 1 trits p = h p s.inside s.holds (omega arith) in
    ap (λ (k : ℕ). leb k (ones_before trits (select 0 trits k))) (one-add j)
    ∙ ap (λ (o : Option ℕ). leb (suc j) (ones_before trits o)) (select_found 0 trits j (omega arith))
    ∙ le-leb (suc j) (rank 1 trits p) (omega arith))
