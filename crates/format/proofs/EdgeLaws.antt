-- Where the edges of a node stand: its operands between two zeros, its uses at one 1 and at the places of its group. Assumes nothing.
use Prim.Native.Nat.{ℕ, zero, suc, ◌+◌, ◌-◌, ◌≤◌, ◌<◌, zero-le, suc-le-suc}
use native.Mathlib.Nat.{zero-add, le_refl}
use native.Mathlib.Omega.{arith}
use native.Mathlib.Numerals.{add-one}
use native.Mathlib.Decide.{dec_le}
use mathlib.Core.Path.{◌≡◌, refl, sym, ap, ap₂, ◌∙◌}
use mathlib.Core.Bool.{Bool, true, false, ◌&&◌, and-true, cond}
use mathlib.Core.List.{List, [], ◌∷◌, ◌++◌, map, append-nil}
use lib.Dec.{eqb, ltb}
use lib.ListN.{length, get_or}
use borrow.Author.Tests.{eqb-true, eq-eqb, ne_eqb, lt-ltb, le-ltb}
use Rattle.format.specs.Lists.{run, cons_if, keep, Below, count_in, RisingFrom}
use Rattle.format.specs.Trits.{rank, Selected, places}
use Rattle.format.specs.Image.{shadow_at, group}
use Rattle.format.specs.Edges.{operand_at, edge_at, operand_edges, use_edges, is_edge, Edge}
use Rattle.format.proofs.Laws.{run_add, keep_append, keep_keep, get_or_other, rank_here, rank_mono, true_both, last_false}
use Rattle.format.proofs.Rising.{rising_keep, rising_run}

-- ---- what a test keeps

module _ {ℓ κ} {A : Type ℓ} {B : Type κ} where
  pub keep_map : (f : B → Bool) (g : A → B) (xs : List A) → keep f (map g xs) ≡ map g (keep (λ x. f (g x)) xs)
  keep_map f g [] = refl
  keep_map f g (x ∷ xs) = go (f (g x)) (keep_map f g xs)
    where
      go : (b : Bool) → keep f (map g xs) ≡ map g (keep (λ x. f (g x)) xs) → cons_if b (g x) (keep f (map g xs)) ≡ map g (cons_if b x (keep (λ x. f (g x)) xs))
      go true e = ap {B = List B} (λ r. g x ∷ r) e
      go false e = e

keep_run_cong : (f g : ℕ → Bool) (a n : ℕ) → ((p : ℕ) → a ≤ p → p < a + n → f p ≡ g p) → keep f (run a n) ≡ keep g (run a n)
keep_run_cong f g a zero h = refl
keep_run_cong f g a (suc n) h =
    ap₂ (λ (b : Bool) (r : List ℕ). cons_if b a r) (h a (le_refl a) (omega arith)) (keep_run_cong f g (suc a) n (λ p l u. h p (omega arith) (omega arith)))

keep_run_none : (f : ℕ → Bool) (a n : ℕ) → ((p : ℕ) → a ≤ p → p < a + n → f p ≡ false) → keep f (run a n) ≡ []
keep_run_none f a zero h = refl
keep_run_none f a (suc n) h =
    ap₂ (λ (b : Bool) (r : List ℕ). cons_if b a r) (h a (le_refl a) (omega arith)) (keep_run_none f (suc a) n (λ p l u. h p (omega arith) (omega arith)))

keep_run_all : (f : ℕ → Bool) (a n : ℕ) → ((p : ℕ) → a ≤ p → p < a + n → f p ≡ true) → keep f (run a n) ≡ run a n
keep_run_all f a zero h = refl
keep_run_all f a (suc n) h =
    ap₂ (λ (b : Bool) (r : List ℕ). cons_if b a r) (h a (le_refl a) (omega arith)) (keep_run_all f (suc a) n (λ p l u. h p (omega arith) (omega arith)))

-- a run, cut at a place in it
pub keep_run_cut : (f : ℕ → Bool) (a n m : ℕ) → keep f (run a (n + m)) ≡ keep f (run a n) ++ keep f (run (a + n) m)
keep_run_cut f a n m = ap (keep f) (run_add a n m) ∙ keep_append f (run a n) (run (a + n) m)

-- a test that holds from a up to e and nowhere else below L
keep_run_part : (f : ℕ → Bool) (L a e : ℕ) → a ≤ e → e ≤ L
    → ((p : ℕ) → p < a → f p ≡ false) → ((p : ℕ) → a ≤ p → p < e → f p ≡ true) → ((p : ℕ) → e ≤ p → p < L → f p ≡ false)
    → keep f (run 0 L) ≡ run a (e - a)
keep_run_part f L a e ae eL before inside after =
    let e1 : L ≡ a + (L - a) = omega arith in
    let e2 : L - a ≡ (e - a) + (L - e) = omega arith in
    let e3 : 0 + a ≡ a = zero-add a in
    ap (λ (k : ℕ). keep f (run 0 k)) e1
    ∙ keep_run_cut f 0 a (L - a)
    ∙ ap₂ (λ (x y : List ℕ). x ++ y) (keep_run_none f 0 a (λ p l u. before p (omega arith))) (ap (λ (k : ℕ). keep f (run k (L - a))) e3)
    ∙ ap (λ (k : ℕ). keep f (run a k)) e2
    ∙ keep_run_cut f a (e - a) (L - e)
    ∙ ap₂ (λ (x y : List ℕ). x ++ y) (keep_run_all f a (e - a) (λ p l u. inside p l (omega arith))) (keep_run_none f (a + (e - a)) (L - e) (λ p l u. after p (omega arith) (omega arith)))
    ∙ append-nil (run a (e - a))

-- ---- an edge's place

pub operand_edges_places : (trits H : List ℕ) (i : ℕ)
    → operand_edges trits H i ≡ map (edge_at trits H) (keep (λ p. is_edge trits p && eqb (rank 0 trits p) i) (run 0 (length trits)))
unfolding operand_edges edge_at Rattle.format.specs.Edges.edge_list
operand_edges_places trits H i =
    keep_map (λ e. eqb e.user i) (edge_at trits H) (keep (is_edge trits) (run 0 (length trits)))
    ∙ ap (map (edge_at trits H)) (keep_keep (λ p. eqb (rank 0 trits p) i) (is_edge trits) (run 0 (length trits)))

use_edges_places : (trits H : List ℕ) (i : ℕ)
    → use_edges trits H i ≡ map (edge_at trits H) (keep (λ p. is_edge trits p && eqb (operand_at trits H p) i) (run 0 (length trits)))
unfolding use_edges edge_at Rattle.format.specs.Edges.edge_list
use_edges_places trits H i =
    keep_map (λ e. eqb e.operand i) (edge_at trits H) (keep (is_edge trits) (run 0 (length trits)))
    ∙ ap (map (edge_at trits H)) (keep_keep (λ p. eqb (operand_at trits H p) i) (is_edge trits) (run 0 (length trits)))

false_and : (a b : Bool) → a ≡ false → (a && b) ≡ false
false_and a b e = ap (λ (x : Bool). x && b) e

-- ---- operands: between the i-th zero and the next one

-- a place with fewer before it lies before
pub lt_of_rank : (t : ℕ) (xs : List ℕ) (p q : ℕ) → rank t xs p < rank t xs q → p < q
lt_of_rank t xs p q h = go (dec_le q p)
  where
    go : Dec (q ≤ p) → p < q
    go (yes l) = absurd (omega (arith, rank_mono t xs q p l))
    go (no l) = omega arith

pos_of_ne : (x : ℕ) → (x ≡ 0 → ⊥) → 0 < x
pos_of_ne zero h = absurd (h refl)
pos_of_ne (suc x) h = suc-le-suc zero-le

pub operand_edges_run : (trits H : List ℕ) (i z z' : ℕ) → 1 ≤ i → Selected 0 trits i z → Selected 0 trits (suc i) z'
    → operand_edges trits H i ≡ map (edge_at trits H) (run (suc z) (z' - suc z))
operand_edges_run trits H i z z' pi s s' =
    let r1 : rank 0 trits (suc z) ≡ i = rank_here 0 trits z s.inside s.holds ∙ s.ranked in
    let r2 : suc (rank 0 trits z') ≡ suc i = s'.ranked in
    let r3 : rank 0 trits (suc z') ≡ suc i = rank_here 0 trits z' s'.inside s'.holds ∙ r2 in
    let inz : z < length trits = s.inside in
    let inz' : z' < length trits = s'.inside in
    let f : ℕ → Bool = λ p. is_edge trits p && eqb (rank 0 trits p) i in
    let zz : suc z ≤ z' = lt_of_rank 0 trits z z' (omega (arith, s.ranked)) in
    operand_edges_places trits H i
    ∙ ap (map (edge_at trits H)) (keep_run_part f (length trits) (suc z) z' zz (omega arith)
    (λ p l. last_false (is_edge trits p) (eqb (rank 0 trits p) i) (ne_eqb (rank 0 trits p) i (λ e. omega (arith, rank_mono 0 trits p z (omega arith), s.ranked))))
    (λ p l u.
    let lo : rank 0 trits (suc z) ≤ rank 0 trits p = rank_mono 0 trits (suc z) p l in
    let hi : rank 0 trits (suc p) ≤ rank 0 trits z' = rank_mono 0 trits (suc p) z' u in
    let mid : rank 0 trits p ≤ rank 0 trits (suc p) = rank_mono 0 trits p (suc p) (omega arith) in
    let at : rank 0 trits p ≡ i = omega arith in
    let nz : get_or trits p 0 ≡ 0 → ⊥ = λ e. omega (arith, rank_here 0 trits p (omega arith) e) in
    true_both (is_edge trits p) (eqb (rank 0 trits p) i)
    (true_both (ltb 0 (get_or trits p 0)) (ltb 0 (rank 0 trits p)) (lt-ltb 0 (get_or trits p 0) (pos_of_ne (get_or trits p 0) nz)) (lt-ltb 0 (rank 0 trits p) (omega arith)))
    (eq-eqb (rank 0 trits p) i at))
    (λ p l u. past p l u (dec_le (suc z') p)))
  where
    past : (p : ℕ) → z' ≤ p → p < length trits → Dec (suc z' ≤ p) → (is_edge trits p && eqb (rank 0 trits p) i) ≡ false
    past p l u (yes h) =
        last_false (is_edge trits p) (eqb (rank 0 trits p) i)
        (ne_eqb (rank 0 trits p) i (λ e. omega (arith, rank_mono 0 trits (suc z') p h, rank_here 0 trits z' s'.inside s'.holds, s'.ranked)))
    past p l u (no h) =
        let e : p ≡ z' = omega arith in
        let z0 : get_or trits p 0 ≡ 0 = ap (λ (k : ℕ). get_or trits k 0) e ∙ s'.holds in
        false_and (is_edge trits p) (eqb (rank 0 trits p) i) (false_and (ltb 0 (get_or trits p 0)) (ltb 0 (rank 0 trits p)) (le-ltb 0 (get_or trits p 0) (omega arith)))

-- ---- uses: the real one at the i-th 1, then the places of i's group

-- the twos whose entry in H is i
two_of : List ℕ → List ℕ → ℕ → ℕ → Bool
two_of trits H i p = eqb (get_or trits p 0) 2 && eqb (get_or H (rank 2 trits p) 0) i

keep_twos : (trits H : List ℕ) (i : ℕ) → keep (two_of trits H i) (run 0 (length trits)) ≡ group trits H i
unfolding two_of group shadow_at places
keep_twos trits H i =
    keep_run_cong (two_of trits H i) (λ p. eqb (get_or trits p 3) 2 && eqb (shadow_at trits H p) i) 0 (length trits)
    (λ p l u. ap (λ (x : ℕ). eqb x 2 && eqb (shadow_at trits H p) i) (get_or_other trits p 0 3 (omega arith)))
    ∙ sym (keep_keep (λ p. eqb (shadow_at trits H p) i) (λ p. eqb (get_or trits p 3) 2) (run 0 (length trits)))

-- every 2 stands after a zero, and its entry in H is a node that stands before it
abbrev pub Seen : List ℕ → List ℕ → Type 0
Seen trits H = (p : ℕ) → p < length trits → get_or trits p 0 ≡ 2 → (0 < rank 0 trits p) × (get_or H (rank 2 trits p) 0 ≤ rank 1 trits p)

module _ (trits H : List ℕ) (i r : ℕ) (three : Below 3 trits) (seen : Seen trits H) (sel : Selected 1 trits i r) where
  -- an edge to i stands at p
  use_at : ℕ → Bool
  use_at p = is_edge trits p && eqb (operand_at trits H p) i

  use_real : use_at r ≡ ltb 0 (rank 0 trits r)
  unfolding use_at operand_at shadow_at
  use_real =
      let e : rank 1 trits r + 1 ≡ i = add-one (rank 1 trits r) ∙ sel.ranked in
      ap (λ (x : ℕ). ltb 0 x && ltb 0 (rank 0 trits r) && eqb (cond (eqb x 1) (rank 1 trits r + 1) (get_or H (rank 2 trits r) 0)) i) sel.holds
      ∙ ap (λ (b : Bool). ltb 0 (rank 0 trits r) && b) (eq-eqb (rank 1 trits r + 1) i e)
      ∙ and-true (ltb 0 (rank 0 trits r))

  not_real : (p : ℕ) → p < length trits → (p ≡ r → ⊥) → get_or trits p 0 ≡ 1 → eqb (rank 1 trits p + 1) i ≡ false
  not_real p l d e = ne_eqb (rank 1 trits p + 1) i (λ q. go q (dec_le (suc p) r))
    where
      go : rank 1 trits p + 1 ≡ i → Dec (suc p ≤ r) → ⊥
      go q (yes h) = omega (arith, rank_mono 1 trits (suc p) r h, rank_here 1 trits p l e, sel.ranked)
      go q (no h) = let h' : suc r ≤ p = omega arith in omega (arith, rank_mono 1 trits (suc r) p h', rank_here 1 trits r sel.inside sel.holds, sel.ranked)

  use_other : (p : ℕ) → p < length trits → (p ≡ r → ⊥) → use_at p ≡ two_of trits H i p
  unfolding use_at operand_at two_of shadow_at
  use_other p l d = go (get_or trits p 0) refl (three p l)
    where
      F : ℕ → Bool
      F x = ltb 0 x && ltb 0 (rank 0 trits p) && eqb (cond (eqb x 1) (rank 1 trits p + 1) (get_or H (rank 2 trits p) 0)) i

      G : ℕ → Bool
      G x = eqb x 2 && eqb (get_or H (rank 2 trits p) 0) i

      go : (x : ℕ) → get_or trits p 0 ≡ x → x < 3 → F (get_or trits p 0) ≡ G (get_or trits p 0)
      go zero e h = ap F e ∙ sym (ap G e)
      go (suc zero) e h = ap F e ∙ last_false (ltb 0 (rank 0 trits p)) (eqb (rank 1 trits p + 1) i) (not_real p l d e) ∙ sym (ap G e)
      go (suc (suc zero)) e h =
          ap F e ∙ ap (λ (b : Bool). b && eqb (get_or H (rank 2 trits p) 0) i) (lt-ltb 0 (rank 0 trits p) (seen p l e).0) ∙ sym (ap G e)
      go (suc (suc (suc x))) e h = absurd (omega arith)

  two_later : (p : ℕ) → p < r → two_of trits H i p ≡ false
  unfolding two_of
  two_later p l = go (eqb (get_or trits p 0) 2) refl
    where
      go : (b : Bool) → eqb (get_or trits p 0) 2 ≡ b → (eqb (get_or trits p 0) 2 && eqb (get_or H (rank 2 trits p) 0) i) ≡ false
      go false e = false_and (eqb (get_or trits p 0) 2) (eqb (get_or H (rank 2 trits p) 0) i) e
      go true e =
          last_false (eqb (get_or trits p 0) 2) (eqb (get_or H (rank 2 trits p) 0) i)
          (ne_eqb (get_or H (rank 2 trits p) 0) i
          (λ q. let inr : r < length trits = sel.inside in omega (arith, (seen p (omega arith) (eqb-true (get_or trits p 0) 2 e)).1, rank_mono 1 trits p r (omega arith), sel.ranked)))

  two_here : two_of trits H i r ≡ false
  unfolding two_of
  two_here = ap (λ (x : ℕ). eqb x 2 && eqb (get_or H (rank 2 trits r) 0) i) sel.holds

  -- the real use, where its user is not the super-root, and then the shadows by place
  pub use_edges_run : length H ≡ count_in 2 trits → use_edges trits H i ≡ map (edge_at trits H) (cons_if (ltb 0 (rank 0 trits r)) r [] ++ group trits H i)
  unfolding use_at
  use_edges_run e =
      let L : ℕ = length trits in
      let inr : r < L = sel.inside in
      let cut : L ≡ r + (1 + (L - suc r)) = omega arith in
      let rest : List ℕ = keep (two_of trits H i) (run (suc r) (L - suc r)) in
      let split : (f : ℕ → Bool) → keep f (run 0 L) ≡ keep f (run 0 r) ++ (cons_if (f r) r [] ++ keep f (run (suc r) (L - suc r))) = λ f.
      ap (λ (k : ℕ). keep f (run 0 k)) cut ∙ keep_run_cut f 0 r (1 + (L - suc r))
      ∙ ap (λ (l : List ℕ). keep f (run 0 r) ++ l) (ap (λ (k : ℕ). keep f (run k (1 + (L - suc r)))) (zero-add r) ∙ keep_run_cut f r 1 (L - suc r)
      ∙ ap (λ (k : ℕ). cons_if (f r) r [] ++ keep f (run k (L - suc r))) (add-one r)) in
      let twos : keep (two_of trits H i) (run 0 L) ≡ rest =
      split (two_of trits H i)
      ∙ ap (λ (l : List ℕ). l ++ (cons_if (two_of trits H i r) r [] ++ rest)) (keep_run_none (two_of trits H i) 0 r (λ p l u. two_later p (omega arith)))
      ∙ ap (λ (b : Bool). cons_if b r [] ++ rest) two_here in
      let uses : keep use_at (run 0 L) ≡ cons_if (ltb 0 (rank 0 trits r)) r [] ++ rest =
      split use_at
      ∙ ap (λ (l : List ℕ). l ++ (cons_if (use_at r) r [] ++ keep use_at (run (suc r) (L - suc r))))
      (keep_run_none use_at 0 r (λ p l u. use_other p (omega arith) (λ q. omega arith) ∙ two_later p (omega arith)))
      ∙ ap₂ (λ (b : Bool) (l : List ℕ). cons_if b r [] ++ l) use_real
      (keep_run_cong use_at (two_of trits H i) (suc r) (L - suc r) (λ p l u. use_other p (omega arith) (λ q. omega arith))) in
      use_edges_places trits H i
      ∙ ap (map (edge_at trits H)) (uses ∙ ap (λ (l : List ℕ). cons_if (ltb 0 (rank 0 trits r)) r [] ++ l) (sym twos ∙ keep_twos trits H i))

-- "Uses are edges in order of their place in the trits"
pub uses_rise : (trits H : List ℕ) (v : ℕ) → RisingFrom 0 (map (λ (e : Edge). e.place) (use_edges trits H v))
unfolding edge_at
uses_rise trits H v =
    rw (use_edges_places, back)
    (rising_keep (λ p. is_edge trits p && eqb (operand_at trits H p) v) 0 (run 0 (length trits)) (rising_run 0 (length trits)))
  where
    back : (ps : List ℕ) → map (λ (e : Edge). e.place) (map (edge_at trits H) ps) ≡ ps
    back [] = refl
    back (p ∷ ps) = ap {B = List ℕ} (λ r. p ∷ r) (back ps)
