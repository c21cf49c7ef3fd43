-- The operands listed for a node are those of the unpacked table, in order; the edges are the operand lists one after the other; the uses of a
-- node are the places where it stands in them. Assumes nothing.
use Prim.Native.Nat.{ℕ, zero, suc, ◌+◌, ◌-◌, ◌≤◌, ◌<◌, zero-le, suc-le-suc}
use native.Mathlib.Nat.{le_refl, zero-add}
use native.Mathlib.Numerals.{add-one, one-add}
use native.Mathlib.Decide.{ℕ_discrete, dec_le}
use native.Mathlib.Omega.{arith}
use mathlib.Core.Path.{◌≡◌, refl, sym, ap, ap₂, ◌∙◌, subst, fun_ext}
use mathlib.Core.Bool.{Bool, true, false, ◌&&◌, cond}
use mathlib.Core.List.{List, [], ◌∷◌, ◌++◌, map, map-map, map-append}
use lib.Dec.{eqb, ltb}
use lib.ListN.{length-map, length, get_or, drop, replicate, length-append}
use lib.Seq.{ext_get_or, append_snoc, drop-cons}
use borrow.Author.Tests.{eq-eqb, ne_eqb, lt-ltb, le-ltb}
use Rattle.format.specs.Lists.{All, run, one_to, join, keep, cons_if, count_in}
use Rattle.format.specs.Table.{Graph, nodes, operands_of, words}
use Rattle.format.specs.Trits.{rank}
use Rattle.format.specs.Image.{node_count, root_count, image}
use Rattle.format.specs.Edges.{Edge, operand_at, edge_at, edge_list, operand_edges, use_edges, is_edge, operand_of, user_of}
use Rattle.format.specs.Proper.{ProperTrits}
use Rattle.format.specs.Unpack.{unpack}
use Rattle.format.specs.Packing.{Accepted, image_of}
use Rattle.format.proofs.Cutting.{operand_numbers, in_front, cut, as_graph, scanned}
use Rattle.format.proofs.Laws.{length_run, get_or_map_run, count_append, keep_append, rank_mono}
use Rattle.format.proofs.CheckLaws.{shadow_nodes}
use Rattle.format.proofs.EdgeLaws.{keep_map, operand_edges_places}
use Rattle.format.proofs.Facts.{Edged, edge_places, user_node}
use Rattle.format.proofs.Places.{all_imp}
use Rattle.format.proofs.Accepting.{scanned_counts, scanned_accepted, scanned_image, scan_of, at_cut, each_all}
use Rattle.format.proofs.Scans.{proper_roots}

-- ---- operands

-- a number above 0 goes in front of the first list
cut_front : (x : ℕ) (xs : List ℕ) → 1 ≤ x → cut (x ∷ xs) ≡ in_front x (cut xs)
unfolding cut
cut_front zero xs h = absurd (omega arith)
cut_front (suc x) xs h = refl

module _ (i : ℕ) where
  -- what a row, number z of all, and those after it have for node i
  abbrev row_at : ℕ → List (List ℕ) → List ℕ
  row_at z rows = cond (ltb i z) [] (get_or rows (i - z) [])

  row_none : (z : ℕ) → [] ≡ row_at z []
  row_none z = go (ltb i z)
    where
      go : (b : Bool) → [] ≡ cond b [] (get_or {A = List ℕ} [] (i - z) [])
      go true = refl
      go false = refl

  row_end_lem : (z : ℕ) (rows : List (List ℕ)) → row_at (suc z) rows ≡ row_at z ([] ∷ rows)
  row_end_lem z rows = go (dec_le (suc i) z) (ℕ_discrete i z)
    where
      go : Dec (suc i ≤ z) → Dec (i ≡ z) → row_at (suc z) rows ≡ row_at z ([] ∷ rows)
      go (yes l) d = simp (lt-ltb i (suc z) (omega arith), lt-ltb i z l)
      go (no l) (yes e) = let k : i - z ≡ 0 = omega arith in simp (lt-ltb i (suc z) (omega arith), le-ltb i z (omega arith), k)
      go (no l) (no e) = let k : i - z ≡ suc (i - suc z) = omega arith in simp (le-ltb i (suc z) (omega arith), le-ltb i z (omega arith), k)

  -- one more number in front of the row
  row_front : (z x : ℕ) (rows : List (List ℕ)) → cons_if (eqb z i) x (row_at z rows) ≡ row_at z (in_front x rows)
  row_front z x rows = go (dec_le (suc i) z) (ℕ_discrete z i) rows
    where
      go : Dec (suc i ≤ z) → Dec (z ≡ i) → (rs : List (List ℕ)) → cons_if (eqb z i) x (row_at z rs) ≡ row_at z (in_front x rs)
      go (yes l) d rs = simp (ne_eqb z i (λ e. omega arith), lt-ltb i z l)
      go (no l) (yes e) [] = let k : i - z ≡ 0 = omega arith in simp (eq-eqb z i e, le-ltb i z (omega arith), k)
      go (no l) (yes e) (r ∷ rs) = let k : i - z ≡ 0 = omega arith in simp (eq-eqb z i e, le-ltb i z (omega arith), k)
      go (no l) (no e) [] = let k : i - z ≡ suc (i - suc z) = omega arith in simp (ne_eqb z i e, le-ltb i z (omega arith), k)
      go (no l) (no e) (r ∷ rs) = let k : i - z ≡ suc (i - suc z) = omega arith in simp (ne_eqb z i e, le-ltb i z (omega arith), k)

  module _ (ts hs : List ℕ) (pr : ProperTrits ts hs) (pos : 1 ≤ i) where
    -- an edge of node i stands at p
    mine : ℕ → Bool
    mine p = is_edge ts p && eqb (rank 0 ts p) i

    mine_is : (p x z : ℕ) → get_or ts p 0 ≡ x → rank 0 ts p ≡ z → mine p ≡ ((ltb 0 x && ltb 0 z) && eqb z i)
    unfolding mine
    mine_is p x z e f = ap₂ (λ (x z : ℕ). (ltb 0 x && ltb 0 z) && eqb z i) e f

    -- at a 1 or a 2 of row z
    mine_edge : (z : ℕ) → ((true && ltb 0 z) && eqb z i) ≡ eqb z i
    mine_edge z = go (ℕ_discrete z i)
      where
        go : Dec (z ≡ i) → ((true && ltb 0 z) && eqb z i) ≡ eqb z i
        go (yes e) = simp (lt-ltb 0 z (omega arith), eq-eqb z i e)
        go (no e) = simp (ne_eqb z i e) (none (ltb 0 z))
          where
            none : (b : Bool) → (b && false) ≡ false
            none true = refl
            none false = refl

    map_cons_if : (b : Bool) (p : ℕ) (ps : List ℕ) → map (operand_at ts hs) (cons_if b p ps) ≡ cons_if b (operand_at ts hs p) (map (operand_at ts hs) ps)
    map_cons_if true p ps = refl
    map_cons_if false p ps = refl

    -- a trit that stands for the number x, in front of trits whose rows are known
    in_row : (q z x v : ℕ) (ps : List ℕ) (rows : List (List ℕ)) → get_or ts q 0 ≡ suc x → rank 0 ts q ≡ z → operand_at ts hs q ≡ v
        → map (operand_at ts hs) ps ≡ row_at z rows → map (operand_at ts hs) (cons_if (mine q) q ps) ≡ row_at z (in_front v rows)
    in_row q z x v ps rows e f o h =
        map_cons_if (mine q) q ps
        ∙ ap (λ (b : Bool). cons_if b (operand_at ts hs q) (map (operand_at ts hs) ps))
        (mine_is q (suc x) z e f ∙ ap (λ (b : Bool). (b && ltb 0 z) && eqb z i) (lt-ltb 0 (suc x) (suc-le-suc zero-le)) ∙ mine_edge z)
        ∙ ap₂ (λ (w : ℕ) (l : List ℕ). cons_if (eqb z i) w l) o h
        ∙ row_front z v rows

    -- from place q on, with r ones, z zeros and k twos before it
    abbrev From : List ℕ → Type 0
    From b = (a : List ℕ) (q r z k : ℕ) → ts ≡ a ++ b → q ≡ length a → r ≡ count_in 1 a → z ≡ count_in 0 a → k ≡ count_in 2 a
        → map (operand_at ts hs) (keep mine (run q (length b))) ≡ row_at z (cut (operand_numbers r b (drop k hs)))

    one_more : (b : List ℕ) → From b → (x : ℕ) → From (x ∷ b)
    unfolding operand_numbers cut operand_at Rattle.format.specs.Image.shadow_at
    one_more b ih x a q r z k e eq er ez ek = go x e
      where
        next : (x : ℕ) → ts ≡ a ++ x ∷ b → (r' z' k' : ℕ) → r' ≡ r + count_in 1 (x ∷ []) → z' ≡ z + count_in 0 (x ∷ []) → k' ≡ k + count_in 2 (x ∷ [])
            → map (operand_at ts hs) (keep mine (run (suc q) (length b))) ≡ row_at z' (cut (operand_numbers r' b (drop k' hs)))
        next x e r' z' k' er' ez' ek' =
            ih (a ++ x ∷ []) (suc q) r' z' k' (e ∙ sym (append_snoc a x b)) (omega (arith, length-append a (x ∷ []))) (omega (arith, count_append 1 a (x ∷ [])))
            (omega (arith, count_append 0 a (x ∷ []))) (omega (arith, count_append 2 a (x ∷ [])))

        at : (x : ℕ) → ts ≡ a ++ x ∷ b → (get_or ts q 0 ≡ x) × (rank 0 ts q ≡ z) × (rank 1 ts q ≡ r) × (rank 2 ts q ≡ k)
        at x e =
            let c = at_cut ts a b x e in (
              ap (λ (j : ℕ). get_or ts j 0) eq ∙ c.holds,
              ap (rank 0 ts) eq ∙ c.ranks 0 ∙ sym ez,
              ap (rank 1 ts) eq ∙ c.ranks 1 ∙ sym er,
              ap (rank 2 ts) eq ∙ c.ranks 2 ∙ sym ek,
            )

        go : (x : ℕ) → ts ≡ a ++ x ∷ b → map (operand_at ts hs) (cons_if (mine q) q (keep mine (run (suc q) (length b)))) ≡ row_at z (cut (operand_numbers r (x ∷ b) (drop k hs)))
        go zero e =
            let c = at 0 e in
            ap (λ (t : Bool). map (operand_at ts hs) (cons_if t q (keep mine (run (suc q) (length b))))) (mine_is q 0 z c.0 c.1)
            ∙ next 0 e r (suc z) k (omega arith) (omega arith) (omega arith)
            ∙ row_end_lem z (cut (operand_numbers r b (drop k hs)))
        go (suc zero) e =
            let c = at 1 e in
            in_row q z 0 (suc r) (keep mine (run (suc q) (length b))) (cut (operand_numbers (suc r) b (drop k hs))) c.0 c.1
            (ap (λ (t : ℕ). cond (eqb t 1) (rank 1 ts q + 1) (get_or hs (rank 2 ts q) 0)) c.0 ∙ ap (λ (t : ℕ). t + 1) c.2 ∙ add-one r)
            (next 1 e (suc r) z k (omega arith) (omega arith) (omega arith))
        go (suc (suc zero)) e =
            let c = at 2 e in
            let two : k < length hs = omega (arith, pr.paired, ap (count_in 2) e, count_append 2 a (2 ∷ b)) in
            let h : ℕ = get_or hs k 0 in
            in_row q z 1 h (keep mine (run (suc q) (length b))) (cut (operand_numbers r b (drop (suc k) hs))) c.0 c.1
            (ap (λ (t : ℕ). cond (eqb t 1) (rank 1 ts q + 1) (get_or hs (rank 2 ts q) 0)) c.0 ∙ ap (λ (t : ℕ). get_or hs t 0) c.3)
            (next 2 e r z (suc k) (omega arith) (omega arith) (omega arith))
            ∙ ap (row_at z) (sym (cut_front h (operand_numbers r b (drop (suc k) hs)) (shadow_nodes ts hs pr.paired pr.seen k two).0)
            ∙ ap (λ (l : List ℕ). cut (operand_numbers r (2 ∷ b) l)) (sym (drop-cons hs k 0 two)))
        go (suc (suc (suc t))) e = absurd (omega (arith, (at (suc (suc (suc t))) e).0, pr.threes q (omega (arith, (at_cut ts a b (suc (suc (suc t))) e).inside))))

    rows_from : (b : List ℕ) → From b
    unfolding operand_numbers cut
    rows_from [] = λ a q r z k e eq er ez ek. row_none z
    rows_from (x ∷ b) = one_more b (rows_from b) x

    -- the operands that are listed for node i are those of the unpacked table
    pub operands_scanned : map operand_of (operand_edges ts hs i) ≡ operands_of (scanned ts hs) i
    unfolding scanned mine edge_at operands_of
    operands_scanned =
        ap (map operand_of) (operand_edges_places ts hs i) ∙ map-map operand_of (edge_at ts hs) (keep mine (run 0 (length ts)))
        ∙ rows_from ts [] 0 0 0 0 refl refl refl refl refl
        ∙ first i (cut (operand_numbers 0 ts hs)) pos
      where
        first : (j : ℕ) (rows : List (List ℕ)) → 1 ≤ j → cond (ltb j 0) [] (get_or rows (j - 0) []) ≡ operands_of (as_graph rows) j
        first zero rows h = absurd (omega arith)
        first (suc j) [] h = simp (le-ltb (suc j) 0 (omega arith))
        first (suc j) (r ∷ rows) h = let k : suc j - 0 ≡ suc j = omega arith in simp (le-ltb (suc j) 0 (omega arith), k)

-- so the unpacked table has them, node by node
scanned_operands : (ts hs : List ℕ) → ProperTrits ts hs → (scanned ts hs).operands ≡ map (λ (i : ℕ). map operand_of (operand_edges ts hs i)) (one_to (node_count ts))
unfolding operands_of
scanned_operands ts hs pr =
    let n : ℕ = node_count ts in
    let F : ℕ → List ℕ = λ i. map operand_of (operand_edges ts hs i) in
    let e : length (scanned ts hs).operands ≡ n = (scanned_counts ts hs pr).0 in
    ext_get_or [] (scanned ts hs).operands (map F (one_to n)) (e ∙ sym (length-map (one_to n) F ∙ length_run 1 n))
    (λ i h. sym (operands_scanned (suc i) ts hs pr (suc-le-suc zero-le)) ∙ sym (get_or_map_run F 1 n i [] (omega arith) ∙ ap F (one-add i)))

-- the scan gives the unpacked table
pub unpack_scanned : (ts hs : List ℕ) → ProperTrits ts hs → unpack ts hs ≡ scanned ts hs
unfolding unpack root_count
unpack_scanned ts hs pr = λ i. record { operands = sym (scanned_operands ts hs pr) i; roots = sym (proper_roots ts hs (scan_of ts hs pr)) i }

pub unpack_accepted : (ts hs : List ℕ) → ProperTrits ts hs → Accepted (words (unpack ts hs)) (unpack ts hs)
unpack_accepted ts hs pr = subst (λ (g : Graph). Accepted (words g) g) (sym (unpack_scanned ts hs pr)) (scanned_accepted ts hs pr)

pub unpack_image : (ts hs : List ℕ) → ProperTrits ts hs → image_of (unpack ts hs) ≡ image ts hs
unpack_image ts hs pr = ap image_of (unpack_scanned ts hs pr) ∙ scanned_image ts hs pr

pub unpack_nodes : (ts hs : List ℕ) → ProperTrits ts hs → nodes (unpack ts hs) ≡ node_count ts
unpack_nodes ts hs pr = ap nodes (unpack_scanned ts hs pr) ∙ (scanned_counts ts hs pr).0

-- ---- the edges are the operand lists of nodes 1 to n, one after the other

-- keys that do not fall, from lo on
abbrev Rises : (ℕ → ℕ) → ℕ → List ℕ → Type 0
Rises key lo [] = Unit {0}
Rises key lo (p ∷ ps) = (lo ≤ key p) × Rises key (key p) ps

module _ (key : ℕ → ℕ) where
  abbrev having : List ℕ → ℕ → List ℕ
  having ps i = keep (λ p. eqb (key p) i) ps

  -- none below the first
  rises_none : (lo i : ℕ) (ps : List ℕ) → i < lo → Rises key lo ps → having ps i ≡ []
  rises_none lo i [] h r = refl
  rises_none lo i (p ∷ ps) h r = simp (ne_eqb (key p) i (λ e. omega arith)) (rises_none (key p) i ps (omega arith) r.1)

  without_first : (p : ℕ) (ps : List ℕ) (a n : ℕ) → key p < a → join (map (having (p ∷ ps)) (run a n)) ≡ join (map (having ps) (run a n))
  without_first p ps a zero h = refl
  without_first p ps a (suc n) h =
      ap₂ (λ (b : Bool) (l : List ℕ). cons_if b p (having ps a) ++ l) (ne_eqb (key p) a (λ e. omega arith)) (without_first p ps (suc a) n (omega arith))

  by_key : (n lo : ℕ) (ps : List ℕ) → Rises key lo ps → All (λ p. key p < lo + n) ps → join (map (having ps) (run lo n)) ≡ ps
  by_key zero lo [] r a = refl
  by_key zero lo (p ∷ ps) r a = absurd (omega arith)
  by_key (suc n) lo ps r a = go (λ qs. by_key n (suc lo) qs) ps r a
    where
      higher : (qs : List ℕ) → All (λ p. key p < lo + suc n) qs → All (λ p. key p < suc lo + n) qs
      higher [] a = tt
      higher (q ∷ qs) a = (omega arith, higher qs a.1)

      go : ((qs : List ℕ) → Rises key (suc lo) qs → All (λ p. key p < suc lo + n) qs → join (map (having qs) (run (suc lo) n)) ≡ qs)
          → (qs : List ℕ) → Rises key lo qs → All (λ p. key p < lo + suc n) qs → having qs lo ++ join (map (having qs) (run (suc lo) n)) ≡ qs
      go outer [] r a = outer [] tt tt
      go outer (q ∷ qs) r a = elim (ℕ_discrete (key q) lo) [
        | yes e ↦
            ap₂ (λ (b : Bool) (l : List ℕ). cons_if b q (having qs lo) ++ l) (eq-eqb (key q) lo e) (without_first q qs (suc lo) n (omega arith))
            ∙ ap (λ (l : List ℕ). q ∷ l) (go outer qs (subst (λ (k : ℕ). Rises key k qs) e r.1) a.1)
        | no e ↦
            let r' : Rises key (suc lo) (q ∷ qs) = (omega arith, r.1) in
            ap (λ (l : List ℕ). l ++ join (map (having (q ∷ qs)) (run (suc lo) n))) (rises_none (suc lo) lo (q ∷ qs) (le_refl (suc lo)) r')
            ∙ outer (q ∷ qs) r' (higher (q ∷ qs) a)
      ]

-- places rise, and so do the zeros before them
rises_places : (ts : List ℕ) (f : ℕ → Bool) (n a lo : ℕ) → lo ≤ rank 0 ts a → Rises (rank 0 ts) lo (keep f (run a n))
rises_places ts f zero a lo h = tt
rises_places ts f (suc n) a lo h =
    let m : rank 0 ts a ≤ rank 0 ts (suc a) = rank_mono 0 ts a (suc a) (omega arith) in
    go (f a) (rises_places ts f n (suc a) (rank 0 ts a) m) (rises_places ts f n (suc a) lo (omega arith))
  where
    go : (b : Bool) → Rises (rank 0 ts) (rank 0 ts a) (keep f (run (suc a) n)) → Rises (rank 0 ts) lo (keep f (run (suc a) n)) → Rises (rank 0 ts) lo (cons_if b a (keep f (run (suc a) n)))
    go true x y = (h, x)
    go false x y = y

rises_one : (key : ℕ → ℕ) (ps : List ℕ) → Rises key 0 ps → All (λ p. 1 ≤ key p) ps → Rises key 1 ps
rises_one key [] r a = tt
rises_one key (p ∷ ps) r a = (a.0, r.1)

module _ {A B : Type 0} where
  map_join : (f : A → B) (xss : List (List A)) → map f (join xss) ≡ join (map (map f) xss)
  map_join f [] = refl
  map_join f (xs ∷ xss) = map-append f xs (join xss) ∙ ap (λ (l : List B). map f xs ++ l) (map_join f xss)

keep_join : {A : Type 0} (f : A → Bool) (xss : List (List A)) → keep f (join xss) ≡ join (map (keep f) xss)
keep_join f [] = refl
keep_join {A} f (xs ∷ xss) = keep_append f xs (join xss) ∙ ap (λ (l : List A). keep f xs ++ l) (keep_join f xss)

module _ (ts hs : List ℕ) (pr : ProperTrits ts hs) where
  -- by user rising, then by operand number rising
  edge_rows : edge_list ts hs ≡ join (map (operand_edges ts hs) (one_to (node_count ts)))
  unfolding edge_list operand_edges edge_at
  edge_rows =
      let n : ℕ = node_count ts in
      let key : ℕ → ℕ = rank 0 ts in
      let ps : List ℕ = keep (is_edge ts) (run 0 (length ts)) in
      let edged : All (Edged ts) ps = each_all (Edged ts) ps (edge_places ts) in
      let rises : Rises key 1 ps = rises_one key ps (rises_places ts (is_edge ts) (length ts) 0 0 zero-le) (all_imp (Edged ts) (λ p. 1 ≤ key p) ps (λ p e. e.used) edged) in
      let few : All (λ p. key p < 1 + n) ps = all_imp (Edged ts) (λ p. key p < 1 + n) ps (λ p e. omega (arith, user_node ts hs pr p e.inside)) edged in
      ap (map (edge_at ts hs)) (sym (by_key key n 1 ps rises few))
      ∙ map_join (edge_at ts hs) (map (having key ps) (one_to n))
      ∙ ap join (map-map (map (edge_at ts hs)) (having key ps) (one_to n))
      ∙ ap (λ (F : ℕ → List Edge). join (map F (one_to n))) (fun_ext (λ i. sym (keep_map (λ e. eqb e.user i) (edge_at ts hs) ps)))

  -- ---- uses

  -- the edges to v: those of user 1 in order, then those of user 2, ..
  uses_by_user : (v : ℕ) → use_edges ts hs v ≡ join (map (λ (i : ℕ). keep (λ e. eqb e.operand v) (operand_edges ts hs i)) (one_to (node_count ts)))
  unfolding use_edges
  uses_by_user v =
      let to : Edge → Bool = λ e. eqb e.operand v in
      ap (keep to) edge_rows ∙ keep_join to (map (operand_edges ts hs) (one_to (node_count ts))) ∙ ap join (map-map (keep to) (operand_edges ts hs) (one_to (node_count ts)))

-- a user's uses of v: as many as v stands in its operands
users_in : (i v : ℕ) (es : List Edge) → map user_of (keep (λ e. eqb e.operand v) (keep (λ e. eqb e.user i) es))
    ≡ replicate (count_in v (map operand_of (keep (λ e. eqb e.user i) es))) i
users_in i v [] = refl
users_in i v (e ∷ es) = elim (ℕ_discrete e.user i) [
  | no n ↦ simp (ne_eqb e.user i n) (users_in i v es)
  | yes y ↦ elim (ℕ_discrete e.operand v) [
    | no n ↦ simp (eq-eqb e.user i y, ne_eqb e.operand v n, zero-add) (users_in i v es)
    | yes o ↦ simp (eq-eqb e.user i y, eq-eqb e.operand v o, one-add) (ap₂ (λ (u : ℕ) (l : List ℕ). u ∷ l) y (users_in i v es))
  ]
]

pub users_of : (ts hs : List ℕ) → ProperTrits ts hs → (v : ℕ)
    → map user_of (use_edges ts hs v) ≡ join (map (λ (i : ℕ). replicate (count_in v (map operand_of (operand_edges ts hs i))) i) (one_to (node_count ts)))
unfolding operand_edges
users_of ts hs pr v =
    let F : ℕ → List Edge = λ i. keep (λ e. eqb e.operand v) (operand_edges ts hs i) in
    ap (map user_of) (uses_by_user ts hs pr v) ∙ map_join user_of (map F (one_to (node_count ts))) ∙ ap join (map-map (map user_of) F (one_to (node_count ts)))
    ∙ ap (λ (G : ℕ → List ℕ). join (map G (one_to (node_count ts)))) (fun_ext (λ i. users_in i v (edge_list ts hs)))
