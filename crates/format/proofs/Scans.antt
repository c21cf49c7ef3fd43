-- Proper trits and shadows are those of a walk: the walk of the graph that they describe writes them, with order list 1 to n; and what
-- the walk of any graph writes is proper.
-- Assumes nothing.
use mathlib.Core.Path.{◌≡◌, refl, sym, ap, ◌∙◌, subst, subst₂}
use mathlib.Core.Logic.{◌≢◌}
use Prim.Native.Nat.{ℕ, zero, suc, ◌+◌, ◌≤◌, ◌<◌}
use native.Mathlib.Nat.{zero-add, suc-add, add-zero, add-suc, suc_inj, suc-ne-zero}
use native.Mathlib.Omega.{arith}
use mathlib.Core.List.{List, [], ◌∷◌, ◌++◌, tail, append-nil, cons≢nil, nil≢cons, head-eq_of_cons-eq}
use lib.ListN.{length, get_or, drop, length-append, replicate}
use lib.Seq.{append_snoc, drop-cons, drop-nil}
use native.Mathlib.Numerals.{one-add}
use Rattle.format.specs.Image.{until_zero}
use Rattle.format.specs.Lists.{run, All, count_in, number_in, one_to, Nodup}
use Rattle.format.specs.Table.{Graph, nodes, Node, operands_of, WellFormed}
use Rattle.format.specs.Level.{Walk, enter, see, see_all, close, visit, super_root, taken, turn, turns, walk, level_order}
use Rattle.format.proofs.Cutting.{operand_numbers, in_front, cut, as_graph, scanned}
use Rattle.format.proofs.Laws.{count_append, length_run, get_or_run, run_snoc}
use Rattle.format.proofs.Places.{nodup_run, number_one_to, number_next, number_le}
use Rattle.format.proofs.Walks.{see_at, empty, start_visit, see_cases}
use Rattle.format.proofs.Order.{Packable, counts}

-- ---- proper trits and shadows, as one scan sees them

-- Trits and shadows that may follow r ones and z zeros: before each trit stand at least as many ones as zeros; a 2 comes after the first
-- zero, and its shadow is one of the r nodes seen so far.
abbrev pub Stands : ℕ → ℕ → List ℕ → List ℕ → Type 0
Stands r z [] [] = Unit {0}
Stands r z [] (h ∷ hs) = ⊥
Stands r z (zero ∷ ts) hs = (z ≤ r) × Stands r (suc z) ts hs
Stands r z (suc zero ∷ ts) hs = (z ≤ r) × Stands (suc r) z ts hs
Stands r z (suc (suc zero) ∷ ts) [] = ⊥
Stands r z (suc (suc zero) ∷ ts) (h ∷ hs) = (z ≤ r) × (1 ≤ z) × Node r h × Stands r z ts hs
Stands r z (suc (suc (suc t)) ∷ ts) hs = ⊥

-- and in all there is one zero more than ones
pub record Scan (ts hs : List ℕ) : Type 0 where
  pub stands : Stands 0 0 ts hs
  pub balance : count_in 0 ts ≡ suc (count_in 1 ts)

-- ---- a walk from a later turn on

unfoldable pub turns_from : Graph → ℕ → ℕ → Walk → Walk
turns_from g z zero w = w
turns_from g z (suc k) w = turns_from g (suc z) k (turn g z w)

turns_from_last : (g : Graph) (z k : ℕ) (w : Walk) → turns_from g z (suc k) w ≡ turn g (z + k) (turns_from g z k w)
unfolding turns_from
turns_from_last g z zero w = ap (λ (n : ℕ). turn g n w) (sym (add-zero z))
turns_from_last g z (suc k) w = turns_from_last g (suc z) k (turn g z w) ∙ ap (λ (n : ℕ). turn g n (turns_from g (suc z) k (turn g z w))) (suc-add z k ∙ sym (add-suc z k))

turns_from_lem : (g : Graph) (k : ℕ) → turns g k ≡ turns_from g 0 k (super_root g)
unfolding turns turns_from
turns_from_lem g zero = refl
turns_from_lem g (suc k) = ap (turn g k) (turns_from_lem g k) ∙ ap (λ (n : ℕ). turn g n (turns_from g 0 k (super_root g))) (sym (zero-add k)) ∙ sym (turns_from_last g 0 k (super_root g))

-- ---- the walk of unpacked trits

-- see the rest of a row, then take the nodes whose rows follow
go_on : Graph → ℕ → List (List ℕ) → Walk → Walk
go_on g z [] w = w
go_on g z (row ∷ rest) w = turns_from g z (length rest) (close (see_all row w))

go_on_front : (g : Graph) (z x : ℕ) (rows : List (List ℕ)) (w : Walk) → rows ≢ [] → go_on g z (in_front x rows) w ≡ go_on g z rows (see x w)
unfolding go_on see_all
go_on_front g z x [] w h = absurd (h refl)
go_on_front g z x (row ∷ rest) w h = refl

tail_front : (x : ℕ) (rows : List (List ℕ)) → tail (in_front x rows) ≡ tail rows
tail_front x [] = refl
tail_front x (row ∷ rest) = refl

drop_tail : {A : Type 0} (z : ℕ) (l : List A) → drop (suc z) l ≡ tail (drop z l)
drop_tail zero [] = refl
drop_tail zero (x ∷ l) = refl
drop_tail (suc z) [] = refl
drop_tail (suc z) (x ∷ l) = drop_tail z l

get_or_dropped : {A : Type 0} (z : ℕ) (l : List A) (x d : A) (rest : List A) → drop z l ≡ x ∷ rest → get_or l z d ≡ x
get_or_dropped zero [] x d rest e = absurd (cons≢nil (sym e))
get_or_dropped zero (y ∷ l) x d rest e = head-eq_of_cons-eq e
get_or_dropped (suc z) [] x d rest e = absurd (cons≢nil (sym e))
get_or_dropped (suc z) (y ∷ l) x d rest e = get_or_dropped z l x d rest e

-- at the end of a row the next node is taken: it is z + 1, and its row is the next
next_row : (g : Graph) (z r : ℕ) (rows : List (List ℕ)) (w : Walk) → drop z g.operands ≡ rows → w.queue ≡ one_to r → (rows ≢ [] → suc z ≤ r)
    → turns_from g z (length rows) w ≡ go_on g (suc z) rows w
unfolding go_on turns_from visit operands_of
next_row g z r [] w e q h = refl
next_row g z r (row ∷ rest) w e q h =
    let b : suc z ≤ r = h cons≢nil in
    let d : drop z w.queue ≡ suc z ∷ drop (suc z) (one_to r) =
    ap (drop z) q ∙ drop-cons (one_to r) z 0 (omega (arith, length_run 1 r))
    ∙ ap (λ (x : ℕ). x ∷ drop (suc z) (one_to r)) (get_or_run 1 r z 0 b ∙ one-add z) in
    ap (turns_from g (suc z) (length rest))
    (ap (λ (l : List ℕ). taken g l w) d ∙ ap (λ (vs : List ℕ). close (see_all vs w)) (get_or_dropped z g.operands row [] rest e))

-- a trit that stands gives z ≤ r
pub stands_le : (r z t : ℕ) (ts hs : List ℕ) → Stands r z (t ∷ ts) hs → z ≤ r
stands_le r z zero ts hs s = s.0
stands_le r z (suc zero) ts hs s = s.0
stands_le r z (suc (suc zero)) ts [] s = absurd s
stands_le r z (suc (suc zero)) ts (h ∷ hs) s = s.0
stands_le r z (suc (suc (suc t))) ts hs s = absurd s

front_some : (x : ℕ) (rows : List (List ℕ)) → in_front x rows ≢ []
front_some x [] e = cons≢nil e
front_some x (row ∷ rest) e = cons≢nil e

-- and a row
some_row : (r z t : ℕ) (ts hs : List ℕ) → Stands r z (t ∷ ts) hs → cut (operand_numbers r (t ∷ ts) hs) ≢ []
unfolding operand_numbers cut
some_row r z zero ts hs s e = cons≢nil e
some_row r z (suc zero) ts hs s e = front_some (suc r) (cut (operand_numbers (suc r) ts hs)) e
some_row r z (suc (suc zero)) ts [] s e = absurd s
some_row r z (suc (suc zero)) ts (zero ∷ hs) s e = cons≢nil e
some_row r z (suc (suc zero)) ts (suc h ∷ hs) s e = front_some (suc h) (cut (operand_numbers r ts hs)) e
some_row r z (suc (suc (suc t))) ts hs s e = absurd s

-- while fewer zeros than balance stand, trits follow
more_rows : (r z : ℕ) (ts hs : List ℕ) → Stands r z ts hs → z + count_in 0 ts ≡ suc (r + count_in 1 ts) → z ≤ r → cut (operand_numbers r ts hs) ≢ []
more_rows r z [] hs s b h = absurd (omega arith)
more_rows r z (t ∷ ts) hs s b h = some_row r z t ts hs s

row_le : (r z : ℕ) (ts hs : List ℕ) → Stands r z ts hs → cut (operand_numbers r ts hs) ≢ [] → z ≤ r
unfolding operand_numbers cut
row_le r z [] hs s h = absurd (h refl)
row_le r z (t ∷ ts) hs s h = stands_le r z t ts hs s

written_rows : Walk → ℕ → List ℕ → List ℕ → Walk
written_rows w r ts hs = record { queue = one_to r; trits = w.trits ++ ts; shadows = w.shadows ++ hs }

module _ (g : Graph) where
  rows_written : (n : ℕ) (ts hs : List ℕ) (r z : ℕ) (w : Walk) → n ≡ r + count_in 1 ts → Stands r z ts hs → z + count_in 0 ts ≡ suc (r + count_in 1 ts) → w.queue ≡ one_to r
      → drop z g.operands ≡ tail (cut (operand_numbers r ts hs)) → go_on g z (cut (operand_numbers r ts hs)) w ≡ written_rows w n ts hs
  unfolding operand_numbers cut go_on written_rows see_all
  rows_written n [] [] r z w c s b q e = let k : r ≡ n = omega arith in λ i. record { queue = (q ∙ ap one_to k) i; trits = sym (append-nil w.trits) i; shadows = sym (append-nil w.shadows) i }
  rows_written n [] (h ∷ hs) r z w c s b q e = absurd s
  rows_written n (zero ∷ ts) hs r z w c s b q e =
      let rows : List (List ℕ) = cut (operand_numbers r ts hs) in
      next_row g z r rows (close w) e q (row_le r (suc z) ts hs s.1)
      ∙ rows_written n ts hs r (suc z) (close w) (omega arith) s.1 (omega arith) q (drop_tail z g.operands ∙ ap tail e)
      ∙ (λ i. record { queue = one_to n; trits = append_snoc w.trits 0 ts i; shadows = w.shadows ++ hs })
  rows_written n (suc zero ∷ ts) hs r z w c s b q e =
      let rows : List (List ℕ) = cut (operand_numbers (suc r) ts hs) in
      go_on_front g z (suc r) rows w (more_rows (suc r) z ts hs s.1 (omega arith) (omega arith))
      ∙ ap (go_on g z rows) (see_at (suc r) w 0 (ap (number_in (suc r)) q ∙ number_next r))
      ∙ rows_written n ts hs (suc r) z (enter 0 (suc r) w) (omega arith) s.1 (omega arith)
      (ap (λ (l : List ℕ). l ++ suc r ∷ []) q ∙ ap (λ (x : ℕ). one_to r ++ x ∷ []) (sym (one-add r)) ∙ sym (run_snoc 1 r))
      (e ∙ tail_front (suc r) rows)
      ∙ (λ i. record { queue = one_to n; trits = append_snoc w.trits 1 ts i; shadows = w.shadows ++ hs })
  rows_written n (suc (suc zero) ∷ ts) [] r z w c s b q e = absurd s
  rows_written n (suc (suc zero) ∷ ts) (zero ∷ hs) r z w c s b q e = absurd (omega arith)
  rows_written n (suc (suc zero) ∷ ts) (suc h ∷ hs) r z w c s b q e =
      let rows : List (List ℕ) = cut (operand_numbers r ts hs) in
      go_on_front g z (suc h) rows w (more_rows r z ts hs s.3 (omega arith) s.0)
      ∙ ap (go_on g z rows) (see_at (suc h) w (suc h) (ap (number_in (suc h)) q ∙ number_one_to r (suc h) s.2.0 s.2.1))
      ∙ rows_written n ts hs r z (enter (suc h) (suc h) w) (omega arith) s.3 (omega arith) q (e ∙ tail_front (suc h) rows)
      ∙ (λ i. record { queue = one_to n; trits = append_snoc w.trits 2 ts i; shadows = append_snoc w.shadows (suc h) hs i })
  rows_written n (suc (suc (suc t)) ∷ ts) hs r z w c s b q e = absurd s

-- ---- what proper trits describe is a graph that is packed

-- before the first zero stand ones alone
first_row : (r : ℕ) (ts hs : List ℕ) → Stands r 0 ts hs → (as_graph (cut (operand_numbers r ts hs))).roots ≡ run (suc r) (count_in 1 (until_zero ts))
unfolding operand_numbers cut
first_row r [] hs s = refl
first_row r (zero ∷ ts) hs s = refl
first_row r (suc zero ∷ ts) hs s =
    roots_front (suc r) (cut (operand_numbers (suc r) ts hs)) ∙ ap (λ (l : List ℕ). suc r ∷ l) (first_row (suc r) ts hs s.1)
    ∙ ap (run (suc r)) (sym (one-add (count_in 1 (until_zero ts))))
  where
    roots_front : (x : ℕ) (rows : List (List ℕ)) → (as_graph (in_front x rows)).roots ≡ x ∷ (as_graph rows).roots
    roots_front x [] = refl
    roots_front x (row ∷ rest) = refl
first_row r (suc (suc zero) ∷ ts) [] s = absurd s
first_row r (suc (suc zero) ∷ ts) (h ∷ hs) s = absurd (omega arith)
first_row r (suc (suc (suc t)) ∷ ts) hs s = absurd s

all_front : (n x : ℕ) (rows : List (List ℕ)) → Node n x → All (All (Node n)) rows → All (All (Node n)) (in_front x rows)
all_front n x [] h a = ((h, tt), tt)
all_front n x (row ∷ rest) h a = ((h, a.0), a.1)

all_rows : (n r z : ℕ) (ts hs : List ℕ) → Stands r z ts hs → r + count_in 1 ts ≤ n → All (All (Node n)) (cut (operand_numbers r ts hs))
unfolding operand_numbers cut
all_rows n r z [] hs s b = tt
all_rows n r z (zero ∷ ts) hs s b = (tt, all_rows n r (suc z) ts hs s.1 (omega arith))
all_rows n r z (suc zero ∷ ts) hs s b = all_front n (suc r) (cut (operand_numbers (suc r) ts hs)) (omega arith) (all_rows n (suc r) z ts hs s.1 (omega arith))
all_rows n r z (suc (suc zero) ∷ ts) [] s b = absurd s
all_rows n r z (suc (suc zero) ∷ ts) (zero ∷ hs) s b = absurd (omega arith)
all_rows n r z (suc (suc zero) ∷ ts) (suc h ∷ hs) s b = all_front n (suc h) (cut (operand_numbers r ts hs)) (omega arith) (all_rows n r z ts hs s.3 (omega arith))
all_rows n r z (suc (suc (suc t)) ∷ ts) hs s b = absurd s

length_front : (x : ℕ) (rows : List (List ℕ)) → rows ≢ [] → length (in_front x rows) ≡ length rows
length_front x [] h = absurd (h refl)
length_front x (row ∷ rest) h = refl

-- a row for each zero
length_rows : (r z : ℕ) (ts hs : List ℕ) → Stands r z ts hs → z + count_in 0 ts ≡ suc (r + count_in 1 ts) → length (cut (operand_numbers r ts hs)) ≡ count_in 0 ts
unfolding operand_numbers cut
length_rows r z [] hs s b = refl
length_rows r z (zero ∷ ts) hs s b = omega (arith, length_rows r (suc z) ts hs s.1 (omega arith))
length_rows r z (suc zero ∷ ts) hs s b =
    omega (
      arith,
      length_front (suc r) (cut (operand_numbers (suc r) ts hs)) (more_rows (suc r) z ts hs s.1 (omega arith) (omega arith)),
      length_rows (suc r) z ts hs s.1 (omega arith),
    )
length_rows r z (suc (suc zero) ∷ ts) [] s b = absurd s
length_rows r z (suc (suc zero) ∷ ts) (zero ∷ hs) s b = absurd (omega arith)
length_rows r z (suc (suc zero) ∷ ts) (suc h ∷ hs) s b =
    omega (
      arith,
      length_front (suc h) (cut (operand_numbers r ts hs)) (more_rows r z ts hs s.3 (omega arith) s.0),
      length_rows r z ts hs s.3 (omega arith),
    )
length_rows r z (suc (suc (suc t)) ∷ ts) hs s b = absurd s

length_graph : (rows : List (List ℕ)) (n : ℕ) → length rows ≡ suc n → nodes (as_graph rows) ≡ n
length_graph [] n e = absurd (suc-ne-zero n (sym e))
length_graph (row ∷ rest) n e = suc_inj e

graph_formed : (rows : List (List ℕ)) (n : ℕ) → nodes (as_graph rows) ≡ n → All (All (Node n)) rows → Nodup (as_graph rows).roots → WellFormed (as_graph rows)
graph_formed [] n e a d = record { inside = tt; roots_inside = tt; roots_nodup = tt }
graph_formed (row ∷ rest) n e a d = record {
  inside = subst (λ (k : ℕ). All (All (Node k)) rest) (sym e) a.1;
  roots_inside = subst (λ (k : ℕ). All (Node k) row) (sym e) a.0;
  roots_nodup = d;
}

-- the start, and then the turns
walk_rows : (rows : List (List ℕ)) → rows ≢ [] → Nodup (as_graph rows).roots → walk (as_graph rows) ≡ go_on (as_graph rows) 0 rows empty
unfolding walk go_on
walk_rows [] h d = absurd (h refl)
walk_rows (row ∷ rest) h d =
    let g : Graph = record { operands = rest; roots = row } in
    turns_from_lem g (length rest) ∙ ap (turns_from g 0 (length rest)) (start_visit g d)

rest_rows : (rows : List (List ℕ)) → (as_graph rows).operands ≡ tail rows
rest_rows [] = refl
rest_rows (row ∷ rest) = refl

module _ (ts hs : List ℕ) (p : Scan ts hs) where
  rows : List (List ℕ)
  rows = cut (operand_numbers 0 ts hs)

  balanced : 0 + count_in 0 ts ≡ suc (0 + count_in 1 ts)
  balanced = omega (arith, p.balance)

  pub proper_nodes : nodes (scanned ts hs) ≡ count_in 1 ts
  unfolding scanned rows
  proper_nodes = length_graph rows (count_in 1 ts) (length_rows 0 0 ts hs p.stands balanced ∙ p.balance)

  pub proper_roots : (scanned ts hs).roots ≡ one_to (count_in 1 (until_zero ts))
  unfolding scanned
  proper_roots = first_row 0 ts hs p.stands

  roots_nodup : Nodup (scanned ts hs).roots
  roots_nodup = subst Nodup (sym proper_roots) (nodup_run 1 (count_in 1 (until_zero ts)))

  proper_formed : WellFormed (scanned ts hs)
  unfolding scanned rows
  proper_formed = graph_formed rows (count_in 1 ts) proper_nodes (all_rows (count_in 1 ts) 0 0 ts hs p.stands (omega arith)) roots_nodup

  -- packing what was unpacked gives the trits and shadows again
  pub proper_walk : walk (scanned ts hs) ≡ record { queue = one_to (count_in 1 ts); trits = ts; shadows = hs }
  unfolding scanned rows written_rows
  proper_walk =
      walk_rows rows (more_rows 0 0 ts hs p.stands balanced (omega arith)) roots_nodup
      ∙ rows_written (as_graph rows) (count_in 1 ts) ts hs 0 0 empty (omega arith) p.stands balanced refl (rest_rows rows)

  pub proper_packable : Packable (scanned ts hs)
  unfolding level_order
  proper_packable = record {
    formed = proper_formed;
    all_reached = ap (λ (w : Walk). length w.queue) proper_walk ∙ length_run 1 (count_in 1 ts) ∙ sym proper_nodes;
  }

-- ---- what a walk writes is proper

stands_append : (ts us hs ks : List ℕ) (r z r' z' : ℕ) → r' ≡ r + count_in 1 ts → z' ≡ z + count_in 0 ts → Stands r z ts hs → Stands r' z' us ks → Stands r z (ts ++ us) (hs ++ ks)
stands_append [] us [] ks r z r' z' a b s t = subst₂ (λ (x y : ℕ). Stands x y us ks) (omega arith) (omega arith) t
stands_append [] us (h ∷ hs) ks r z r' z' a b s t = absurd s
stands_append (zero ∷ ts) us hs ks r z r' z' a b s t = (s.0, stands_append ts us hs ks r (suc z) r' z' (omega arith) (omega arith) s.1 t)
stands_append (suc zero ∷ ts) us hs ks r z r' z' a b s t = (s.0, stands_append ts us hs ks (suc r) z r' z' (omega arith) (omega arith) s.1 t)
stands_append (suc (suc zero) ∷ ts) us [] ks r z r' z' a b s t = absurd s
stands_append (suc (suc zero) ∷ ts) us (h ∷ hs) ks r z r' z' a b s t = (s.0, s.1, s.2, stands_append ts us hs ks r z r' z' (omega arith) (omega arith) s.3 t)
stands_append (suc (suc (suc t)) ∷ ts) us hs ks r z r' z' a b s u = absurd s

-- inside a row: all is well so far, and there are at most as many zeros, z, as nodes in the queue
record Live (z : ℕ) (w : Walk) : Type 0 where
  stands : Stands 0 0 w.trits w.shadows
  ones : count_in 1 w.trits ≡ length w.queue
  zeros : count_in 0 w.trits ≡ z
  begun : 1 ≤ z
  behind : z ≤ length w.queue

one_more_trit : (w : Walk) (t : ℕ) (hs : List ℕ) → Stands 0 0 w.trits w.shadows → Stands (count_in 1 w.trits) (count_in 0 w.trits) (t ∷ []) hs
    → Stands 0 0 (w.trits ++ t ∷ []) (w.shadows ++ hs)
one_more_trit w t hs s h =
    stands_append w.trits (t ∷ []) w.shadows hs 0 0 (count_in 1 w.trits) (count_in 0 w.trits) (omega arith) (omega arith) s h

live_see : (z v : ℕ) (w : Walk) → Live z w → Live z (see v w)
live_see z v w l = see_cases (Live z) v w
    (λ e. record {
      stands = subst (Stands 0 0 (w.trits ++ 1 ∷ [])) (append-nil w.shadows) (one_more_trit w 1 [] l.stands (omega arith, tt));
      ones = omega (arith, count_append 1 w.trits (1 ∷ []), length-append w.queue (v ∷ []));
      zeros = omega (arith, count_append 0 w.trits (1 ∷ []));
      begun = l.begun;
      behind = omega (arith, length-append w.queue (v ∷ []));
    })
    (λ k e. record {
      stands = one_more_trit w 2 (suc k ∷ []) l.stands (omega arith, omega arith, omega (arith, number_le v w.queue), tt);
      ones = omega (arith, count_append 1 w.trits (2 ∷ []));
      zeros = omega (arith, count_append 0 w.trits (2 ∷ []));
      begun = l.begun;
      behind = l.behind;
    })

live_see_all : (z : ℕ) (vs : List ℕ) (w : Walk) → Live z w → Live z (see_all vs w)
unfolding see_all
live_see_all z [] w l = l
live_see_all z (v ∷ vs) w l = live_see_all z vs (see v w) (live_see z v w l)

-- between two rows, after i turns
record Ready (i : ℕ) (w : Walk) : Type 0 where
  stands : Stands 0 0 w.trits w.shadows
  ones : count_in 1 w.trits ≡ length w.queue
  begun : 1 ≤ count_in 0 w.trits
  zeros : count_in 0 w.trits ≤ suc i

ready_close : (z : ℕ) (w : Walk) → Live z w → Ready z (close w)
ready_close z w l = record {
  stands = subst (Stands 0 0 (w.trits ++ 0 ∷ [])) (append-nil w.shadows) (one_more_trit w 0 [] l.stands (omega arith, tt));
  ones = omega (arith, count_append 1 w.trits (0 ∷ []));
  begun = omega (arith, count_append 0 w.trits (0 ∷ []));
  zeros = omega (arith, count_append 0 w.trits (0 ∷ []));
}

ready_later : (i j : ℕ) (w : Walk) → i ≤ j → Ready i w → Ready j w
ready_later i j w h r = record { stands = r.stands; ones = r.ones; begun = r.begun; zeros = omega arith }

some_left : {A : Type 0} (i : ℕ) (q : List A) (v : A) (rest : List A) → drop i q ≡ v ∷ rest → i < length q
some_left i [] v rest e = absurd (nil≢cons (sym (drop-nil i) ∙ e))
some_left zero (x ∷ q) v rest e = omega arith
some_left (suc i) (x ∷ q) v rest e = let h = some_left i q v rest e in omega arith

ready_taken : (g : Graph) (i : ℕ) (w : Walk) (l : List ℕ) → drop i w.queue ≡ l → Ready i w → Ready (suc i) (taken g l w)
unfolding visit
ready_taken g i w [] e r = ready_later i (suc i) w (omega arith) r
ready_taken g i w (v ∷ rest) e r =
    let z : ℕ = count_in 0 w.trits in
    let h = some_left i w.queue v rest e in
    let x : Walk = see_all (operands_of g v) w in
    ready_later z (suc i) (close x) (omega arith)
    (ready_close z x (live_see_all z (operands_of g v) w (record { stands = r.stands; ones = r.ones; zeros = refl; begun = r.begun; behind = omega arith })))

stands_ones : (c r : ℕ) → Stands r 0 (replicate c 1 ++ 0 ∷ []) []
stands_ones zero r = (omega arith, tt)
stands_ones (suc c) r = (omega arith, stands_ones c (suc r))

count_ones : (c : ℕ) → (count_in 1 (replicate c 1 ++ 0 ∷ []) ≡ c) × (count_in 0 (replicate c 1 ++ 0 ∷ []) ≡ 1)
count_ones zero = (refl, refl)
count_ones (suc c) = let i = count_ones c in (omega arith, omega arith)

ready_turns : (g : Graph) (i : ℕ) → Ready i (turns g i)
unfolding turns super_root
ready_turns g zero =
    let c = length g.roots in
    let k = count_ones c in
    record { stands = stands_ones c 0; ones = k.0; begun = omega arith; zeros = omega arith }
ready_turns g (suc i) = ready_taken g i (turns g i) (drop i (turns g i).queue) refl (ready_turns g i)

pub walk_proper : (g : Graph) → Packable g → Scan (walk g).trits (walk g).shadows
unfolding walk
walk_proper g p =
    let c = counts g p in
    record { stands = (ready_turns g (nodes g)).stands; balance = omega (arith, c.zeros, c.ones) }
