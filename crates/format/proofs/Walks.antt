-- What holds of a walk at every turn, proved once for seeing an operand, for a visit, for the start and for each turn. Assumes nothing.
use mathlib.Core.Path.{◌≡◌, refl, sym, ap, ◌∙◌}
use Prim.Native.Nat.{ℕ, zero, suc, ◌+◌}
use native.Mathlib.Numerals.{add-one}
use native.Mathlib.Omega.{arith}
use mathlib.Core.Bool.{Bool, true, false, ◌&&◌}
use mathlib.Core.List.{List, [], ◌∷◌, ◌++◌, map, append_assoc, append-nil, map-append}
use lib.ListN.{length, take, drop, length-append, replicate}
use lib.Seq.{append_snoc}
use lib.Dec.{T, leb, leb→le}
use borrow.Author.Tests.{ne_eqb}
use Rattle.format.specs.Lists.{bit, All, count_in, number_in, Nodup}
use Rattle.format.specs.Table.{Graph, nodes, Node, operands_of, is_node, WellFormed}
use Rattle.format.specs.Level.{Walk, enter, see, see_all, close, visit, super_root, taken, turns}
use Rattle.format.proofs.Cutting.{operand_numbers}
use Rattle.format.proofs.Laws.{count_append}
use Rattle.format.proofs.Places.{all_append, all_get_or, nodup_snoc, nodup_mid, number_in_lem, number_new, take_end, take_next}

-- ---- a well-formed graph

and_both : (a b : Bool) → T (a && b) → T a × T b
and_both true b t = (tt, t)
and_both false b t = absurd t

pub is_node_lem : (n v : ℕ) → T (is_node n v) → Node n v
is_node_lem n v t = let r = and_both (leb 1 v) (leb v n) t in (leb→le 1 v r.0, leb→le v n r.1)

pub operands_inside : (g : Graph) → WellFormed g → (v : ℕ) → All (Node (nodes g)) (operands_of g v)
unfolding operands_of
operands_inside g f zero = tt
operands_inside g f (suc i) = all_get_or (All (Node (nodes g))) g.operands i [] f.inside tt

-- ---- seeing one operand: two cases

pub see_at : (v : ℕ) (w : Walk) (p : ℕ) → number_in v w.queue ≡ p → see v w ≡ enter p v w
unfolding see
see_at v w p e = ap (λ (p : ℕ). enter p v w) e

pub see_cases : (P : Walk → Type 0) (v : ℕ) (w : Walk) → (number_in v w.queue ≡ 0 → P (enter 0 v w))
    → ((k : ℕ) → number_in v w.queue ≡ suc k → P (enter (suc k) v w)) → P (see v w)
unfolding see
see_cases P v w new old = go (number_in v w.queue) refl
  where
    go : (p : ℕ) → number_in v w.queue ≡ p → P (enter p v w)
    go zero e = new e
    go (suc k) e = old k e

pub see_all_lem : (P : ℕ → Type 0) (v : ℕ) (w : Walk) → P v → All P w.queue → All P (see v w).queue
see_all_lem P v w h a = see_cases (λ (x : Walk). All P x.queue) v w (λ e. all_append P w.queue (v ∷ []) a (h, tt)) (λ k e. a)

-- ---- the numbers that trits and shadows stand for

count_no_trit : (t : ℕ) (ts : List ℕ) → (count_in 1 (suc (suc (suc t)) ∷ ts) ≡ count_in 1 ts) × (count_in 2 (suc (suc (suc t)) ∷ ts) ≡ count_in 2 ts)
count_no_trit t ts =
    let x : ℕ = suc (suc (suc t)) in
    (omega (arith, ap bit (ne_eqb x 1 (λ e. omega arith))), omega (arith, ap bit (ne_eqb x 2 (λ e. omega arith))))

operand_numbers_append : (r m : ℕ) (ts us hs ks : List ℕ) → count_in 2 ts ≡ length hs → m ≡ r + count_in 1 ts
    → operand_numbers r (ts ++ us) (hs ++ ks) ≡ operand_numbers r ts hs ++ operand_numbers m us ks
unfolding operand_numbers
operand_numbers_append r m [] us [] ks e c = ap (λ (n : ℕ). operand_numbers n us ks) (omega arith)
operand_numbers_append r m [] us (h ∷ hs) ks e c = absurd (omega arith)
operand_numbers_append r m (zero ∷ ts) us hs ks e c = ap (λ (l : List ℕ). 0 ∷ l) (operand_numbers_append r m ts us hs ks (omega arith) (omega arith))
operand_numbers_append r m (suc zero ∷ ts) us hs ks e c = ap (λ (l : List ℕ). suc r ∷ l) (operand_numbers_append (suc r) m ts us hs ks (omega arith) (omega arith))
operand_numbers_append r m (suc (suc zero) ∷ ts) us [] ks e c = absurd (omega arith)
operand_numbers_append r m (suc (suc zero) ∷ ts) us (h ∷ hs) ks e c = ap (λ (l : List ℕ). h ∷ l) (operand_numbers_append r m ts us hs ks (omega arith) (omega arith))
operand_numbers_append r m (suc (suc (suc t)) ∷ ts) us hs ks e c =
    let n = count_no_trit t ts in operand_numbers_append r m ts us hs ks (omega arith) (omega arith)

-- ---- what holds at every moment

-- `line` lists what has been seen, with a 0 at each end of a row. The trits and shadows stand for the places of those nodes, in the queue as
-- it is or with more behind it.
pub record Inv (n : ℕ) (w : Walk) (line : List ℕ) : Type 0 where
  pub nodup : Nodup w.queue
  pub inside : All (Node n) w.queue
  pub size : length w.trits ≡ length line
  pub zeros : count_in 0 w.trits ≡ count_in 0 line
  pub ones : count_in 1 w.trits ≡ length w.queue
  pub twos : count_in 2 w.trits ≡ length w.shadows
  pub kinds : length w.trits ≡ count_in 0 w.trits + count_in 1 w.trits + count_in 2 w.trits
  pub shows : (q r : List ℕ) → q ≡ w.queue ++ r → number_in 0 q ≡ 0 → operand_numbers 0 w.trits w.shadows ≡ map (λ (v : ℕ). number_in v q) line

longer : (a : List ℕ) (x : ℕ) → length (a ++ x ∷ []) ≡ suc (length a)
longer a x = length-append a (x ∷ []) ∙ add-one (length a)

module _ (n : ℕ) where
  -- one more trit, t, for one more entry of the line, x
  inv_step : (w : Walk) (line : List ℕ) → Inv n w line → (t x : ℕ) (qs hs : List ℕ) (w' : Walk)
      → w'.queue ≡ w.queue ++ qs → w'.trits ≡ w.trits ++ t ∷ [] → w'.shadows ≡ w.shadows ++ hs
      → count_in 0 (t ∷ []) ≡ count_in 0 (x ∷ []) → count_in 1 (t ∷ []) ≡ length qs → count_in 2 (t ∷ []) ≡ length hs
      → 1 ≡ count_in 0 (t ∷ []) + count_in 1 (t ∷ []) + count_in 2 (t ∷ []) → Nodup w'.queue → All (Node n) w'.queue
      → ((q r : List ℕ) → q ≡ w'.queue ++ r → number_in 0 q ≡ 0 → operand_numbers (length w.queue) (t ∷ []) hs ≡ number_in x q ∷ [])
      → Inv n w' (line ++ x ∷ [])
  inv_step w line i t x qs hs w' eq et eh c0 c1 c2 c3 d a one =
      record {
        nodup = d;
        inside = a;
        size = ap length et ∙ longer w.trits t ∙ ap suc i.size ∙ sym (longer line x);
        zeros = omega (arith, ap (count_in 0) et, count_append 0 w.trits (t ∷ []), count_append 0 line (x ∷ []), i.zeros);
        ones = omega (arith, ap (count_in 1) et, count_append 1 w.trits (t ∷ []), ap length eq, length-append w.queue qs, i.ones);
        twos = omega (arith, ap (count_in 2) et, count_append 2 w.trits (t ∷ []), ap length eh, length-append w.shadows hs, i.twos);
        kinds = omega (
          arith,
          ap length et,
          longer w.trits t,
          ap (count_in 0) et,
          count_append 0 w.trits (t ∷ []),
          ap (count_in 1) et,
          count_append 1 w.trits (t ∷ []),
          ap (count_in 2) et,
          count_append 2 w.trits (t ∷ []),
          i.kinds,
        );
        shows = λ q r e z.
            (λ j. operand_numbers 0 (et j) (eh j))
            ∙ operand_numbers_append 0 (length w.queue) w.trits (t ∷ []) w.shadows hs i.twos (omega (arith, i.ones))
            ∙ (λ j. i.shows q (qs ++ r) (e ∙ ap (λ (l : List ℕ). l ++ r) eq ∙ append_assoc w.queue qs r) z j ++ operand_numbers (length w.queue) (t ∷ []) hs)
            ∙ ap (λ (l : List ℕ). map (λ (v : ℕ). number_in v q) line ++ l) (one q r e z)
            ∙ sym (map-append (λ (v : ℕ). number_in v q) line (x ∷ []));
      }

  -- the count of zeros sees no node
  node_count_lem : (v : ℕ) → Node n v → 0 ≡ count_in 0 (v ∷ [])
  node_count_lem v h = omega (arith, ap bit (ne_eqb v 0 (λ e. omega arith)))

  inv_new : (v : ℕ) (w : Walk) (line : List ℕ) → Node n v → Inv n w line → number_in v w.queue ≡ 0 → Inv n (enter 0 v w) (line ++ v ∷ [])
  unfolding operand_numbers
  inv_new v w line h i e =
      inv_step w line i 1 v (v ∷ []) [] (enter 0 v w) refl refl (sym (append-nil w.shadows)) (node_count_lem v h) refl refl refl
      (nodup_snoc w.queue v i.nodup e) (all_append (Node n) w.queue (v ∷ []) i.inside (h, tt))
      (λ q r eq z. ap (λ (p : ℕ). p ∷ []) (sym (ap (number_in v) (eq ∙ append_snoc w.queue v r) ∙ number_new v w.queue r e)))

  inv_old : (v : ℕ) (w : Walk) (line : List ℕ) → Node n v → Inv n w line → (k : ℕ) → number_in v w.queue ≡ suc k → Inv n (enter (suc k) v w) (line ++ v ∷ [])
  unfolding operand_numbers
  inv_old v w line h i k e =
      inv_step w line i 2 v [] (suc k ∷ []) (enter (suc k) v w) (sym (append-nil w.queue)) refl refl (node_count_lem v h) refl refl refl
      i.nodup i.inside
      (λ q r eq z. ap (λ (p : ℕ). p ∷ []) (sym (ap (number_in v) eq ∙ number_in_lem v k w.queue r e)))

  inv_close : (w : Walk) (line : List ℕ) → Inv n w line → Inv n (close w) (line ++ 0 ∷ [])
  unfolding operand_numbers
  inv_close w line i =
      inv_step w line i 0 0 [] [] (close w) (sym (append-nil w.queue)) refl (sym (append-nil w.shadows)) refl refl refl refl
      i.nodup i.inside (λ q r eq z. ap (λ (p : ℕ). p ∷ []) (sym z))

  inv_see : (v : ℕ) (w : Walk) (line : List ℕ) → Node n v → Inv n w line → Inv n (see v w) (line ++ v ∷ [])
  inv_see v w line h i = see_cases (λ (x : Walk). Inv n x (line ++ v ∷ [])) v w (inv_new v w line h i) (inv_old v w line h i)

  inv_see_all : (vs : List ℕ) (w : Walk) (line : List ℕ) → All (Node n) vs → Inv n w line → Inv n (see_all vs w) (line ++ vs)
  unfolding see_all
  inv_see_all [] w line a i = rw append-nil i
  inv_see_all (v ∷ vs) w line a i = rw append_snoc at (inv_see_all vs (see v w) (line ++ v ∷ []) a.1 (inv_see v w line a.0 i))

-- ---- the start is a visit of the super-root, whose operands are the roots

abbrev pub empty : Walk
empty = record { queue = []; trits = []; shadows = [] }

-- operands that are all new
see_all_new : (vs : List ℕ) (w : Walk) → Nodup (w.queue ++ vs)
    → see_all vs w ≡ record { queue = w.queue ++ vs; trits = w.trits ++ replicate (length vs) 1; shadows = w.shadows }
unfolding see_all
see_all_new [] w d = λ i. record { queue = sym (append-nil w.queue) i; trits = sym (append-nil w.trits) i; shadows = w.shadows }
see_all_new (v ∷ vs) w d =
    ap (see_all vs) (see_at v w 0 (nodup_mid w.queue v vs d))
    ∙ see_all_new vs (enter 0 v w) (rw append_snoc d)
    ∙ (λ i. record { queue = append_snoc w.queue v vs i; trits = append_snoc w.trits 1 (replicate (length vs) 1) i; shadows = w.shadows })

pub start_visit : (g : Graph) → Nodup g.roots → super_root g ≡ close (see_all g.roots empty)
unfolding super_root
start_visit g d = ap close (sym (see_all_new g.roots empty d))

inv_start : (g : Graph) → WellFormed g → Inv (nodes g) (super_root g) (g.roots ++ 0 ∷ [])
unfolding operand_numbers
inv_start g f =
    rw (start_visit g f.roots_nodup)
    (inv_close (nodes g) (see_all g.roots empty) g.roots
    (inv_see_all (nodes g) g.roots empty [] f.roots_inside
    (record { nodup = tt; inside = tt; size = refl; zeros = refl; ones = refl; twos = refl; kinds = refl; shows = λ q r e z. refl })))

-- ---- the queue only grows

abbrev pub Grows : List ℕ → Walk → Type 0
Grows q w = (r : List ℕ) × (w.queue ≡ q ++ r)

see_grows : (v : ℕ) (w : Walk) → Grows w.queue (see v w)
see_grows v w = see_cases (Grows w.queue) v w (λ e. (v ∷ [], refl)) (λ k e. ([], sym (append-nil w.queue)))

pub see_all_grows : (vs : List ℕ) (w : Walk) → Grows w.queue (see_all vs w)
unfolding see_all
see_all_grows [] w = ([], sym (append-nil w.queue))
see_all_grows (v ∷ vs) w =
    let a = see_grows v w in
    let b = see_all_grows vs (see v w) in
    (a.0 ++ b.0, b.1 ∙ ap (λ (l : List ℕ). l ++ b.0) a.1 ∙ append_assoc w.queue a.0 b.0)

taken_grows : (g : Graph) (q l : List ℕ) (w : Walk) → Grows q w → Grows q (taken g l w)
unfolding visit
taken_grows g q [] w a = a
taken_grows g q (v ∷ l) w a =
    let b = see_all_grows (operands_of g v) w in
    (a.0 ++ b.0, b.1 ∙ ap (λ (x : List ℕ). x ++ b.0) a.1 ∙ append_assoc q a.0 b.0)

pub turns_grows : (g : Graph) (i : ℕ) → Grows g.roots (turns g i)
unfolding turns super_root
turns_grows g zero = ([], sym (append-nil g.roots))
turns_grows g (suc i) = taken_grows g g.roots (drop i (turns g i).queue) (turns g i) (turns_grows g i)

-- ---- the line of a whole walk: the operands of the nodes taken, a 0 after each node's

unfoldable pub rows_of : Graph → List ℕ → List ℕ
rows_of g [] = []
rows_of g (v ∷ vs) = operands_of g v ++ 0 ∷ rows_of g vs

rows_of_snoc : (g : Graph) (vs : List ℕ) (v : ℕ) → rows_of g (vs ++ v ∷ []) ≡ rows_of g vs ++ operands_of g v ++ 0 ∷ []
unfolding rows_of
rows_of_snoc g [] v = refl
rows_of_snoc g (u ∷ vs) v =
    ap (λ (l : List ℕ). operands_of g u ++ 0 ∷ l) (rows_of_snoc g vs v)
    ∙ simp append_assoc

abbrev pub Turned : Graph → ℕ → Walk → Type 0
Turned g i w = Inv (nodes g) w (g.roots ++ 0 ∷ rows_of g (take i w.queue))

inv_taken : (g : Graph) → WellFormed g → (i : ℕ) (w : Walk) (l : List ℕ) → drop i w.queue ≡ l → Turned g i w → Turned g (suc i) (taken g l w)
unfolding visit
inv_taken g f i w [] e h = rw (take_end i w.queue e) h
inv_taken g f i w (v ∷ rest) e h =
    let s = see_all_grows (operands_of g v) w in
    let t : take (suc i) (see_all (operands_of g v) w).queue ≡ take i w.queue ++ v ∷ [] =
    ap (take (suc i)) s.1 ∙ take_next i w.queue v rest s.0 e in
    rw (t, rows_of_snoc) (simp append_assoc
    (simp append_assoc at (inv_close (nodes g) (see_all (operands_of g v) w) (g.roots ++ 0 ∷ rows_of g (take i w.queue) ++ operands_of g v)
    (inv_see_all (nodes g) (operands_of g v) w (g.roots ++ 0 ∷ rows_of g (take i w.queue)) (operands_inside g f v) h))))

pub inv_turns : (g : Graph) → WellFormed g → (i : ℕ) → Turned g i (turns g i)
unfolding turns rows_of
inv_turns g f zero = inv_start g f
inv_turns g f (suc i) = inv_taken g f i (turns g i) (drop i (turns g i).queue) refl (inv_turns g f i)
