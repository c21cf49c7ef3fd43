-- Where a table that is read has the operands of each node, and the roots. Assumes nothing.
use mathlib.Core.Path.{◌≡◌, refl, sym, ap, ◌∙◌}
use mathlib.Core.List.{List, [], ◌∷◌, ◌++◌, append_assoc, append-nil}
use Prim.Native.Nat.{ℕ, zero, suc, ◌+◌, ◌-◌, ◌≤◌, ◌<◌}
use native.Mathlib.Nat.{add-zero}
use native.Mathlib.Numerals.{add-one}
use native.Mathlib.Omega.{arith}
use lib.ListN.{length, get_or, take, drop, length-append, length-take, length-drop, take-append-drop, drop_of_length-le}
use lib.Seq.{take-suc, drop-cons, get_or-take, get_or-drop, drop-append_seam, take-append_seam, drop-drop}
use Rattle.format.specs.Table.{Graph, nodes, operands_of, Node, counted, list_words, words, WellFormed, WithinLimits}
use Rattle.format.proofs.Reading.{words_read}
use Rattle.format.proofs.Outcomes.{length_runs}
use Rattle.packing.specs.Work.{graph_of, Sized, start_of, run_at}

-- an element of a part of a list
pub part_at : (l : List ℕ) (a b i : ℕ) → i < length (take (b - a) (drop a l)) → get_or (take (b - a) (drop a l)) i 0 ≡ get_or l (a + i) 0
part_at l a b i h = get_or-take (b - a) (drop a l) i 0 (omega (arith, length-take (b - a) (drop a l))) ∙ get_or-drop a l i 0

-- xs stand in the table, after their count at p
pub record Run (t : List ℕ) (p : ℕ) (xs : List ℕ) : Type 0 where
  pub many : get_or t p 0 ≡ length xs
  pub are : run_at p t ≡ xs
  pub inside : p + 1 + length xs ≤ length t

run_at_lem : (t : List ℕ) (p : ℕ) (xs rest : List ℕ) → drop p t ≡ counted xs ++ rest → Run t p xs
run_at_lem t p xs rest e =
    let many : get_or t p 0 ≡ length xs = ap (λ (x : ℕ). get_or t x 0) (sym (add-zero p)) ∙ sym (get_or-drop p t 0 0) ∙ ap (λ (l : List ℕ). get_or l 0 0) e in
    record {
      many = many;
      are = rw (many, ← drop-drop 1 p t, e) (take-append_seam xs rest);
      inside = omega (arith, length-drop p t, ap length e, length-append xs rest);
    }

runs_append : (a b : List (List ℕ)) → list_words (a ++ b) ≡ list_words a ++ list_words b
unfolding list_words
runs_append [] b = refl
runs_append (x ∷ a) b = ap (λ (l : List ℕ). counted x ++ l) (runs_append a b) ∙ sym (append_assoc (counted x) (list_words a) (list_words b))

pub operands_at_lem : (g : Graph) (v : ℕ) → 1 ≤ v → operands_of g v ≡ get_or g.operands (v - 1) []
unfolding operands_of
operands_at_lem g zero h = absurd (omega arith)
operands_at_lem g (suc i) h = ap (λ (x : ℕ). get_or g.operands x []) (omega arith)

module _ (g : Graph) (i : ℕ) where
  cut : list_words g.operands ≡ list_words (take i g.operands) ++ list_words (drop i g.operands)
  cut = ap list_words (sym (take-append-drop i g.operands)) ∙ runs_append (take i g.operands) (drop i g.operands)

  rest_at : drop (start_of g i) (words g) ≡ list_words (drop i g.operands) ++ counted g.roots
  unfolding words start_of
  rest_at = rw (cut, append_assoc) (drop-append_seam (list_words (take i g.operands)) (list_words (drop i g.operands) ++ counted g.roots))

  pub start_next : i < nodes g → start_of g (i + 1) ≡ start_of g i + 1 + length (get_or g.operands i [])
  unfolding start_of list_words
  start_next h =
      let os = g.operands in
      let xs : List ℕ = get_or os i [] in
      rw (add-one, take-suc os i [] h)
      (omega (arith, ap length (runs_append (take i os) (xs ∷ [])), length-append (list_words (take i os)) (counted xs ++ []), length-append xs []))

  pub start_small : WithinLimits g → start_of g i ≤ 95536
  unfolding start_of
  start_small l = omega (arith, l.nodes_fit, l.edges_fit, length_runs g.operands, ap length cut, length-append (list_words (take i g.operands)) (list_words (drop i g.operands)))

pub start_first : (g : Graph) → 1 ≡ start_of g 0
unfolding start_of list_words
start_first g = refl

module _ {t : List ℕ} {n : ℕ} (s : Sized t n) where
  abbrev g : Graph
  g = graph_of t

  pub are_words : t ≡ words g
  are_words = (words_read t g s.read).0

  pub formed : WellFormed g
  formed = (words_read t g s.read).1

  pub limits : WithinLimits g
  limits = (words_read t g s.read).2

  run_here : (i : ℕ) (xs rest : List ℕ) → list_words (drop i g.operands) ++ counted g.roots ≡ counted xs ++ rest → Run t (start_of g i) xs
  run_here i xs rest e = run_at_lem t (start_of g i) xs rest (ap (drop (start_of g i)) are_words ∙ rest_at g i ∙ e)

  pub operands_run : (i : ℕ) → i < n → Run t (start_of g i) (get_or g.operands i [])
  unfolding list_words
  operands_run i h =
      let os = g.operands in
      let xs : List ℕ = get_or os i [] in
      run_here i xs (list_words (drop (suc i) os) ++ counted g.roots)
      (rw (drop-cons os i [] (omega (arith, s.many))) (append_assoc (counted xs) (list_words (drop (suc i) os)) (counted g.roots)))

  pub roots_run : Run t (start_of g n) g.roots
  unfolding list_words
  roots_run = run_here n g.roots [] (rw (drop_of_length-le g.operands {i = n} (omega (arith, s.many)), append-nil) refl)

  -- a node's operands end where the next count stands
  pub operands_end : (v : ℕ) → Node n v → (at : ℕ) → at ≡ start_of g (v - 1) → at + 1 + get_or t at 0 ≡ start_of g v
  operands_end v h at e =
      let k : v - 1 + 1 ≡ v = omega (arith, h) in
      rw e (omega (arith, (operands_run (v - 1) (omega (arith, h))).many, start_next g (v - 1) (omega (arith, h, s.many)), ap (start_of g) k))
