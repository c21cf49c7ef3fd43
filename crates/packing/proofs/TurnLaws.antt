-- The walk by one node more, out of the table and the buffer, and to its end. Assumes nothing.
use mathlib.Core.Path.{◌≡◌, refl, sym, ap, ◌∙◌, subst}
use mathlib.Core.List.{List, [], ◌∷◌, ◌++◌}
use Prim.Native.Nat.{ℕ, zero, suc, ◌+◌, ◌-◌, ◌*◌, ◌≤◌, ◌<◌}
use native.Mathlib.Nat.{add-zero, add-suc}
use native.Mathlib.Numerals.{add-one, one-add}
use native.Mathlib.Omega.{arith}
use lib.ListN.{length, get_or, take, drop, replicate, length-replicate, get_or-replicate, length-append, length-take, length-drop, take-append-drop, drop_of_length-le}
use lib.Seq.{take-suc, take_all, drop-cons, get_or-take, get_or-drop, length-take-le}
use Rattle.format.specs.Lists.{All, each, over, one_to, number_in, sum_of}
use Rattle.format.specs.Table.{Graph, nodes, edges, operands_of, Node, WellFormed}
use Rattle.format.specs.Level.{Walk, see, see_all, close, visit, super_root, taken, turns, walk}
use Rattle.format.proofs.Laws.{run_snoc, length_each, get_or_each}
use Rattle.format.proofs.Places.{all_at, perm_sum, sum_append, take_end, take_next}
use Rattle.format.proofs.Cutting.{operand_numbers}
use Rattle.format.proofs.Walks.{operands_inside, see_cases, see_all_grows, inv_turns, empty, start_visit}
use Rattle.format.proofs.Order.{fits, fits_length}
use Rattle.packing.specs.Work.{graph_of, Sized, start_of, seen_word, run_at, RunIn, Holding, Kept, Saw, WorkAt}
use Rattle.format.proofs.Over.{over_length, over_in, over_behind, over_all}
use Rattle.packing.proofs.RunLaws.{Run, operands_at_lem, formed, limits, operands_run, roots_run}
use Rattle.packing.proofs.HeldLaws.{held_close, queued, queued_node}

-- ---- the shadows are no more than the operands of the nodes taken, so at most m

see_all_shadows : (vs : List ℕ) (w : Walk) → length (see_all vs w).shadows ≤ length w.shadows + length vs
unfolding see_all
see_all_shadows [] w = omega arith
see_all_shadows (v ∷ vs) w =
    let one = see_cases (λ (x : Walk). length x.shadows ≤ length w.shadows + 1) v w (λ e. omega arith) (λ k e. omega (arith, length-append w.shadows (suc k ∷ []))) in
    omega (arith, see_all_shadows vs (see v w))

module _ (g : Graph) where
  -- how many operands a node has
  abbrev many : ℕ → ℕ
  many v = length (operands_of g v)

  shadows_taken : (i : ℕ) (w : Walk) (l : List ℕ) → drop i w.queue ≡ l → length w.shadows ≤ sum_of many (take i w.queue)
      → length (taken g l w).shadows ≤ sum_of many (take (suc i) (taken g l w).queue)
  unfolding visit sum_of
  shadows_taken i w [] e h = rw (take_end i w.queue e) h
  shadows_taken i w (v ∷ rest) e h =
      let s = see_all_grows (operands_of g v) w in
      rw (s.1, take_next i w.queue v rest s.0 e, sum_append) (omega (arith, see_all_shadows (operands_of g v) w))

  shadows_turns : (i : ℕ) → length (turns g i).shadows ≤ sum_of many (take i (turns g i).queue)
  unfolding turns super_root
  shadows_turns zero = omega arith
  shadows_turns (suc i) = shadows_taken i (turns g i) (drop i (turns g i).queue) refl (shadows_turns i)

  sum_nodes : (k : ℕ) → k ≤ nodes g → sum_of many (one_to k) ≡ sum_of length (take k g.operands)
  unfolding sum_of operands_of
  sum_nodes zero h = refl
  sum_nodes (suc k) h =
      let os = g.operands in
      omega (
        arith,
        ap (sum_of many) (run_snoc 1 k ∙ ap (λ (x : ℕ). one_to k ++ x ∷ []) (one-add k)),
        sum_append many (one_to k) (suc k ∷ []),
        sum_nodes k (omega arith),
        ap (sum_of length) (take-suc os k [] (omega arith)),
        sum_append length (take k os) (get_or os k [] ∷ []),
      )

  few_turn : WellFormed g → (i : ℕ) → i < length (turns g i).queue → length (turns g i).shadows + many (get_or (turns g i).queue i 0) ≤ edges g
  unfolding sum_of
  few_turn f i h =
      let q = (turns g i).queue in
      let p = fits (nodes g) q (inv_turns g f i).nodup (inv_turns g f i).inside in
      omega (
        arith,
        shadows_turns i,
        ap (sum_of many) (take-suc q i 0 h),
        sum_append many (take i q) (get_or q i 0 ∷ []),
        ap (sum_of many) (take-append-drop (suc i) q),
        sum_append many (take (suc i) q) (drop (suc i) q),
        sum_append many q p.0,
        perm_sum many p.1,
        sum_nodes (nodes g) (omega arith),
        ap (sum_of length) (take_all (nodes g) g.operands (omega arith)),
      )

-- ---- the operands of a run, one more

see_all_append : (us vs : List ℕ) (w : Walk) → see_all (us ++ vs) w ≡ see_all vs (see_all us w)
unfolding see_all
see_all_append [] vs w = refl
see_all_append (u ∷ us) vs w = see_all_append us vs (see u w)

pub saw_none : (n tail : ℕ) (work : List ℕ) → Saw n [] tail tail work work
unfolding see_all
saw_none n tail work = record { held = λ w h. h; kept = λ k b. refl }

pub saw_then : {n : ℕ} {us vs : List ℕ} {a b c : ℕ} {l l' l'' : List ℕ} → Saw n us a b l l' → Saw n vs b c l' l'' → Saw n (us ++ vs) a c l l''
saw_then {us = us} {vs = vs} p q = record {
  held = λ w h. rw (see_all_append us vs w) (q.held (see_all us w) (p.held w h));
  kept = λ k b. q.kept k b ∙ p.kept k b;
}

module _ {n at : ℕ} {t : List ℕ} (r : RunIn n at t) (j : ℕ) (h : j < get_or t at 0) where
  pub run_more : take (j + 1) (drop (at + 1) t) ≡ take j (drop (at + 1) t) ++ get_or t (at + 1 + j) 0 ∷ []
  run_more =
      let b : j < length (drop (at + 1) t) = omega (arith, r.inside, length-drop (at + 1) t) in
      rw (add-one j, take-suc (drop (at + 1) t) j 0 b, get_or-drop (at + 1) t j 0)

  pub run_node : Node n (get_or t (at + 1 + j) 0)
  run_node =
      subst (Node n) (get_or-take (get_or t at 0) (drop (at + 1) t) j 0 h ∙ get_or-drop (at + 1) t j 0)
      (all_at (Node n) (run_at at t) j 0 r.are_nodes (omega (arith, length-take-le (get_or t at 0) (drop (at + 1) t) (omega (arith, r.inside, length-drop (at + 1) t)))))

  -- there may be a shadow more
  pub one_more : {tail tail' : ℕ} {work work' : List ℕ} → Holding n tail (get_or t at 0) work → Saw n (take j (drop (at + 1) t)) tail tail' work work'
      → Holding n tail' 1 work'
  one_more p s = record {
    w = see_all (take j (drop (at + 1) t)) p.w;
    held = s.held p.w p.held;
    few = omega (arith, p.few, see_all_shadows (take j (drop (at + 1) t)) p.w, length-take j (drop (at + 1) t));
  }

-- ---- one node taken

-- what is seen from the count at `at` on takes the walk from w to w'
pub record Turn (t : List ℕ) (n at : ℕ) (w w' : Walk) : Type 0 where
  pub run_in : RunIn n at t
  pub few : length w.shadows + get_or t at 0 ≤ 65535
  pub next : w' ≡ close (see_all (run_at at t) w)

module _ {t : List ℕ} {n : ℕ} (s : Sized t n) where
  abbrev g : Graph
  g = graph_of t

  turn_run : (at : ℕ) (xs : List ℕ) (w w' : Walk) → Run t at xs → All (Node (nodes g)) xs → length w.shadows + length xs ≤ 65535 → w' ≡ close (see_all xs w)
      → Turn t n at w w'
  turn_run at xs w w' r a few next = record {
    run_in = record { inside = omega (arith, r.many, r.inside); are_nodes = rw (r.are, ← s.many) a };
    few = omega (arith, r.many);
    next = rw r.are next;
  }

  -- node v, at place i of the queue after i turns
  pub turn_at : (i v at : ℕ) → i < length (turns g i).queue → v ≡ get_or (turns g i).queue i 0 → Node n v → at ≡ start_of g (v - 1)
      → Turn t n at (turns g i) (turns g (i + 1))
  unfolding turns visit
  turn_at i v at h e hv ea =
      let r : Run t at (operands_of g v) = rw (ea, operands_at_lem g v hv.0) (operands_run s (v - 1) (omega (arith, hv))) in
      turn_run at (operands_of g v) (turns g i) (turns g (i + 1)) r (operands_inside g (formed s) v)
      (omega (arith, few_turn g (formed s) i h, (limits s).edges_fit, ap (λ (x : ℕ). length (operands_of g x)) e))
      (rw (add-one, drop-cons (turns g i).queue i 0 h, e))

  -- the roots, which are the operands of the super-root
  pub turn_first : (at : ℕ) → at ≡ start_of g n → Turn t n at empty (turns g 0)
  unfolding turns
  turn_first at ea =
      let f = formed s in
      turn_run at g.roots empty (turns g 0) (rw ea (roots_run s)) f.roots_inside
      (omega (arith, (limits s).nodes_fit, fits_length (nodes g) g.roots f.roots_nodup f.roots_inside)) (start_visit g f.roots_nodup)

-- in the buffer
pub worked : {t : List ℕ} {n at : ℕ} {w w' : Walk} {tail tail' : ℕ} {work work' : List ℕ} → WorkAt t n w tail work → Turn t n at w w'
    → Saw n (run_at at t) tail tail' work work' → WorkAt t n w' tail' work'
worked {w = w} h u a = record {
  sized = h.sized;
  starts = λ i b. a.kept i (λ y z. omega arith) ∙ h.starts i b;
  held = rw u.next (held_close (a.held w h.held));
}

module _ {t : List ℕ} {n i tail : ℕ} {work : List ℕ} (h : WorkAt t n (turns (graph_of t) i) tail work) (b : i < tail) (v : ℕ) (is : v ≡ get_or work (2 * n + i) 0) where
  pub next_node : Node n v
  next_node = queued_node h.held i b v is

  pub next_turn : (at : ℕ) → at ≡ get_or work (v - 1) 0 → Turn t n at (turns (graph_of t) i) (turns (graph_of t) (i + 1))
  next_turn at ea =
      turn_at h.sized i v at (omega (arith, h.held.tail_is)) (queued h.held i b v is) next_node (ea ∙ h.starts (v - 1) (omega (arith, next_node)))

-- ---- the beginning and the end of the walk

pub begun : {t : List ℕ} {n : ℕ} {work₁ work₂ : List ℕ} (work : List ℕ) → Sized t n → 3 * n ≤ length work → work₁ ≡ over (replicate (3 * n) 0) work
    → work₂ ≡ over (each n (start_of (graph_of t))) work₁ → WorkAt t n empty 0 work₂ × Kept 0 (3 * n) work work₂
unfolding seen_word number_in operand_numbers
begun {t} {n} {work₁} {work₂} work s b e₁ e₂ =
    let zeros = over_all (replicate (3 * n) 0) (3 * n) work (length-replicate {A = ℕ} (3 * n) 0) b in
    let l₁ : length work₁ ≡ length work = ap length e₁ ∙ over_length zeros in
    let starts = over_all (each n (start_of (graph_of t))) n work₁ (length_each n (start_of (graph_of t))) (omega arith) in
    let l₂ : length work₂ ≡ length work₁ = ap length e₂ ∙ over_length starts in
    let same : (k : ℕ) → n ≤ k → get_or work₂ k 0 ≡ get_or (over (replicate (3 * n) 0) work) k 0 = λ k h. rw (e₂, ← e₁) (over_behind starts k h) in
    let zero_at : (k : ℕ) → n ≤ k → k < 3 * n → get_or work₂ k 0 ≡ 0 = λ k h b. same k h ∙ over_in zeros k b ∙ get_or-replicate {A = ℕ} (3 * n) k 0 0 b in (
      record {
        sized = s;
        starts = λ i h. rw e₂ (over_in starts i h ∙ get_or_each n (start_of (graph_of t)) i 0 h);
        held = record {
          room = omega arith;
          small = omega (arith, (limits s).nodes_fit, s.many);
          tail_is = refl;
          fits = omega arith;
          sound = record { nodup = tt; inside = tt; ones = refl; twos = refl };
          below = tt;
          seen = λ v h. zero_at (n + v - 1) (omega (arith, h)) (omega (arith, h));
          order = λ i h. absurd (omega arith);
          spare = λ i h b. zero_at (2 * n + i) (omega arith) (omega arith);
        };
      },
      λ k h. let out : k < 3 * n → ⊥ = h (omega arith) in same k (omega arith) ∙ over_behind zeros k (omega arith),
    )

module _ (g : Graph) (i : ℕ) (done : length (turns g i).queue ≤ i) where
  stays : (k : ℕ) → turns g (i + k) ≡ turns g i
  unfolding turns
  stays zero = ap (turns g) (add-zero i)
  stays (suc k) = ap (turns g) (add-suc i k) ∙ rw (stays k, drop_of_length-le (turns g i).queue {i = i + k} (omega arith)) refl

  pub walk_done : i ≤ nodes g → turns g i ≡ walk g
  unfolding walk
  walk_done h = let e : i + (nodes g - i) ≡ nodes g = omega arith in sym (stays (nodes g - i)) ∙ ap (turns g) e
