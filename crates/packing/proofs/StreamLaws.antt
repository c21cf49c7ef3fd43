-- One trit more: where the cursor stands, the walk has still to write that trit and then the rest. Assumes nothing.
use mathlib.Core.Path.{◌≡◌, refl, sym, ap, ◌∙◌}
use mathlib.Core.List.{List, [], ◌∷◌, ◌++◌, append_assoc, append-nil, append_cancel_left}
use Prim.Native.Nat.{ℕ, zero, suc, ◌+◌, ◌-◌, ◌*◌, ◌%◌, ◌^◌, ◌≤◌, ◌<◌}
use native.Mathlib.Nat.{add-zero, add-suc, pow-zero, pow-succ'}
use native.Mathlib.Numerals.{add-one}
use native.Mathlib.Omega.{arith}
use lib.ListN.{length, get_or, take, drop, length-append, get_or-append}
use lib.Seq.{take-nil, drop-drop}
use Rattle.format.specs.Lists.{All, number_in, count_in, horner}
use Rattle.format.specs.Table.{Graph, nodes, operands_of, Node}
use Rattle.format.specs.Level.{Walk, enter, see, see_all, close, visit, taken, turns, walk}
use Rattle.format.proofs.Laws.{count_append}
use Rattle.format.proofs.Places.{number_in_lem, number_new, number_le}
use Rattle.format.proofs.Outcomes.{length_words}
use Rattle.format.proofs.Walks.{see_at, see_cases, empty}
use Rattle.packing.specs.Work.{graph_of, Sized, start_of}
use Rattle.packing.specs.Walked.{Walked}
use Rattle.packing.specs.Stream.{plus, row_end, Stands, Rest, Wrote, Took}
use Rattle.packing.specs.declared.stream.Cursor.{Cursor}
use Rattle.packing.proofs.ScanLaws.{word_in}
use Rattle.packing.proofs.RunLaws.{are_words, roots_run, operands_end}
use Rattle.packing.proofs.HeldLaws.{seen_mod, queued, queued_node}
use Rattle.packing.proofs.PackLaws.{roots_at}
use Rattle.packing.proofs.TurnLaws.{Turn, turn_at, turn_first, walk_done}

-- ---- what walks write, one after the other

plus_assoc : (a b c : Walk) → plus (plus a b) c ≡ plus a (plus b c)
plus_assoc a b c = λ i. record {
  queue = append_assoc a.queue b.queue c.queue i;
  trits = append_assoc a.trits b.trits c.trits i;
  shadows = append_assoc a.shadows b.shadows c.shadows i;
}

plus_empty : (a : Walk) → plus a empty ≡ a
plus_empty a = λ i. record { queue = append-nil a.queue i; trits = append-nil a.trits i; shadows = append-nil a.shadows i }

-- one trit, with a node that enters the queue or a shadow
abbrev piece : List ℕ → ℕ → List ℕ → Walk
piece qs t hs = record { queue = qs; trits = t ∷ []; shadows = hs }

new_piece : (v : ℕ) (w : Walk) → enter 0 v w ≡ plus w (piece (v ∷ []) 1 [])
new_piece v w = λ i. record { queue = w.queue ++ v ∷ []; trits = w.trits ++ 1 ∷ []; shadows = sym (append-nil w.shadows) i }

old_piece : (k v : ℕ) (w : Walk) → enter (suc k) v w ≡ plus w (piece [] 2 (suc k ∷ []))
old_piece k v w = λ i. record { queue = sym (append-nil w.queue) i; trits = w.trits ++ 2 ∷ []; shadows = w.shadows ++ suc k ∷ [] }

end_piece : (w : Walk) → close w ≡ plus w (piece [] 0 [])
end_piece w = λ i. record { queue = sym (append-nil w.queue) i; trits = w.trits ++ 0 ∷ []; shadows = sym (append-nil w.shadows) i }

-- ---- a walk only grows

record Onto (w w' : Walk) : Type 0 where
  more : Walk
  is : w' ≡ plus w more

onto_refl : (w : Walk) → Onto w w
onto_refl w = record { more = empty; is = sym (plus_empty w) }

onto_trans : {u v w : Walk} → Onto u v → Onto v w → Onto u w
onto_trans {u} a b = record { more = plus a.more b.more; is = b.is ∙ ap (λ (x : Walk). plus x b.more) a.is ∙ plus_assoc u a.more b.more }

onto_see : (v : ℕ) (w : Walk) → Onto w (see v w)
onto_see v w = see_cases (Onto w) v w (λ e. record { more = piece (v ∷ []) 1 []; is = new_piece v w }) (λ k e. record { more = piece [] 2 (suc k ∷ []); is = old_piece k v w })

onto_row : (vs : List ℕ) (w : Walk) → Onto w (close (see_all vs w))
unfolding see_all
onto_row [] w = record { more = piece [] 0 []; is = end_piece w }
onto_row (v ∷ vs) w = onto_trans (onto_see v w) (onto_row vs (see v w))

onto_taken : (g : Graph) (l : List ℕ) (w : Walk) → Onto w (taken g l w)
unfolding visit
onto_taken g [] w = onto_refl w
onto_taken g (v ∷ l) w = onto_row (operands_of g v) w

onto_turns : (g : Graph) (i k : ℕ) → Onto (turns g i) (turns g (i + k))
unfolding turns
onto_turns g i zero = rw (add-zero i) (onto_refl (turns g i))
onto_turns g i (suc k) = rw (add-suc i k) (onto_trans (onto_turns g i k) (onto_taken g (drop (i + k) (turns g (i + k)).queue) (turns g (i + k))))

onto_walk : (g : Graph) (i : ℕ) → i ≤ nodes g → Onto (turns g i) (walk g)
unfolding walk
onto_walk g i h = let e : i + (nodes g - i) ≡ nodes g = omega arith in rw e at (onto_turns g i (nodes g - i))

-- ---- where the rows end, and what an operand writes

roots_end : {t : List ℕ} {n : ℕ} → Sized t n → (at : ℕ) → at ≡ start_of (graph_of t) n → at + 1 + get_or t at 0 ≡ row_end t 0
unfolding row_end
roots_end {t} s at e = rw e (omega (arith, roots_at s, (roots_run s).many, ap length (are_words s), length_words (graph_of t), s.many))

row_end_next : (t : List ℕ) (i v : ℕ) → v ≡ get_or (walk (graph_of t)).queue i 0 → row_end t (i + 1) ≡ start_of (graph_of t) v
unfolding row_end
row_end_next t i v e = rw (add-one i, e) refl

see_zeros : (v : ℕ) (w : Walk) → count_in 0 (see v w).trits ≡ count_in 0 w.trits
see_zeros v w =
    see_cases (λ (x : Walk). count_in 0 x.trits ≡ count_in 0 w.trits) v w (λ e. omega (arith, count_append 0 w.trits (1 ∷ []))) (λ k e. omega (arith, count_append 0 w.trits (2 ∷ [])))

see_ones : (v : ℕ) (w : Walk) → length w.queue ≡ count_in 1 w.trits → length (see v w).queue ≡ count_in 1 (see v w).trits
see_ones v w h =
    see_cases (λ (x : Walk). length x.queue ≡ count_in 1 x.trits) v w
    (λ e. omega (arith, count_append 1 w.trits (1 ∷ []), length-append w.queue (v ∷ []))) (λ k e. omega (arith, count_append 1 w.trits (2 ∷ [])))

-- the cursor at the beginning of a row, which ends with turn i
stands_row : {t : List ℕ} {n at : ℕ} {w : Walk} (i : ℕ) → Turn t n at w (turns (graph_of t) i) → i ≤ n → (j : ℕ) → j ≡ get_or t at 0
    → at + 1 + j ≡ row_end t i → i ≡ count_in 0 w.trits → (o : ℕ) → o ≡ length w.queue → o ≡ count_in 1 w.trits
    → Stands t n w (record { i = i; at = at + 1; left = j; ones = o })
stands_row i u h j ej ee er o eo ew = record {
  rows = er;
  reals = ew;
  ends = λ y. ee;
  ones = eo;
  inside = omega (arith, u.run_in.inside);
  are_nodes = rw ej u.run_in.are_nodes;
  row = λ y. u.next ∙ rw ej refl;
  past = λ y. absurd (omega arith);
}

-- before the first trit
pub begin : {t : List ℕ} {n : ℕ} {work : List ℕ} → Walked t n work → (at : ℕ) → at ≡ start_of (graph_of t) n → (j : ℕ) → j ≡ get_or t at 0
    → Rest t n (walk (graph_of t)) (record { i = 0; at = at + 1; left = j; ones = 0 })
begin k at ea j ej = record {
  sofar = empty;
  stands = stands_row 0 (turn_first k.sized at ea) (omega arith) j ej (rw ej (roots_end k.sized at ea)) refl 0 refl refl;
  all = refl;
  twos = k.held.sound.twos;
}

-- ---- one trit

module _ {t : List ℕ} {n : ℕ} {left : Walk} {c : Cursor} (r : Rest t n left c) where
  abbrev g : Graph
  g = graph_of t

  abbrev so : Walk
  so = r.sofar

  wrote : (qs : List ℕ) (a : ℕ) (hs : List ℕ) (w : Walk) (c' : Cursor) → w ≡ plus so (piece qs a hs) → count_in 2 (a ∷ []) ≡ length hs
      → Onto w (walk g) → Stands t n w c' → Wrote t n a hs left c'
  wrote qs a hs w c' ew two o s =
      let l = o.more in
      let e : plus so left ≡ plus so (plus (piece qs a hs) l) = sym r.all ∙ o.is ∙ ap (λ (x : Walk). plus x l) ew ∙ plus_assoc so (piece qs a hs) l in
      let et : left.trits ≡ a ∷ l.trits = append_cancel_left so.trits left.trits (a ∷ l.trits) (ap (λ (x : Walk). x.trits) e) in
      let eh : left.shadows ≡ hs ++ l.shadows = append_cancel_left so.shadows left.shadows (hs ++ l.shadows) (ap (λ (x : Walk). x.shadows) e) in
      record {
        next = l;
        trits = et;
        shadows = eh;
        rest = record { sofar = w; stands = s; all = o.is; twos = omega (arith, r.twos, ap (count_in 2) et, ap length eh, length-append hs l.shadows) };
      }

  -- ---- an operand, v

  module _ {work : List ℕ} (k : Walked t n work) (more : 0 < c.left) (v : ℕ) (is : v ≡ get_or t c.at 0) where
    abbrev after : List ℕ
    after = take (c.left - 1) (drop (c.at + 1) t)

    split : take c.left (drop c.at t) ≡ v ∷ after
    split =
        let e : c.left ≡ suc (c.left - 1) = omega arith in
        let b : c.at < length t = omega (arith, r.stands.inside) in
        ap (λ (j : ℕ). take j (drop c.at t)) e ∙ rw (word_in t c.at b, ← is)

    both : Node n v × All (Node n) after
    both = rw split at r.stands.are_nodes

    pub operand_node : Node n v
    operand_node = both.0

    upto : c.i ≤ n
    upto = let no : n < c.i → ⊥ = λ h. absurd (omega (arith, (r.stands.past h).0)) in omega (arith, no)

    row : turns g c.i ≡ close (see_all after (see v so))
    unfolding see_all
    row = rw split at (r.stands.row upto)

    onto : Onto (see v so) (walk g)
    onto = onto_trans (rw row (onto_row after (see v so))) (onto_walk g c.i (omega (arith, upto, k.sized.many)))

    stands_next : (o : ℕ) → o ≡ length (see v so).queue → Stands t n (see v so) (record { i = c.i; at = c.at + 1; left = c.left - 1; ones = o })
    stands_next o e = record {
      rows = r.stands.rows ∙ sym (see_zeros v so);
      reals = e ∙ see_ones v so (sym r.stands.ones ∙ r.stands.reals);
      ones = e;
      inside = omega (arith, r.stands.inside);
      are_nodes = both.1;
      row = λ h. row;
      ends = λ h. omega (arith, r.stands.ends h);
      past = λ h. absurd (omega (arith, upto));
    }

    pub ones_small : c.ones ≤ n
    ones_small =
        let o = onto_trans (onto_see v so) onto in
        omega (arith, r.stands.ones, ap (λ (x : Walk). length x.queue) o.is, length-append so.queue o.more.queue, k.held.tail_is)

    -- its level number is what it is after it was seen
    in_walk : (j : ℕ) → number_in v (see v so).queue ≡ suc j → number_in v (walk g).queue ≡ suc j
    in_walk j e = ap (λ (x : Walk). number_in v x.queue) onto.is ∙ number_in_lem v j (see v so).queue onto.more.queue e

    level_old : (j : ℕ) → number_in v so.queue ≡ suc j → number_in v (walk g).queue ≡ suc j
    level_old j e = in_walk j (ap (λ (x : Walk). number_in v x.queue) (see_at v so (suc j) e) ∙ e)

    level_new : number_in v so.queue ≡ 0 → number_in v (walk g).queue ≡ suc (length so.queue)
    level_new e = in_walk (length so.queue) (ap (λ (x : Walk). number_in v x.queue) (see_at v so 0 e) ∙ number_new v so.queue [] e)

    -- p is its level number, out of its word
    module _ (p : ℕ) (ep : p ≡ get_or work (n + v - 1) 0 % 65536) where
      level : p ≡ number_in v (walk g).queue
      level = ep ∙ ap (λ (m : ℕ). m % 65536) (k.held.seen v operand_node) ∙ seen_mod (number_in v (walk g).queue) (walk g).shadows
          (omega (arith, number_le v (walk g).queue, k.held.tail_is, k.held.small))

      pub real : p ≡ c.ones + 1 → Wrote t n 1 [] left (record { i = c.i; at = c.at + 1; left = c.left - 1; ones = p })
      real f = go (number_in v so.queue) refl
        where
          go : (q : ℕ) → number_in v so.queue ≡ q → Wrote t n 1 [] left (record { i = c.i; at = c.at + 1; left = c.left - 1; ones = p })
          go zero e =
              let s = see_at v so 0 e in
              wrote (v ∷ []) 1 [] (see v so) _ (s ∙ new_piece v so) refl onto
              (stands_next p (omega (arith, r.stands.ones, ap (λ (x : Walk). length x.queue) s, length-append so.queue (v ∷ []))))
          go (suc j) e = absurd (omega (arith, level, level_old j e, r.stands.ones, number_le v so.queue))

      pub shadow : (p ≡ c.ones + 1 → ⊥) → Wrote t n 2 (p ∷ []) left (record { i = c.i; at = c.at + 1; left = c.left - 1; ones = c.ones })
      shadow f = go (number_in v so.queue) refl
        where
          go : (q : ℕ) → number_in v so.queue ≡ q → Wrote t n 2 (p ∷ []) left (record { i = c.i; at = c.at + 1; left = c.left - 1; ones = c.ones })
          go zero e = absurd (f (omega (arith, level, level_new e, r.stands.ones)))
          go (suc j) e =
              let s = see_at v so (suc j) e in
              let z : suc j ≡ p = sym (level ∙ level_old j e) in
              wrote [] 2 (p ∷ []) (see v so) _ (s ∙ old_piece j v so ∙ ap (λ (x : ℕ). plus so (piece [] 2 (x ∷ []))) z) refl onto
              (stands_next c.ones (r.stands.ones ∙ sym (ap (λ (x : Walk). length x.queue) s)))

  -- ---- a row's end

  module _ {work : List ℕ} (k : Walked t n work) (none : c.left ≡ 0) where
    row_end_lem : c.i ≤ n → turns g c.i ≡ close so
    unfolding see_all
    row_end_lem h = rw none at (r.stands.row h)

    ended : (c' : Cursor) → c.i ≤ n → Stands t n (turns g c.i) c' → Wrote t n 0 [] left c'
    ended c' h s = wrote [] 0 [] (turns g c.i) c' (row_end_lem h ∙ end_piece so) refl (onto_walk g c.i (omega (arith, k.sized.many))) s

    ones_end : c.i ≤ n → c.ones ≡ length (turns g c.i).queue
    ones_end h = r.stands.ones ∙ ap (λ (x : Walk). length x.queue) (sym (row_end_lem h))

    counts_end : c.i ≤ n → (c.i + 1 ≡ count_in 0 (turns g c.i).trits) × (c.ones ≡ count_in 1 (turns g c.i).trits)
    counts_end h =
        let w = row_end_lem h in (
          omega (arith, r.stands.rows, ap (λ (x : Walk). count_in 0 x.trits) w, count_append 0 so.trits (0 ∷ [])),
          omega (arith, r.stands.reals, ap (λ (x : Walk). count_in 1 x.trits) w, count_append 1 so.trits (0 ∷ [])),
        )

    -- the next node, v, is taken
    module _ (h : c.i < n) (v : ℕ) (is : v ≡ get_or work (2 * n + c.i) 0) where
      pub taken_node : Node n v
      taken_node = queued_node k.held c.i h v is

      pub taken_turn : (at : ℕ) → at ≡ get_or work (v - 1) 0 → Turn t n at (turns g c.i) (turns g (c.i + 1))
      taken_turn at ea =
          let q = (turns g c.i).queue in
          let o = onto_walk g c.i (omega (arith, k.sized.many)) in
          let no : length q ≤ c.i → ⊥ =
          λ d. absurd (omega (arith, d, k.held.tail_is, ap (λ (x : Walk). length x.queue) (walk_done g c.i d (omega (arith, k.sized.many))))) in
          let inq : c.i < length q = omega (arith, no) in
          turn_at k.sized c.i v at inq
          (queued k.held c.i h v is ∙ ap (λ (x : Walk). get_or x.queue c.i 0) o.is ∙ get_or-append q o.more.queue 0 c.i inq)
          taken_node (ea ∙ k.starts (v - 1) (omega (arith, taken_node)))

      pub opened : (at : ℕ) → at ≡ get_or work (v - 1) 0 → (j : ℕ) → j ≡ get_or t at 0 → Wrote t n 0 [] left (record { i = c.i + 1; at = at + 1; left = j; ones = c.ones })
      opened at ea j ej =
          let z = counts_end (omega arith) in
          let e : at + 1 + j ≡ row_end t (c.i + 1) =
          rw ej (operands_end k.sized v taken_node at (ea ∙ k.starts (v - 1) (omega (arith, taken_node)))) ∙ sym (row_end_next t c.i v (queued k.held c.i h v is)) in
          ended _ (omega arith) (stands_row (c.i + 1) (taken_turn at ea) (omega arith) j ej e z.0 c.ones (ones_end (omega arith)) z.1)

    -- the last zero
    pub last : c.i ≡ n → Wrote t n 0 [] left (record { i = c.i + 1; at = c.at; left = c.left; ones = c.ones })
    unfolding walk
    last e = ended _ (omega arith) (record {
      rows = (counts_end (omega arith)).0;
      reals = (counts_end (omega arith)).1;
      ones = ones_end (omega arith);
      inside = r.stands.inside;
      are_nodes = rw none tt;
      row = λ y. absurd (omega arith);
      ends = λ y. absurd (omega arith);
      past = λ y. (none, ap (turns g) (e ∙ sym k.sized.many), omega arith, omega (arith, r.stands.ends (omega arith), ap (row_end t) e));
    })

  pub none_left : n < c.i → (left.trits ≡ []) × (left.shadows ≡ [])
  none_left h =
      let e : plus so left ≡ plus so empty = sym r.all ∙ sym (r.stands.past h).1 ∙ sym (plus_empty so) in
      (append_cancel_left so.trits left.trits [] (ap (λ (x : Walk). x.trits) e), append_cancel_left so.shadows left.shadows [] (ap (λ (x : Walk). x.shadows) e))

-- ---- trits as a number

pub took_zero : {t : List ℕ} {n : ℕ} {left : Walk} {c : Cursor} → Rest t n left c → Took t n 0 left 0 c
took_zero {left = left} r = record { value = refl; next = left; trits = refl; rest = r }

pub took_one : {t : List ℕ} {n a : ℕ} {H : List ℕ} {left : Walk} {d : Cursor} → Wrote t n a H left d → Took t n 1 left a d
took_one w = record { value = rw w.trits (omega arith); next = w.next; trits = rw w.trits refl; rest = w.rest }

pub took_none : {t : List ℕ} {n : ℕ} {left : Walk} {c : Cursor} → left.trits ≡ [] → Rest t n left c → Took t n 1 left 0 c
took_none {left = left} e r = record { value = rw e refl; next = left; trits = rw e refl; rest = r }

horner_more : (k : ℕ) (ts : List ℕ) → horner 3 (take (suc k) ts) ≡ horner 3 (take k ts) + 3 ^ k * horner 3 (take 1 (drop k ts))
horner_more zero ts = omega (arith, pow-zero 3)
horner_more (suc k) [] = omega (arith, ap (horner 3) (take-nil {A = ℕ} 1))
horner_more (suc k) (x ∷ ts) = omega (arith, horner_more k ts, ap (λ (p : ℕ). p * horner 3 (take 1 (drop k ts))) (pow-succ' 3 k))

pub took_more : {t : List ℕ} {n k : ℕ} {left : Walk} {a b : ℕ} {c d : Cursor} (p : Took t n k left a c) → Took t n 1 p.next b d
    → Took t n (k + 1) left (a + 3 ^ k * b) d
took_more {k = k} {left = left} {a = a} {b = b} p q = record {
  value = rw add-one (omega (arith, p.value, horner_more k left.trits, ap (λ (x : ℕ). 3 ^ k * x) (q.value ∙ ap (λ (l : List ℕ). horner 3 (take 1 l)) p.trits)));
  next = q.next;
  trits = q.trits ∙ ap (drop 1) p.trits ∙ drop-drop 1 k left.trits;
  rest = q.rest;
}

-- the weights of the five trits of a tryte
pub weights : (k : ℕ) → k < 5 → (get_or (1 ∷ 3 ∷ 9 ∷ 27 ∷ 81 ∷ []) k 0 ≡ 3 ^ k) × (3 ^ k ≤ 81)
weights zero h = (refl, omega arith)
weights (suc zero) h = (refl, omega arith)
weights (suc (suc zero)) h = (refl, omega arith)
weights (suc (suc (suc zero))) h = (refl, omega arith)
weights (suc (suc (suc (suc zero)))) h = (refl, omega arith)
weights (suc (suc (suc (suc (suc k))))) h = absurd (omega arith)
