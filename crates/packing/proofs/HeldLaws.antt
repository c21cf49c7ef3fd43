-- One operand seen: the buffer holds the walk before, and after. Assumes nothing.
use mathlib.Core.Path.{◌≡◌, refl, sym, ap, ◌∙◌}
use mathlib.Core.List.{List, [], ◌∷◌, ◌++◌}
use Prim.Native.Nat.{ℕ, zero, suc, ◌+◌, ◌-◌, ◌*◌, ◌%◌, ◌≤◌, ◌<◌}
use native.Mathlib.Decide.{ℕ_discrete}
use native.Mathlib.Numerals.{add-one, one-add}
use native.Mathlib.Omega.{arith}
use lib.Dec.{ltb}
use lib.ListN.{length, get_or, set, length-append, length-set, get_or-append}
use lib.Seq.{get_or-set_same, get_or-set_other, get_or_at}
use borrow.Author.Tests.{eq-eqb, ne_eqb}
use Rattle.format.specs.Lists.{bit, All, one_to, keep, number_in, count_in}
use Rattle.format.specs.Table.{Node}
use Rattle.format.specs.Image.{marked}
use Rattle.format.specs.Level.{Walk, enter, see, see_all, close}
use Rattle.format.proofs.Laws.{run_snoc, length_cons_if, keep_append, count_append, count_le}
use Rattle.format.proofs.Places.{all_append, all_imp, all_at, number_new, get_or_number, number_get_or, number_le, nodup_snoc}
use Rattle.format.proofs.Walks.{see_at}
use Rattle.format.proofs.Order.{fits_length}
use Rattle.packing.specs.Work.{seen_word, Sound, Held, Holding, Saw}
use Rattle.format.proofs.Over.{Over, over_length, over_behind}
use Rattle.packing.proofs.NumberLaws.{number_other}

-- ---- the word of a node seen

seen_zero : (p : ℕ) (H : List ℕ) → seen_word p H ≡ 0 → p ≡ 0
unfolding seen_word
seen_zero zero H e = refl
seen_zero (suc k) H e = absurd (omega arith)

-- no shadow has a level number that there is not yet
count_above : (l : ℕ) (H : List ℕ) → All (λ h. h ≤ l) H → count_in (suc l) H ≡ 0
count_above l [] a = refl
count_above l (h ∷ H) a = omega (arith, ap bit (ne_eqb h (suc l) (λ e. absurd (omega (arith, a.0)))), count_above l H a.1)

seen_new : (l : ℕ) (H : List ℕ) → All (λ h. h ≤ l) H → l + 1 ≡ seen_word (suc l) H
unfolding seen_word
seen_new l H a = omega (arith, count_above l H a)

seen_more : (k : ℕ) (H : List ℕ) → seen_word (suc k) H + 65536 ≡ seen_word (suc k) (H ++ suc k ∷ [])
unfolding seen_word
seen_more k H = omega (arith, count_append (suc k) H (suc k ∷ []), ap bit (eq-eqb (suc k) (suc k) refl))

seen_other : (p k : ℕ) (H : List ℕ) → (suc k ≡ p → ⊥) → seen_word p H ≡ seen_word p (H ++ suc k ∷ [])
unfolding seen_word
seen_other zero k H n = refl
seen_other (suc j) k H n = omega (arith, count_append (suc j) H (suc k ∷ []), ap bit (ne_eqb (suc k) (suc j) n))

seen_fits : (p : ℕ) (H : List ℕ) → p ≤ 30000 → length H < 65535 → seen_word p H + 65536 < 4294967296
unfolding seen_word
seen_fits zero H a b = omega arith
seen_fits (suc k) H a b = omega (arith, count_le (suc k) H)

-- the level number in it
pub seen_mod : (p : ℕ) (H : List ℕ) → p ≤ 30000 → seen_word p H % 65536 ≡ p
unfolding seen_word
seen_mod zero H b = refl
seen_mod (suc k) H b = omega arith

-- ---- the walk

module _ {n : ℕ} {w : Walk} (s : Sound n w) where
  sound_new : {v : ℕ} → Node n v → number_in v w.queue ≡ 0 → Sound n (enter 0 v w)
  sound_new {v} hv e = record {
    nodup = nodup_snoc w.queue v s.nodup e;
    inside = all_append (Node n) w.queue (v ∷ []) s.inside (hv, tt);
    ones = omega (arith, s.ones, count_append 1 w.trits (1 ∷ []), length-append w.queue (v ∷ []));
    twos = omega (arith, s.twos, count_append 2 w.trits (1 ∷ []));
  }

  sound_old : (v k : ℕ) → Sound n (enter (suc k) v w)
  sound_old v k = record {
    nodup = s.nodup;
    inside = s.inside;
    ones = omega (arith, s.ones, count_append 1 w.trits (2 ∷ []));
    twos = omega (arith, s.twos, count_append 2 w.trits (2 ∷ []), length-append w.shadows (suc k ∷ []));
  }

  sound_close : Sound n (close w)
  sound_close = record {
    nodup = s.nodup;
    inside = s.inside;
    ones = omega (arith, s.ones, count_append 1 w.trits (0 ∷ []));
    twos = omega (arith, s.twos, count_append 2 w.trits (0 ∷ []));
  }

-- ---- one operand

module _ {n : ℕ} {w : Walk} {tail : ℕ} {work : List ℕ} (h : Held n w tail work) (v : ℕ) (hv : Node n v) where
  unseen : get_or work (n + v - 1) 0 ≡ 0 → number_in v w.queue ≡ 0
  unseen e = seen_zero _ w.shadows (sym (h.seen v hv) ∙ e)

  -- there is room in the queue for a node that is not in it
  pub has_room : get_or work (n + v - 1) 0 ≡ 0 → tail < n
  has_room e =
      let q : List ℕ = w.queue ++ v ∷ [] in
      let f : length q ≤ n = fits_length n q (nodup_snoc w.queue v h.sound.nodup (unseen e)) (all_append (Node n) w.queue (v ∷ []) h.sound.inside (hv, tt)) in
      omega (arith, h.tail_is, length-append w.queue (v ∷ []))

  pub seen_small : length w.shadows < 65535 → get_or work (n + v - 1) 0 + 65536 < 4294967296
  seen_small b = rw (h.seen v hv) (seen_fits (number_in v w.queue) w.shadows (omega (arith, number_le v w.queue, h.tail_is)) b)

  see_new : get_or work (n + v - 1) 0 ≡ 0 → Held n (see v w) (tail + 1) (set (set work (2 * n + tail) v) (n + v - 1) (tail + 1))
  see_new e =
      let new = unseen e in
      let space = has_room e in
      let work₁ : List ℕ = set work (2 * n + tail) v in
      rw (see_at v w 0 new) (record {
        room = simp length-set h.room;
        small = h.small;
        tail_is = omega (arith, h.tail_is, length-append w.queue (v ∷ []));
        fits = omega arith;
        sound = sound_new h.sound hv new;
        below = all_imp (λ x. x ≤ length w.queue) (λ x. x ≤ length (w.queue ++ v ∷ [])) w.shadows (λ x b. omega (arith, length-append w.queue (v ∷ []))) h.below;
        seen = λ u hu. elim (ℕ_discrete u v) [
          | yes same ↦ rw (same, get_or-set_same work₁ (n + v - 1) (tail + 1) 0 (simp length-set (omega (arith, h.room, hv))), number_new v w.queue [] new, h.tail_is)
              (seen_new (length w.queue) w.shadows h.below)
          | no other ↦ rw (number_other u v w.queue other)
              (get_or-set_other work₁ (n + v - 1) (n + u - 1) (tail + 1) 0 (λ z. other (omega (arith, hu, hv)))
              ∙ get_or-set_other work (2 * n + tail) (n + u - 1) v 0 (λ z. absurd (omega (arith, hu))) ∙ h.seen u hu)
        ];
        order = λ i b. get_or-set_other work₁ (n + v - 1) (2 * n + i) (tail + 1) 0 (λ z. absurd (omega (arith, hv))) ∙ elim (ℕ_discrete i tail) [
          | yes same ↦ rw (same, get_or-set_same work (2 * n + tail) v 0 (omega (arith, h.room))) (sym (get_or_at w.queue v [] 0 tail (sym h.tail_is)))
          | no other ↦ get_or-set_other work (2 * n + tail) (2 * n + i) v 0 (λ z. other (omega arith)) ∙ h.order i (omega (arith, other))
              ∙ sym (get_or-append w.queue (v ∷ []) 0 i (omega (arith, other, h.tail_is)))
        ];
        spare = λ i b c. get_or-set_other work₁ (n + v - 1) (2 * n + i) (tail + 1) 0 (λ z. absurd (omega (arith, hv)))
            ∙ get_or-set_other work (2 * n + tail) (2 * n + i) v 0 (λ z. absurd (omega arith)) ∙ h.spare i (omega arith) c;
      })

  seen_at : (p : ℕ) → number_in v w.queue ≡ p → (p ≡ 0 → ⊥) → Held n (see v w) tail (set work (n + v - 1) (get_or work (n + v - 1) 0 + 65536))
  seen_at zero e z = absurd (z refl)
  seen_at (suc k) e z = rw (see_at v w (suc k) e) (record {
    room = simp length-set h.room;
    small = h.small;
    tail_is = h.tail_is;
    fits = h.fits;
    sound = sound_old h.sound v k;
    below = all_append (λ x. x ≤ length w.queue) w.shadows (suc k ∷ []) h.below (omega (arith, number_le v w.queue), tt);
    seen = λ u hu. elim (ℕ_discrete u v) [
      | yes same ↦ rw (same, get_or-set_same work (n + v - 1) (get_or work (n + v - 1) 0 + 65536) 0 (omega (arith, h.room, hv)), h.seen v hv, e) (seen_more k w.shadows)
      | no other ↦ get_or-set_other work (n + v - 1) (n + u - 1) _ 0 (λ z. other (omega (arith, hu, hv))) ∙ h.seen u hu
          ∙ seen_other (number_in u w.queue) k w.shadows (λ f. other (sym (get_or_number u w.queue k (sym f)).1 ∙ (get_or_number v w.queue k e).1))
    ];
    order = λ i b. get_or-set_other work (n + v - 1) (2 * n + i) _ 0 (λ z. absurd (omega (arith, hv))) ∙ h.order i b;
    spare = λ i b c. get_or-set_other work (n + v - 1) (2 * n + i) _ 0 (λ z. absurd (omega (arith, hv))) ∙ h.spare i b c;
  })

  see_old : (get_or work (n + v - 1) 0 ≡ 0 → ⊥) → Held n (see v w) tail (set work (n + v - 1) (get_or work (n + v - 1) 0 + 65536))
  unfolding seen_word
  see_old z = seen_at (number_in v w.queue) refl (λ e. z (h.seen v hv ∙ ap (λ (p : ℕ). seen_word p w.shadows) e))

module _ {n tail : ℕ} {work : List ℕ} (h : Holding n tail 1 work) (v : ℕ) (hv : Node n v) where
  pub saw_new : get_or work (n + v - 1) 0 ≡ 0 → Saw n (v ∷ []) tail (tail + 1) work (set (set work (2 * n + tail) v) (n + v - 1) (tail + 1))
  unfolding see_all
  saw_new e =
      let space = has_room h.held v hv e in
      record {
        held = λ w g. see_new g v hv e;
        kept = λ k b. get_or-set_other (set work (2 * n + tail) v) (n + v - 1) k (tail + 1) 0 (λ z. b (omega (arith, hv)) (omega (arith, hv)))
            ∙ get_or-set_other work (2 * n + tail) k v 0 (λ z. b (omega arith) (omega arith));
      }

  pub saw_old : (get_or work (n + v - 1) 0 ≡ 0 → ⊥) → Saw n (v ∷ []) tail tail work (set work (n + v - 1) (get_or work (n + v - 1) 0 + 65536))
  unfolding see_all
  saw_old e = record {
    held = λ w g. see_old g v hv e;
    kept = λ k b. get_or-set_other work (n + v - 1) k _ 0 (λ z. b (omega (arith, hv)) (omega (arith, hv)));
  }

-- ---- the buffer, the walk's row ended or other parts of it changed

module _ {n : ℕ} {w : Walk} {tail : ℕ} {work : List ℕ} (h : Held n w tail work) where
  pub held_close : Held n (close w) tail work
  held_close = record {
    room = h.room;
    small = h.small;
    tail_is = h.tail_is;
    fits = h.fits;
    sound = sound_close h.sound;
    below = h.below;
    seen = h.seen;
    order = h.order;
    spare = h.spare;
  }

  -- part A holds anything
  pub held_over : {xs : List ℕ} {m : ℕ} {l : List ℕ} {i : ℕ} → Over xs m work l i → m ≤ n → Held n w tail l
  held_over o b = record {
    room = omega (arith, over_length o, h.room);
    small = h.small;
    tail_is = h.tail_is;
    fits = h.fits;
    sound = h.sound;
    below = h.below;
    seen = λ v hv. over_behind o (n + v - 1) (omega (arith, hv, o.upto)) ∙ h.seen v hv;
    order = λ j b'. over_behind o (2 * n + j) (omega (arith, o.upto)) ∙ h.order j b';
    spare = λ j b' c. over_behind o (2 * n + j) (omega (arith, o.upto)) ∙ h.spare j b' c;
  }

  -- the node at place i of the queue
  module _ (i : ℕ) (b : i < tail) (v : ℕ) (is : v ≡ get_or work (2 * n + i) 0) where
    pub queued : v ≡ get_or w.queue i 0
    queued = is ∙ h.order i b

    pub queued_node : Node n v
    queued_node = rw queued (all_at (Node n) w.queue i 0 h.sound.inside (omega (arith, h.tail_is)))

    pub queued_seen : get_or work (n + v - 1) 0 ≡ suc i + 65536 * count_in (suc i) w.shadows
    unfolding seen_word
    queued_seen =
        h.seen v queued_node
        ∙ ap (λ (u : ℕ). seen_word (number_in u w.queue) w.shadows) queued
        ∙ ap (λ (p : ℕ). seen_word p w.shadows) (number_get_or w.queue i h.sound.nodup (omega (arith, h.tail_is)))

-- ---- h, the count of marked nodes, by one node more

pub marks_next : (H : List ℕ) (i k : ℕ) → k ≡ count_in (suc i) H → length (keep (marked H) (one_to (i + 1))) ≡ length (keep (marked H) (one_to i)) + bit (ltb 0 k)
unfolding marked
marks_next H i k e =
    ap (λ (j : ℕ). length (keep (marked H) (one_to j))) (add-one i)
    ∙ ap (λ (l : List ℕ). length (keep (marked H) l)) (run_snoc 1 i ∙ ap (λ (x : ℕ). one_to i ++ x ∷ []) (one-add i))
    ∙ ap length (keep_append (marked H) (one_to i) (suc i ∷ [])) ∙ length-append (keep (marked H) (one_to i)) (keep (marked H) (suc i ∷ []))
    ∙ ap (λ (m : ℕ). length (keep (marked H) (one_to i)) + m) (length_cons_if (marked H (suc i)) (suc i) ∙ ap (λ (m : ℕ). bit (ltb 0 m)) (sym e))
