-- A batch leaves the buffer's length, counts every question once, and answers question j from its own three words. Assumes nothing.
use Prim.Native.Nat.{ℕ, zero, suc, ◌+◌, ◌*◌, ◌/◌, ◌%◌, ◌≤◌, ◌<◌}
use native.Mathlib.Nat.{not-suc-le-zero, add-zero}
use native.Mathlib.Omega.{arith}
use mathlib.Core.Path.{◌≡◌, refl, sym, ap, ap₂, ◌∙◌, subst}
use mathlib.Core.List.{List, [], ◌∷◌, ◌++◌, map}
use lib.Dec.{eqb, leb, lit<}
use lib.ListN.{length, get_or, take, drop, length-append, length-drop, length-map, get_or-append, get_or-map}
use lib.Seq.{take-append-le, drop-append-le, drop_at, ext_get_or, get_or-drop, get_or-take}
use borrow.Author.Tests.{eqb-true, eq-eqb, leb-true, le-leb, ne_eqb, lt-leb}
use mathlib.Core.Bool.{true, Bool, false}
use Rattle.format.specs.Lists.{join, count_in, each}
use Rattle.format.specs.Proper.{check_image, trits_of, shadows_of}
use Rattle.format.specs.Question.{Reply, plain, answer, says}
use Rattle.format.specs.Batch.{answers, three_words, good, tally_holds, batch_fault, batch_ran, batch_settled, batch_outcome, BatchOutcome, Runs, Ran, TallyRoom, BatchGives}
use Rattle.format.specs.declared.Tally.{Tally}
use Rattle.format.specs.Faults.{fault, ◌then◌}
use Rattle.format.proofs.Laws.{both_true, true_both, length_each, get_or_each, count_le}
use Rattle.format.proofs.Digits.{block}
use Rattle.format.proofs.FaultLaws.{then_zero, then_yes, fault_zero, fault_yes}

-- three words a question
pub length_answers : (trits H qs : List ℕ) (q : ℕ) → length qs ≡ 3 * q → length (answers trits H qs) ≡ q
length_answers trits H [] zero e = refl
length_answers trits H [] (suc q) e = absurd (omega arith)
length_answers trits H (a ∷ []) q e = absurd (omega arith)
length_answers trits H (a ∷ b ∷ []) q e = absurd (omega arith)
length_answers trits H (a ∷ b ∷ c ∷ qs) zero e = absurd (omega arith)
length_answers trits H (a ∷ b ∷ c ∷ qs) (suc q) e = ap suc (length_answers trits H qs q (omega arith))

-- answer j is that of words 3·j, 3·j + 1 and 3·j + 2
pub answers_at : (trits H qs : List ℕ) (j : ℕ) (d : Reply) → 3 * j + 2 < length qs
    → get_or (answers trits H qs) j d ≡ answer trits H (get_or qs (3 * j) 0) (get_or qs (3 * j + 1) 0) (get_or qs (3 * j + 2) 0)
answers_at trits H [] j d h = absurd (not-suc-le-zero h)
answers_at trits H (a ∷ []) j d h = absurd (omega arith)
answers_at trits H (a ∷ b ∷ []) j d h = absurd (omega arith)
answers_at trits H (a ∷ b ∷ c ∷ qs) zero d h = refl
answers_at trits H (a ∷ b ∷ c ∷ qs) (suc j) d h =
    let e0 : 3 * suc j ≡ suc (suc (suc (3 * j))) = omega arith in
    let e1 : 3 * suc j + 1 ≡ suc (suc (suc (3 * j + 1))) = omega arith in
    let e2 : 3 * suc j + 2 ≡ suc (suc (suc (3 * j + 2))) = omega arith in
    let at : ℕ → ℕ = λ i. get_or (a ∷ b ∷ c ∷ qs) i 0 in
    answers_at trits H qs j d (omega arith)
    ∙ sym (ap₂ (λ (x y : ℕ). answer trits H (at x) (at y) (at (3 * suc j + 2))) e0 e1 ∙ ap (λ (x : ℕ). answer trits H (get_or qs (3 * j) 0) (get_or qs (3 * j + 1) 0) (at x)) e2)

pub length_words : (rs : List Reply) → length (join (map three_words rs)) ≡ 3 * length rs
length_words [] = refl
length_words (r ∷ rs) = omega (arith, length_words rs)

-- three words an answer
words_at : (rs : List Reply) (j : ℕ) (d : Reply) → j < length rs → take 3 (drop (3 * j) (join (map three_words rs))) ≡ three_words (get_or rs j d)
words_at rs j d h = block 3 three_words (λ r. refl) rs j d h

pub good_le : (rs : List Reply) → good rs ≤ length rs
good_le rs = let code : Reply → ℕ = λ r. r.code in omega (arith, count_le 0 (map code rs), length-map rs code)

-- the test of 43 says that the tally has room
tally_yes : (t : Tally) (q : ℕ) → TallyRoom t q → tally_holds t q ≡ true
unfolding tally_holds
tally_yes t q r =
    true_both _ _ (true_both _ _ (le-leb (t.asked + q) 4294967295 r.asked_fits) (le-leb (t.answered + q) 4294967295 r.answered_fits))
    (le-leb (t.refused + q) 4294967295 r.refused_fits)

yes_tally : (t : Tally) (q : ℕ) → tally_holds t q ≡ true → TallyRoom t q
unfolding tally_holds
yes_tally t q e =
    let r1 = both_true _ _ e in
    let r2 = both_true _ _ r1.0 in
    record {
      asked_fits = leb-true (t.asked + q) 4294967295 r2.0;
      answered_fits = leb-true (t.answered + q) 4294967295 r2.1;
      refused_fits = leb-true (t.refused + q) 4294967295 r1.1;
    }

-- a batch that is refused changes nothing; one that runs writes its answers and its tally
pub batch_refused_lem : (image questions buffer : List ℕ) (t : Tally) (c : ℕ) → batch_fault image questions buffer t ≡ suc c
    → batch_outcome image questions buffer t ≡ record { code = suc c; words = buffer; tally = t }
unfolding batch_outcome
batch_refused_lem image questions buffer t c e = ap (λ (x : ℕ). batch_settled x buffer t (batch_ran (answers (trits_of image) (shadows_of image) questions) buffer t)) e

pub batch_ran_lem : (image questions buffer : List ℕ) (t : Tally) → batch_fault image questions buffer t ≡ 0
    → batch_outcome image questions buffer t ≡ batch_ran (answers (trits_of image) (shadows_of image) questions) buffer t
unfolding batch_outcome
batch_ran_lem image questions buffer t e = ap (λ (x : ℕ). batch_settled x buffer t (batch_ran (answers (trits_of image) (shadows_of image) questions) buffer t)) e

-- 41, 42, 43 and 21 to 26, in this order, each where those before it are past
module _ (image questions buffer : List ℕ) (t : Tally) where
  abbrev Refuses : ℕ → Type 0
  Refuses c = batch_outcome image questions buffer t ≡ record { code = c; words = buffer; tally = t }

  pub batch_41 : (length questions % 3 ≡ 0 → ⊥) → Refuses 41
  unfolding batch_fault
  batch_41 h =
      batch_refused_lem image questions buffer t 40
      (ap (λ (b : Bool). fault 41 b then fault 42 (leb (length questions) (length buffer)) then fault 43 (tally_holds t (length questions / 3)) then check_image image)
      (ne_eqb (length questions % 3) 0 h))

  module _ (threes : length questions % 3 ≡ 0) where
    past_41 : (x : ℕ) → (fault 41 (eqb (length questions % 3) 0) then x) ≡ x
    past_41 x = then_yes _ x (fault_yes 41 (eqb (length questions % 3) 0) (eq-eqb (length questions % 3) 0 threes))

    pub batch_42 : length buffer < length questions → Refuses 42
    unfolding batch_fault
    batch_42 h =
        batch_refused_lem image questions buffer t 41
        (past_41 _ ∙ ap (λ (b : Bool). fault 42 b then fault 43 (tally_holds t (length questions / 3)) then check_image image) (lt-leb (length questions) (length buffer) h))

    module _ (room : length questions ≤ length buffer) where
      past_42 : (x : ℕ) → (fault 42 (leb (length questions) (length buffer)) then x) ≡ x
      past_42 x = then_yes _ x (fault_yes 42 (leb (length questions) (length buffer)) (le-leb (length questions) (length buffer) room))

      pub batch_43 : (TallyRoom t (length questions / 3) → ⊥) → Refuses 43
      unfolding batch_fault
      batch_43 h = batch_refused_lem image questions buffer t 42 (past_41 _ ∙ past_42 _ ∙ ap (λ (b : Bool). fault 43 b then check_image image) (go (tally_holds t (length questions / 3)) refl))
        where
          go : (b : Bool) → tally_holds t (length questions / 3) ≡ b → tally_holds t (length questions / 3) ≡ false
          go true e = absurd (h (yes_tally t (length questions / 3) e))
          go false e = e

      module _ (tally : TallyRoom t (length questions / 3)) where
        -- then the image is checked
        batch_checks : batch_fault image questions buffer t ≡ check_image image
        unfolding batch_fault
        batch_checks =
            past_41 _ ∙ past_42 _ ∙ then_yes _ _ (fault_yes 43 (tally_holds t (length questions / 3)) (tally_yes t (length questions / 3) tally))

        pub batch_improper : (c : ℕ) → check_image image ≡ suc c → Refuses (suc c)
        batch_improper c e = batch_refused_lem image questions buffer t c (batch_checks ∙ e)

pub batch_runs : (image questions buffer : List ℕ) (t : Tally) → batch_fault image questions buffer t ≡ 0 → Runs image questions buffer t
unfolding batch_fault
batch_runs image questions buffer t e =
    let s1 = then_zero _ _ e in
    let s2 = then_zero _ _ s1.1 in
    let s3 = then_zero _ _ s2.1 in
    record {
      threes = eqb-true (length questions % 3) 0 (fault_zero 41 (eqb (length questions % 3) 0) (lit< tt) s1.0);
      buffer_room = leb-true (length questions) (length buffer) (fault_zero 42 (leb (length questions) (length buffer)) (lit< tt) s2.0);
      tally_room = yes_tally t (length questions / 3) (fault_zero 43 (tally_holds t (length questions / 3)) (lit< tt) s3.0);
      proper = s3.1;
    }

pub runs_batch : (image questions buffer : List ℕ) (t : Tally) → Runs image questions buffer t → batch_fault image questions buffer t ≡ 0
runs_batch image questions buffer t r = batch_checks image questions buffer t r.threes r.buffer_room r.tally_room ∙ r.proper

-- question j is answered out of its own three words
batch_at : (image questions buffer : List ℕ) (t : Tally) → batch_fault image questions buffer t ≡ 0 → (j : ℕ) → 3 * j + 2 < length questions
    → take 3 (drop (3 * j) (batch_outcome image questions buffer t).words)
    ≡ three_words (answer (trits_of image) (shadows_of image) (get_or questions (3 * j) 0) (get_or questions (3 * j + 1) 0) (get_or questions (3 * j + 2) 0))
batch_at image qs buffer t e j h =
    let rs : List Reply = answers (trits_of image) (shadows_of image) qs in
    let ws : List ℕ = join (map three_words rs) in
    let n : length rs ≡ length qs / 3 = length_answers (trits_of image) (shadows_of image) qs (length qs / 3) (omega (arith, (batch_runs image qs buffer t e).threes)) in
    let l : length ws ≡ 3 * length rs = length_words rs in
    ap (λ (o : BatchOutcome). take 3 (drop (3 * j) o.words)) (batch_ran_lem image qs buffer t e)
    ∙ ap (take 3) (drop-append-le (3 * j) ws (drop (length ws) buffer) (omega arith))
    ∙ take-append-le 3 (drop (3 * j) ws) (drop (length ws) buffer) (omega (arith, length-drop (3 * j) ws))
    ∙ words_at rs j (plain 0) (omega arith)
    ∙ ap three_words (answers_at (trits_of image) (shadows_of image) qs j (plain 0) h)

batch_says : (image questions buffer : List ℕ) (t : Tally) → Runs image questions buffer t → (j : ℕ) → 3 * j + 2 < length questions → (c v s : ℕ)
    → answer (trits_of image) (shadows_of image) (get_or questions (3 * j) 0) (get_or questions (3 * j + 1) 0) (get_or questions (3 * j + 2) 0) ≡ says c v s
    → take 3 (drop (3 * j) (batch_outcome image questions buffer t).words) ≡ c ∷ v ∷ s ∷ []
batch_says image questions buffer t r j h c v s q = batch_at image questions buffer t (runs_batch image questions buffer t r) j h ∙ ap three_words q

-- the buffer keeps its length, whatever happens
length_after : (rs : List Reply) (buffer : List ℕ) (t : Tally) → 3 * length rs ≤ length buffer → length (batch_ran rs buffer t).words ≡ length buffer
length_after rs buffer t h =
    let ws : List ℕ = join (map three_words rs) in
    length-append ws (drop (length ws) buffer) ∙ omega (arith, length_words rs, length-drop (length ws) buffer)

-- ---- what a batch that runs leaves

-- the first word of each answer is its code
first_words : (rs : List Reply) (rest : List ℕ) → each (length rs) (λ j. get_or (join (map three_words rs) ++ rest) (3 * j) 0) ≡ map (λ (r : Reply). r.code) rs
first_words rs rest =
    let code : Reply → ℕ = λ r. r.code in
    let ws : List ℕ = join (map three_words rs) in
    let at : ℕ → ℕ = λ j. get_or (ws ++ rest) (3 * j) 0 in
    ext_get_or 0 (each (length rs) at) (map code rs) (length_each (length rs) at ∙ sym (length-map rs code))
    (λ j h.
    let l : j < length rs = subst (λ (k : ℕ). j < k) (length_each (length rs) at) h in
    get_or_each (length rs) at j 0 l
    ∙ get_or-append ws rest 0 (3 * j) (omega (arith, length_words rs))
    ∙ ap (λ (k : ℕ). get_or ws k 0) (sym (add-zero (3 * j))) ∙ sym (get_or-drop (3 * j) ws 0 0) ∙ sym (get_or-take 3 (drop (3 * j) ws) 0 0 (lit< tt))
    ∙ ap (λ (t : List ℕ). get_or t 0 0) (words_at rs j (plain 0) l)
    ∙ sym (get_or-map code rs j (plain 0)))

batch_leaves_lem : (image questions buffer : List ℕ) (t : Tally) → Runs image questions buffer t → Ran questions buffer t (batch_outcome image questions buffer t)
batch_leaves_lem image questions buffer t r =
    let rs : List Reply = answers (trits_of image) (shadows_of image) questions in
    let ws : List ℕ = join (map three_words rs) in
    let rest : List ℕ = drop (length ws) buffer in
    let n : length rs ≡ length questions / 3 = length_answers (trits_of image) (shadows_of image) questions (length questions / 3) (omega (arith, r.threes)) in
    let l : length ws ≡ length questions = omega (arith, length_words rs, n, r.threes) in
    let answered : good rs ≡ count_in 0 (each (length questions / 3) (λ j. get_or (ws ++ rest) (3 * j) 0)) =
    ap (count_in 0) (sym (first_words rs rest)) ∙ ap (λ (k : ℕ). count_in 0 (each k (λ j. get_or (ws ++ rest) (3 * j) 0))) n in
    subst (Ran questions buffer t) (sym (batch_ran_lem image questions buffer t (runs_batch image questions buffer t r)))
    (record {
      code = refl;
      size = length_after rs buffer t (omega (arith, n, r.threes, r.buffer_room));
      past = ap (λ (k : ℕ). drop k (ws ++ rest)) (sym l) ∙ drop_at ws rest (length ws) refl ∙ ap (λ (k : ℕ). drop k buffer) l;
      asked = ap (λ (k : ℕ). t.asked + k) n;
      answered = ap (λ (k : ℕ). t.answered + k) answered;
      refused = omega (arith, good_le rs, n);
      tally_fits = (omega (arith, n, r.tally_room.asked_fits), omega (arith, good_le rs, n, r.tally_room.answered_fits), omega (arith, good_le rs, n, r.tally_room.refused_fits));
    })

pub batch_gives : (image questions buffer : List ℕ) (t : Tally) → BatchGives image questions buffer t (batch_outcome image questions buffer t)
batch_gives image questions buffer t = record {
  not_threes = batch_41 image questions buffer t;
  buffer_short = batch_42 image questions buffer t;
  tally_full = batch_43 image questions buffer t;
  improper = batch_improper image questions buffer t;
  ran = batch_leaves_lem image questions buffer t;
  answered = batch_says image questions buffer t;
}
