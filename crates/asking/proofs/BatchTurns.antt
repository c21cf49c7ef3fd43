-- The answers of a batch stand over the front of the buffer, three words a question. Assumes nothing.
use Prim.Native.Nat.{ℕ, suc, ◌+◌, ◌-◌, ◌*◌, ◌/◌, ◌%◌, ◌≤◌, ◌<◌}
use native.Mathlib.Nat.{add-zero}
use native.Mathlib.Numerals.{add-one}
use native.Mathlib.Omega.{arith}
use mathlib.Core.Path.{◌≡◌, refl, sym, ap, ap₂, ◌∙◌}
use mathlib.Core.List.{List, [], ◌∷◌, ◌++◌}
use lib.Dec.{lit<}
use lib.ListN.{length, get_or, take, drop, set, length-append, get_or-append}
use lib.Seq.{take-suc, take_all, length-take-le, take-append_seam, drop-append-add, drop-append_seam, drop-drop, get_or-drop, paste-zero, paste-suc}
use Rattle.std.specs.Prelude.{Ok, Err}
use borrow.Author.Tests.{ne_eqb}
use Rattle.format.specs.Lists.{bit, over}
use Rattle.format.specs.Proper.{check_image, trits_of, shadows_of}
use Rattle.format.specs.Question.{Reply, plain, refused}
use Rattle.format.specs.Answers.{refusal_number}
use Rattle.format.specs.Batch.{three_words, good, BatchOutcome, batch_outcome, batch_leaves, TallyRoom}
use Rattle.format.specs.declared.Refusal.{Refusal}
use Rattle.format.specs.declared.Tally.{Tally}
use Rattle.format.proofs.OneToOne.{refusal_some}
use Rattle.format.proofs.Outcomes.{length_over}
use Rattle.format.proofs.BatchLaws.{length_answers, answers_at, length_words, good_le, batch_ran_lem, runs_batch, batch_improper}
use Rattle.little.specs.Put.{put_at}
use Rattle.asking.specs.BatchSteps.{replies, reply_at, good_one, answer_words, counted}

-- ---- one answer more

words_snoc : (rs : List Reply) (r : Reply) → answer_words (rs ++ (r ∷ [])) ≡ answer_words rs ++ three_words r
words_snoc [] r = refl
words_snoc (x ∷ rs) r = ap (λ (l : List ℕ). three_words x ++ l) (words_snoc rs r)

good_snoc : (rs : List Reply) (r : Reply) → good (rs ++ (r ∷ [])) ≡ good rs + good_one r
good_snoc [] r = omega arith
good_snoc (x ∷ rs) r = omega (arith, good_snoc rs r)

put_behind : (xs ws old : List ℕ) → put_at (over xs old) (length xs) ws ≡ over (xs ++ ws) old
put_behind xs ws old =
    ap₂ (λ (a b : List ℕ). a ++ ws ++ b) (take-append_seam xs (drop (length xs) old))
    (drop-append-add xs (drop (length xs) old) (length ws) ∙ drop-drop (length ws) (length xs) old ∙ ap (λ (k : ℕ). drop k old) (sym (length-append xs ws)))

-- three words put one by one
pub set_three : (l : List ℕ) (at x y z : ℕ) → at + 2 < length l → set (set (set l at x) (at + 1) y) (at + 2) z ≡ put_at l at (x ∷ y ∷ z ∷ [])
set_three l at x y z h =
    let s : List ℕ = x ∷ y ∷ z ∷ [] in
    ap₂ (λ (m : List ℕ) (k : ℕ). set (set (set m k x) (at + 1) y) (at + 2) z) (paste-zero l at s) (sym (add-zero at))
    ∙ ap (λ (m : List ℕ). set (set m (at + 1) y) (at + 2) z) (paste-suc l at s 0 0 (omega arith) (lit< tt))
    ∙ ap (λ (m : List ℕ). set m (at + 2) z) (paste-suc l at s 1 0 (omega arith) (lit< tt)) ∙ paste-suc l at s 2 0 (omega arith) (lit< tt)

-- a refusal's number is not 0
pub not_good : (f : Refusal) (code : ℕ) → code ≡ refusal_number f → 0 ≡ good_one (refused code)
not_good f code e = ap bit (sym (ne_eqb code 0 (λ z. omega (arith, refusal_some f))))

-- the three words of a question, taken off those from `at` on
module _ (questions question rest : List ℕ) (at : ℕ) (e : drop at questions ≡ question ++ rest) (l : length question ≡ 3) where
  pub rest_is : rest ≡ drop (at + 3) questions
  rest_is =
      sym (drop-append_seam question rest) ∙ ap₂ (λ (n : ℕ) (xs : List ℕ). drop n xs) l (sym e) ∙ drop-drop 3 at questions

  word_is : (k : ℕ) → k < 3 → get_or question k 0 ≡ get_or questions (at + k) 0
  word_is k h =
      sym (get_or-append question rest 0 k (omega arith)) ∙ ap (λ (xs : List ℕ). get_or xs k 0) (sym e) ∙ get_or-drop at questions k 0

  pub question_is : (image : List ℕ) → reply_at image question 0 ≡ reply_at image questions at
  question_is image =
      let first : get_or question 0 0 ≡ get_or questions at 0 = rw add-zero at (word_is 0 (lit< tt)) in
      rw (first, word_is 1 (lit< tt), word_is 2 (lit< tt))

-- the first i of the answers rs stand over `old`, which gives `out`; g of them have code 0
pub record Answered (rs : List Reply) (old out : List ℕ) (g i : ℕ) : Type 0 where
  pub room : 3 * length rs ≤ length old
  pub upto : i ≤ length rs
  pub goods : g ≡ good (take i rs)
  pub are : out ≡ over (answer_words (take i rs)) old

module _ {rs : List Reply} {old out : List ℕ} {g i : ℕ} (a : Answered rs old out g i) where
  front : length (answer_words (take i rs)) ≡ 3 * i
  front = length_words (take i rs) ∙ ap (λ (k : ℕ). 3 * k) (length-take-le i rs a.upto)

  pub answered_length : length out ≡ length old
  answered_length = ap length a.are ∙ length_over (answer_words (take i rs)) old (omega (arith, front, a.room, a.upto))

  pub answered_few : g ≤ i
  answered_few = omega (arith, a.goods, good_le (take i rs), length-take-le i rs a.upto)

  pub answered_next : i < length rs → (r : Reply) → get_or rs i (plain 0) ≡ r → (k : ℕ) → k ≡ good_one r → (put : List ℕ) → put ≡ put_at out (3 * i) (three_words r)
      → Answered rs old put (g + k) (i + 1)
  answered_next h r e k ek put ep =
      let t : take (i + 1) rs ≡ take i rs ++ (r ∷ []) = rw (add-one, ← e) (take-suc rs i (plain 0) h) in
      record {
        room = a.room;
        upto = omega arith;
        goods = ap₂ (λ (x y : ℕ). x + y) a.goods ek ∙ sym (ap good t ∙ good_snoc (take i rs) r);
        are = ep ∙ ap₂ (λ (l : List ℕ) (p : ℕ). put_at l p (three_words r)) a.are (sym front) ∙ put_behind (answer_words (take i rs)) (three_words r) old
            ∙ sym (ap (λ (l : List ℕ). over l old) (ap answer_words t ∙ words_snoc (take i rs) r));
      }

  pub answered_all : length rs ≤ i → (g ≡ good rs) × (out ≡ over (answer_words rs) old)
  answered_all h =
      let t : take i rs ≡ rs = take_all i rs h in
      (a.goods ∙ ap good t, a.are ∙ ap (λ (l : List Reply). over (answer_words l) old) t)

-- ---- a batch's own

module _ (image questions : List ℕ) (threes : length questions % 3 ≡ 0) where
  pub replies_length : length (replies image questions) ≡ length questions / 3
  replies_length = length_answers (trits_of image) (shadows_of image) questions (length questions / 3) (omega arith)

  pub answered_none : (old : List ℕ) → length questions ≤ length old → Answered (replies image questions) old old 0 0
  answered_none old h = record { room = omega (arith, replies_length); upto = omega arith; goods = refl; are = refl }

  pub reply_at_lem : (i : ℕ) → i < length questions / 3 → get_or (replies image questions) i (plain 0) ≡ reply_at image questions (3 * i)
  reply_at_lem i h = answers_at (trits_of image) (shadows_of image) questions i (plain 0) (omega arith)

  pub found_few : (k : ℕ) → k ≡ good (replies image questions) → k ≤ length questions / 3
  found_few k e = omega (arith, e, good_le (replies image questions), replies_length)

-- ---- the outcome

module _ (image questions buffer : List ℕ) (t : Tally) (threes : length questions % 3 ≡ 0) (room : length questions ≤ length buffer)
    (tally : TallyRoom t (length questions / 3)) where
  pub run_refused : (f : Refusal) → check_image image ≡ refusal_number f → batch_outcome image questions buffer t ≡ batch_leaves (Err f) buffer t
  run_refused f h =
      let e : refusal_number f ≡ suc (refusal_number f - 1) = omega (arith, refusal_some f) in
      batch_improper image questions buffer t threes room tally (refusal_number f - 1) (h ∙ e)
      ∙ ap {B = BatchOutcome} (λ (x : ℕ). record { code = x; words = buffer; tally = t }) (sym e)

  pub run_whole : check_image image ≡ 0 → (k : ℕ) → k ≡ good (replies image questions) → (put : List ℕ) → put ≡ over (answer_words (replies image questions)) buffer
      → (after : Tally) → after ≡ counted t (length questions / 3) k → batch_outcome image questions buffer t ≡ batch_leaves (Ok tt) put after
  run_whole h k ek put ep after ea =
      batch_ran_lem image questions buffer t (runs_batch image questions buffer t (record { threes = threes; buffer_room = room; tally_room = tally; proper = h }))
      ∙ (λ i. record { code = 0; words = sym ep i; tally = counted t (replies_length image questions threes i) (sym ek i) })
      ∙ (λ i. record { code = 0; words = put; tally = sym ea i })
