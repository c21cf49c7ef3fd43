-- Document 01, "Batches of questions": the outcome of a batch. Assumes nothing.
use Rattle.std.specs.Prelude.{ℕ, zero, suc, ◌+◌, ◌-◌, ◌*◌, ◌/◌, ◌%◌, ◌≤◌, ◌<◌, ◌≡◌, Bool, ◌&&◌, List, [], ◌∷◌, map, eqb, leb, length, get_or, take, drop, Result}
use Rattle.format.specs.Lists.{each, join, over, count_in}
use Rattle.format.specs.Faults.{fault, ◌then◌}
use Rattle.format.specs.Proper.{check_image, trits_of, shadows_of}
use Rattle.format.specs.Question.{Reply, answer, says}
use Rattle.format.specs.Answers.{asked_number}
use Rattle.format.specs.declared.Refusal.{Refusal}
use Rattle.format.specs.declared.Tally.{Tally}

-- what a batch returns, and what the answer buffer and the tally then hold
pub record BatchOutcome : Type 0 where
  pub code : ℕ
  pub words : List ℕ
  pub tally : Tally

-- what an entry that answers r leaves, for its contract
abbrev pub batch_leaves : Result (Unit {0}) Refusal → List ℕ → Tally → BatchOutcome
batch_leaves r words tally = record { code = asked_number r; words = words; tally = tally }

-- the questions: three words each
abbrev pub answers : List ℕ → List ℕ → List ℕ → List Reply
answers trits H [] = []
answers trits H (kind ∷ []) = []
answers trits H (kind ∷ a ∷ []) = []
answers trits H (kind ∷ a ∷ b ∷ rest) = answer trits H kind a b ∷ answers trits H rest

-- an answer is three words: code, value, sort
abbrev pub three_words : Reply → List ℕ
three_words r = r.code ∷ r.value ∷ r.sort ∷ []

-- the number of code 0
abbrev pub good : List Reply → ℕ
good rs = count_in 0 (map (λ (r : Reply). r.code) rs)

-- every tally field plus q is at most 4,294,967,295
unfoldable pub tally_holds : Tally → ℕ → Bool
tally_holds t q = leb (t.asked + q) 4294967295 && leb (t.answered + q) 4294967295 && leb (t.refused + q) 4294967295

-- question words not a multiple of 3; answer buffer shorter than the questions; tally full; the image's own refusals
unfoldable pub batch_fault : List ℕ → List ℕ → List ℕ → Tally → ℕ
batch_fault image questions buffer t =
    fault 41 (eqb (length questions % 3) 0)
    then fault 42 (leb (length questions) (length buffer))
    then fault 43 (tally_holds t (length questions / 3))
    then check_image image

-- the answers by three words, and the words past them as they were; q more asked, the good ones answered, the others refused
abbrev pub batch_ran : List Reply → List ℕ → Tally → BatchOutcome
batch_ran rs buffer t = record {
  code = 0;
  words = over (join (map three_words rs)) buffer;
  tally = record { asked = t.asked + length rs; answered = t.answered + good rs; refused = t.refused + (length rs - good rs) };
}

-- a refused batch leaves the answers and the tally
abbrev pub batch_refused : ℕ → List ℕ → Tally → BatchOutcome
batch_refused c buffer t = record { code = c; words = buffer; tally = t }

abbrev pub batch_settled : ℕ → List ℕ → Tally → BatchOutcome → BatchOutcome
batch_settled zero buffer t o = o
batch_settled (suc c) buffer t o = batch_refused (suc c) buffer t

-- "Order: 41, 42, 43, then 21 to 26, then the questions one by one."
unfoldable pub batch_outcome : List ℕ → List ℕ → List ℕ → Tally → BatchOutcome
batch_outcome image questions buffer t =
    batch_settled (batch_fault image questions buffer t) buffer t
    (batch_ran (answers (trits_of image) (shadows_of image) questions) buffer t)

-- ---- what statements say of it

-- every tally field has room for q more
pub record TallyRoom (t : Tally) (q : ℕ) : Type 0 where
  pub asked_fits : t.asked + q ≤ 4294967295
  pub answered_fits : t.answered + q ≤ 4294967295
  pub refused_fits : t.refused + q ≤ 4294967295

-- a batch that runs: none of 41, 42, 43 and 21 to 26
pub record Runs (image questions buffer : List ℕ) (t : Tally) : Type 0 where
  pub threes : length questions % 3 ≡ 0
  pub buffer_room : length questions ≤ length buffer
  pub tally_room : TallyRoom t (length questions / 3)
  pub proper : check_image image ≡ 0

-- Code 0; the words past the questions as before; q more asked; as many more answered as answers have
-- first word 0, the others refused; every sum within 32 bits.
pub record Ran (questions buffer : List ℕ) (t : Tally) (o : BatchOutcome) : Type 0 where
  pub code : o.code ≡ 0
  pub size : length o.words ≡ length buffer
  pub past : drop (length questions) o.words ≡ drop (length questions) buffer
  pub asked : o.tally.asked ≡ t.asked + length questions / 3
  pub answered : o.tally.answered ≡ t.answered + count_in 0 (each (length questions / 3) (λ j. get_or o.words (3 * j) 0))
  pub refused : o.tally.answered + o.tally.refused ≡ t.answered + t.refused + length questions / 3
  pub tally_fits : (o.tally.asked ≤ 4294967295) × (o.tally.answered ≤ 4294967295) × (o.tally.refused ≤ 4294967295)

-- "Order: 41, 42, 43, then 21 to 26, then the questions one by one", each out of its own three words
pub record BatchGives (image questions buffer : List ℕ) (t : Tally) (o : BatchOutcome) : Type 0 where
  pub not_threes : (length questions % 3 ≡ 0 → ⊥) → o ≡ batch_refused 41 buffer t
  pub buffer_short : length questions % 3 ≡ 0 → length buffer < length questions → o ≡ batch_refused 42 buffer t
  pub tally_full : length questions % 3 ≡ 0 → length questions ≤ length buffer → (TallyRoom t (length questions / 3) → ⊥) → o ≡ batch_refused 43 buffer t
  pub improper : length questions % 3 ≡ 0 → length questions ≤ length buffer → TallyRoom t (length questions / 3) → (c : ℕ) → check_image image ≡ suc c
      → o ≡ batch_refused (suc c) buffer t
  pub ran : Runs image questions buffer t → Ran questions buffer t o
  pub answered : Runs image questions buffer t → (j : ℕ) → 3 * j + 2 < length questions → (c v s : ℕ)
      → answer (trits_of image) (shadows_of image) (get_or questions (3 * j) 0) (get_or questions (3 * j + 1) 0) (get_or questions (3 * j + 2) 0) ≡ says c v s
      → take 3 (drop (3 * j) o.words) ≡ c ∷ v ∷ s ∷ []
