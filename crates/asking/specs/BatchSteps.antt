-- What the steps of a batch answer. Assumes nothing.
use Rattle.std.specs.Prelude.{ℕ, ◌+◌, ◌-◌, Bool, true, false, List, map, eqb, get_or}
use Rattle.format.specs.Lists.{bit, join}
use Rattle.format.specs.Proper.{trits_of, shadows_of}
use Rattle.format.specs.Question.{Reply, answer}
use Rattle.format.specs.Batch.{answers, three_words, TallyRoom}
use Rattle.format.specs.declared.Tally.{Tally}

-- the answers to a batch, and their words
abbrev pub replies : List ℕ → List ℕ → List Reply
replies image questions = answers (trits_of image) (shadows_of image) questions

abbrev pub answer_words : List Reply → List ℕ
answer_words rs = join (map three_words rs)

-- the answer to the question whose words stand from `at` on
abbrev pub reply_at : List ℕ → List ℕ → ℕ → Reply
reply_at image questions at = answer (trits_of image) (shadows_of image) (get_or questions at 0) (get_or questions (at + 1) 0) (get_or questions (at + 2) 0)

-- 1 for an answer of code 0
abbrev pub good_one : Reply → ℕ
good_one r = bit (eqb r.code 0)

-- whether every field has room for q more
abbrev pub Roomy : Bool → Tally → ℕ → Type 0
Roomy true t q = TallyRoom t q
Roomy false t q = TallyRoom t q → ⊥

-- q questions more, k of them answered and the others refused
abbrev pub counted : Tally → ℕ → ℕ → Tally
counted t q k = record { asked = t.asked + q; answered = t.answered + k; refused = t.refused + (q - k) }
