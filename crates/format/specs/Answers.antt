-- Document 01: "For every answer that is an enum, a definition states this paper's number and values for each of the enum's cases, and the
-- promises use that definition." Assumes nothing.
use Rattle.std.specs.Prelude.{ℕ, ◌≤◌, ◌≡◌, ◌⊎◌, List, ◌++◌, codes, Result, Ok, Err, Option as Maybe, Some, None}
use Rattle.std.specs.Fmt.{decimal}
use Rattle.std.proofs.Math.Option.{Option, none, some}
use Rattle.format.specs.Question.{Reply, refused, plain}
use Rattle.format.specs.declared.Refusal.{Refusal}
use Rattle.format.specs.declared.Refusal.TheVariants.{TableEnds, TableTooLarge, OperandOutside, RootOutside, RootTwice, WordsAfterRoots, WorkTooShort, NodeUnreached, ImageTooShort, ImageEnds, ImageTooLarge, TritsWrong, ShadowsWrong, IndexWrong, BytesAfterImage, UnknownKind, FirstOutside, SecondOutside, NotThrees, AnswersTooShort, TallyFull, TableTooShort, InputWrong}
use Rattle.format.specs.declared.Sort.{Sort}
use Rattle.format.specs.declared.Sort.TheVariants.{Real, Shadow}
use Rattle.format.specs.declared.Answer.{Answer}
use Rattle.format.specs.declared.Answer.TheVariants.{Value, Listed}

-- the table "Refusal numbers and their order"
abbrev pub refusal_number : Refusal → ℕ
refusal_number TableEnds = 1
refusal_number TableTooLarge = 2
refusal_number OperandOutside = 3
refusal_number RootOutside = 4
refusal_number RootTwice = 5
refusal_number WordsAfterRoots = 6
refusal_number WorkTooShort = 7
refusal_number NodeUnreached = 8
refusal_number ImageTooShort = 9
refusal_number ImageEnds = 21
refusal_number ImageTooLarge = 22
refusal_number TritsWrong = 23
refusal_number ShadowsWrong = 24
refusal_number IndexWrong = 25
refusal_number BytesAfterImage = 26
refusal_number UnknownKind = 31
refusal_number FirstOutside = 32
refusal_number SecondOutside = 33
refusal_number NotThrees = 41
refusal_number AnswersTooShort = 42
refusal_number TallyFull = 43
refusal_number TableTooShort = 51
refusal_number InputWrong = 61

-- a refusal as the programs say it: a word, and its number in decimal
abbrev pub refusal_text : Refusal → List ℕ
refusal_text r = codes "refused " ++ decimal (refusal_number r)

-- what an entry returns: a refusal's number and 0, or 0 and a length
pub record Numbers : Type 0 where
  pub code : ℕ
  pub value : ℕ

abbrev pub done : ℕ → Numbers
done v = record { code = 0; value = v }

abbrev pub stops : ℕ → Numbers
stops c = record { code = c; value = 0 }

-- success returns the image's length
abbrev pub packed_numbers : Result ℕ Refusal → Numbers
packed_numbers (Ok n) = done n
packed_numbers (Err r) = stops (refusal_number r)

-- a proper image gives 0
abbrev pub checked_number : Result (Unit {0}) Refusal → ℕ
checked_number (Ok _) = 0
checked_number (Err r) = refusal_number r

-- unpacking returns the table's length
abbrev pub unpacked_numbers : Result ℕ Refusal → Numbers
unpacked_numbers = packed_numbers

-- a batch that runs returns 0; a refused batch returns its number
abbrev pub asked_number : Result (Unit {0}) Refusal → ℕ
asked_number = checked_number

-- 1 for an edge that wrote 1, 2 for an edge that wrote 2
abbrev pub sort_number : Sort → ℕ
sort_number Real = 1
sort_number Shadow = 2

-- an answer is three words: code, value, sort; a refused question gives its code, 0, 0; otherwise the code is 0
abbrev pub answer_numbers : Result Answer Refusal → Reply
answer_numbers (Ok (Value v)) = plain v
answer_numbers (Ok (Listed nb)) = record { code = 0; value = nb.node; sort = sort_number nb.sort }
answer_numbers (Err r) = refused (refusal_number r)

-- select's place, or nothing
abbrev pub found_place : Maybe ℕ → Option ℕ
found_place (Some p) = some p
found_place None = none

-- ---- what statements say of it

-- an answer that has a case; its code is 0 or 31 to 33; its three words are small
pub record Answerable (r : Reply) : Type 0 where
  pub has : (x : Result Answer Refusal) × (answer_numbers x ≡ r)
  pub codes : (r.code ≡ 0) ⊎ ((31 ≤ r.code) × (r.code ≤ 33))
  pub value_fits : r.value ≤ 125536
  pub sort_fits : r.sort ≤ 2

-- exactly one x has P
abbrev pub ExactlyOne : {A : Type 0} → (A → Type 0) → Type 0
ExactlyOne {A} P = (x : A) × P x × ((y : A) → P y → x ≡ y)
