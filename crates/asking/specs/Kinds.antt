-- The kinds of questions by their numbers. Assumes nothing.
use Rattle.std.specs.Prelude.{ℕ, ◌<◌, ◌≡◌, Result, MatchResult}
use Rattle.format.specs.declared.Refusal.{Refusal}
use Rattle.format.specs.declared.Refusal.TheVariants.{UnknownKind}
use Rattle.asking.specs.declared.kind.Kind.{Kind}
use Rattle.asking.specs.declared.kind.Kind.TheVariants.{Trit, Rank, Select, OperandCount, Operand, UseCount, User}

abbrev pub kind_number : Kind → ℕ
kind_number Trit = 0
kind_number Rank = 1
kind_number Select = 2
kind_number OperandCount = 3
kind_number Operand = 4
kind_number UseCount = 5
kind_number User = 6

-- the kind with this number, or 31 where there is none
abbrev pub KindOf : ℕ → Result Kind Refusal → Type 0
KindOf n r = MatchResult r (λ k. kind_number k ≡ n) (λ f. (f ≡ UnknownKind) × (6 < n))
