-- What writing into a lent slice leaves behind. Assumes nothing.
use Rattle.std.specs.Prelude.{ℕ, ◌+◌, List, ◌++◌, length, take, drop}

-- the list with `vs` written over it from place `at` on, all else as it was
abbrev pub put_at : List ℕ → ℕ → List ℕ → List ℕ
put_at l at vs = take at l ++ vs ++ drop (at + length vs) l
