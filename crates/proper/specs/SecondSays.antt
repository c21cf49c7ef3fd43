-- What a function on section 2 answers. Assumes nothing.
use Rattle.std.specs.Prelude.{ℕ, Bool, true, cond, eqb}
use Rattle.format.specs.Table.{is_node}

-- a 2 has a right entry h: it names one of the ones before it; another trit has no entry
abbrev pub entry_right : ℕ → ℕ → ℕ → Bool
entry_right t ones h = cond (eqb t 2) (is_node ones h) true
