-- The entries before `x` are right.
use Rattle.std.proofs.Common.{ℕ, ◌<◌, ◌≡◌, get_or}
use Rattle.format.specs.Trits.{tryte_count}
use Rattle.proper.proofs.placed.two_table.Given as goal

abbrev pub invariant-loop-x : goal.invariant-loop-x
invariant-loop-x l = (k : ℕ) → k < l.x → get_or l.count-items k 0 ≡ tryte_count 2 k 5
