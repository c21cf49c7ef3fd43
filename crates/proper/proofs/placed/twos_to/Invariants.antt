-- The twos before the next tryte are counted.
use Rattle.std.proofs.Common.{◌+◌, ◌*◌, ◌≡◌}
use Rattle.format.specs.Trits.{rank}
use Rattle.proper.specs.Held.{trits_in}
use Rattle.proper.proofs.placed.twos_to.Given as goal

abbrev pub invariant-loop-byte : goal.invariant-loop-byte
invariant-loop-byte l = l.n ≡ rank 2 (trits_in l.trits) (5 * (l.from + l.byte-index))
