-- The twos of the trytes before from + d, or before the end.
use Rattle.std.proofs.Common.{◌+◌, ◌*◌, ◌≤◌, ◌≡◌}
use Rattle.format.specs.Trits.{rank}
use Rattle.proper.specs.Held.{trits_in}
use Rattle.proper.proofs.TwoLaws.{least}
use Rattle.proper.proofs.placed.Twos.between.Given as goal

abbrev pub invariant-loop-d : goal.invariant-loop-d
invariant-loop-d g l = record {
  few : l.n ≤ 5 * l.d;
  counted : rank 2 (trits_in l.self.walk.trits) (5 * l.from) + l.n ≡ rank 2 (trits_in l.self.walk.trits) (5 * least (l.from + l.d) l.end);
}
