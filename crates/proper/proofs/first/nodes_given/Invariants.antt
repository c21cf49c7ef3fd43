-- Before every trit that the count has passed, the zeros are no more than the ones.
use Rattle.std.proofs.Common.{◌≡◌, ◌-◌, length}
use Rattle.format.specs.Trits.{untrytes}
use Rattle.proper.specs.FirstSays.{Ballot}
use Rattle.proper.proofs.first.nodes_given.Given as goal

abbrev pub invariant-loop-c : goal.invariant-loop-c
invariant-loop-c l = (length (untrytes l.l l.bs) ≡ l.l) × Ballot (untrytes l.l l.bs) l.c.p l.c.zeros l.c.ones

abbrev pub decreases-loop-c : goal.decreases-loop-c
decreases-loop-c l = l.l - l.c.p
