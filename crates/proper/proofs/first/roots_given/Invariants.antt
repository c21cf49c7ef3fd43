-- There are ones only so far.
use Rattle.std.proofs.Common.{◌≡◌, length}
use Rattle.format.specs.Trits.{untrytes}
use Rattle.proper.proofs.FirstLaws.{OnesOnly}
use Rattle.proper.proofs.first.roots_given.Given as goal

abbrev pub invariant-loop-p : goal.invariant-loop-p
invariant-loop-p l = (length (untrytes l.l l.bs) ≡ l.l) × OnesOnly (untrytes l.l l.bs) l.p
