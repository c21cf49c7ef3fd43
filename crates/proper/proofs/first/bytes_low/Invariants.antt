-- The test of all bytes is the test of those that are left.
use Rattle.std.proofs.Common.{◌≡◌, leb, drop}
use Rattle.format.specs.Lists.{every}
use Rattle.format.specs.Proper.{bytes_low}
use Rattle.proper.proofs.first.bytes_low.Given as goal

abbrev pub invariant-loop-b : goal.invariant-loop-b
invariant-loop-b l = bytes_low l.bs ≡ every (λ x. leb x 242) (drop l.b-index l.bs)
