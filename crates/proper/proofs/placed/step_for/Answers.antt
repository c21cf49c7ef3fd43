-- By the test.
use Rattle.std.proofs.Common.{le-leb}
use Rattle.std.proofs.lemmas.Bool.{lt-leb}
use Rattle.proper.specs.Places.{step_for}
use Rattle.proper.proofs.placed.step_for.Goals as goal

pub returns-then-l-lt81880 : goal.returns-then-l-lt81880
unfolding step_for
returns-then-l-lt81880 c = rw (lt-leb 81880 _ c.if-l-lt81880.true)

pub returns-else-l-lt81880 : goal.returns-else-l-lt81880
unfolding step_for
returns-else-l-lt81880 c = rw (le-leb 81880 _ c.if-l-lt81880.false)
