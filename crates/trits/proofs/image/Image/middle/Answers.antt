-- Section 7 of a proper image.
use Rattle.trits.proofs.Levels.{middle_sampled}
use Rattle.trits.proofs.image.Image.middle.Goals as goal

pub invariant_of-result : goal.invariant_of-result
invariant_of-result c = record { sampled = rw c.middle.ensures (middle_sampled c.args.self.now.laid) }
