-- Section 6 of a proper image.
use Rattle.trits.proofs.Levels.{far_sampled}
use Rattle.trits.proofs.image.Image.far.Goals as goal

pub invariant_of-result : goal.invariant_of-result
invariant_of-result c = record { sampled = rw c.far.ensures (far_sampled c.args.self.now.laid) }
