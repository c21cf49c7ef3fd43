-- Section 8 of a proper image.
use Rattle.trits.proofs.Levels.{near_sampled}
use Rattle.trits.proofs.image.Image.near.Goals as goal

pub invariant_of-result : goal.invariant_of-result
invariant_of-result c = record { sampled = rw c.near.ensures (near_sampled c.args.self.now.laid) }
