-- The byte of section 1 that holds it.
use Rattle.std.proofs.Common.{arith}
use Rattle.trits.proofs.Levels.{few}
use Rattle.trits.proofs.Trytes.{at1_is, tryte_inside, tryte_is}
use Rattle.trits.proofs.image.Image.tryte.Goals as goal

pub overflow_add-self : goal.overflow_add-self
overflow_add-self c = omega (arith, at1_is c.args.self.now.laid, few c.args.self.now.laid.whole)

pub bounds-self-self : goal.bounds-self-self
bounds-self-self c = rw (at1_is c.args.self.now.laid) (tryte_inside c.args.self.now.laid.whole c.args.q c.requires)

pub returns : goal.returns
returns c = tryte_is c.args.self.now.laid.whole c.args.q c.requires (rw (at1_is c.args.self.now.laid) at c.from.ensures)
