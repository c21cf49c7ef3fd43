-- The place in the tryte, behind the tryte's own.
use Rattle.std.proofs.Common.{arith}
use Rattle.trits.proofs.Levels.{few}
use Rattle.trits.proofs.Searching.{inside}
use Rattle.trits.proofs.Trytes.{trit_there, trit_found}
use Rattle.trits.proofs.image.Image.find_trit.Goals as goal

pub tryte-requires : goal.tryte-requires
tryte-requires c = inside c.requires.1

pub overflow_mul-result : goal.overflow_mul-result
overflow_mul-result c = omega (arith, few c.args.self.now.laid.whole, inside c.requires.1)

pub place_in-requires : goal.place_in-requires
place_in-requires c =
    (c.tryte.ensures.low, c.requires.0, omega (arith, c.requires.1), trit_there c.tryte.ensures c.requires.1)

pub overflow_add-result : goal.overflow_add-result
overflow_add-result c = omega (arith, few c.args.self.now.laid.whole, inside c.requires.1, c.place_in.ensures)

pub returns : goal.returns
returns c = trit_found c.tryte.ensures c.requires.1 c.place_in.ensures
