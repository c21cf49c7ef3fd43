-- An entry of the table; a tryte has at most five twos.
use Rattle.std.proofs.Common.{arith, ◌∙◌}
use Rattle.trits.proofs.Trytes.{count_few}
use Rattle.proper.proofs.placed.two_count.Goals as goal

pub returns : goal.returns
returns c = let e = c.from.ensures ∙ c.requires.0 c.args.x c.requires.1 in (e, omega (arith, e, count_few 2 c.args.x 5))
