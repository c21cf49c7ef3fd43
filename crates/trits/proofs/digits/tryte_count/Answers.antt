-- The twos are what zeros and ones leave of the five.
use Rattle.std.proofs.Common.{◌≡◌, arith}
use Rattle.trits.proofs.Trytes.{five_trits}
use Rattle.trits.proofs.digits.tryte_count.Goals as goal

pub returns-in_default : goal.returns-in_default
returns-in_default c =
    let e : c.args.t ≡ 2 = omega arith in
    rw (e, c.tryte_ranks-all.ensures.0) (omega (arith, five_trits c.args.x))
