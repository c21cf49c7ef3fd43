-- The product is the quotient, for every byte.
use Rattle.std.proofs.Common.{ℕ, ◌*◌, ◌/◌, ◌∙◌, ap}
use Rattle.trits.proofs.Trytes.{rest_is}
use Rattle.trits.proofs.digits.tryte_rest.Goals as goal

pub returns : goal.returns
returns c =
    ap (λ (m : ℕ). c.args.x * m / 65536) c.inverse.ensures ∙ rest_is c.args.x c.args.r c.requires.0 c.requires.1
