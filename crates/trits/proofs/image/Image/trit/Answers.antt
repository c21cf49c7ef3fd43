-- Tryte p / 5, trit p % 5.
use Rattle.std.proofs.Common.{◌≡◌, ◌+◌, ◌*◌, ◌/◌, ◌%◌, ◌∙◌, sym, arith}
use Rattle.trits.proofs.Trytes.{digit_here}
use Rattle.trits.proofs.image.Image.trit.Goals as goal

pub returns : goal.returns
returns c =
    let p = c.args.p in
    let e : 5 * (p / 5) + p % 5 ≡ p = omega arith in
    c.digit.ensures ∙ rw e at (sym (digit_here c.tryte.ensures (p % 5) (omega arith) (omega arith)))
