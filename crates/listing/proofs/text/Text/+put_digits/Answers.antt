-- The last digit stands behind the digits of a tenth, where there are any. Assumes nothing.
use Rattle.std.proofs.Common.{arith}
use Rattle.listing.proofs.TextLaws.{next, finish, digits_one, digits_more}
use Rattle.listing.proofs.text.Text.+put_digits.Goals as goal
use Rattle.listing.proofs.text.Text.+put_digits.Goals.{then-x-ge10, else-x-ge10}

pub returns-clause-wrote : goal.returns-clause-wrote
returns-clause-wrote t c = elim c.if-x-ge10.branch [
  | then-x-ge10 w ↦ finish (next (rw w.self-is (next (digits_more c.args.most c.args.x c.requires (λ e. omega arith) w.if-x-ge10.true) w.put_digits.ensures.wrote)) c.put.ensures.wrote)
  | else-x-ge10 w ↦ finish (next (rw w.self-is (digits_one c.args.most c.args.x c.requires (λ e. omega arith) (omega (arith, w.if-x-ge10.false)))) c.put.ensures.wrote)
]
