-- Ten digits at most. Assumes nothing.
use Rattle.format.specs.Listing.{decimal}
use Rattle.listing.proofs.text.Text.put_decimal.Goals as goal

pub put_digits-requires : goal.put_digits-requires
unfolding decimal
put_digits-requires c = c.requires

pub returns-clause-wrote : goal.returns-clause-wrote
unfolding decimal
returns-clause-wrote c = c.put_digits.ensures.wrote
