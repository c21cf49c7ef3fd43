-- The number stands behind the word. Assumes nothing.
use Rattle.format.specs.Listing.{decimal}
use Rattle.listing.proofs.TextLaws.{begin_two, next, finish}
use Rattle.listing.proofs.text.Text.put_field.Goals as goal

pub returns-clause-wrote : goal.returns-clause-wrote
returns-clause-wrote c = finish (next (next (begin_two c.args.word.now (decimal c.args.x) c.requires) c.put.ensures.wrote) c.put_decimal.ensures.wrote)
