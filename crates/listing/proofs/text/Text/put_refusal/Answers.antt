-- The word and the number, then the end of the line. Assumes nothing.
use Rattle.listing.proofs.TextLaws.{fits, next, finish, begin_refusal}
use Rattle.listing.proofs.text.Text.put_refusal.Goals as goal

pub put_field-requires : goal.put_field-requires
put_field-requires c = fits (begin_refusal c.from-code.ensures c.requires)

pub put-requires : goal.put-requires
put-requires c = fits (next (begin_refusal c.from-code.ensures c.requires) c.put_field.ensures.wrote)

pub returns-clause-wrote : goal.returns-clause-wrote
returns-clause-wrote c = finish (next (next (begin_refusal c.from-code.ensures c.requires) c.put_field.ensures.wrote) c.put.ensures.wrote)
