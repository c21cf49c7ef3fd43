-- A space and the number, then a star where the neighbour is a shadow. Assumes nothing.
use Rattle.std.proofs.Common.{[], ◌∷◌}
use Rattle.format.specs.Answers.{answer_numbers}
use Rattle.listing.specs.Neighbours.{star, neighbour_text}
use Rattle.listing.proofs.TextLaws.{Left, fits, next, finish}
use Rattle.listing.proofs.LineLaws.{begin_neighbour, shadow_left, real_left}
use Rattle.listing.proofs.lines.put_neighbour.Goals as goal
use Rattle.listing.proofs.lines.put_neighbour.Goals.{After-put_field}

-- the star is left, where there is one
node : (c : After-put_field) → let was = c.args.text.now in let now = c.put_field.new.self in let r = answer_numbers c.args.found in
    Left was.bytes.now was.end (neighbour_text r) now.bytes.now now.end (star r.sort ∷ [])
node c = next (begin_neighbour (answer_numbers c.args.found) c.value.ensures c.requires) c.put_field.ensures.wrote

pub put_field-requires : goal.put_field-requires
put_field-requires c = fits (begin_neighbour (answer_numbers c.args.found) c.value.ensures c.requires)

pub put-requires : goal.put-requires
put-requires c = fits (shadow_left _ c.is_shadow.ensures (node (goal.at.put-requires c).After-put_field) c.if-is_shadow.true)

pub returns-then-is_shadow-clause-wrote : goal.returns-then-is_shadow-clause-wrote
returns-then-is_shadow-clause-wrote c =
    finish (next (shadow_left _ c.is_shadow.ensures (node (goal.at.returns-then-is_shadow-clause-wrote c).After-put_field) c.if-is_shadow.true) c.put.ensures.wrote)

pub returns-else-is_shadow-clause-wrote : goal.returns-else-is_shadow-clause-wrote
returns-else-is_shadow-clause-wrote c =
    finish (real_left _ c.is_shadow.ensures (node (goal.at.returns-else-is_shadow-clause-wrote c).After-put_field) c.if-is_shadow.false)
