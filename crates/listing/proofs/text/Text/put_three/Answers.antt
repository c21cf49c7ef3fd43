-- Each field stands behind the one before it. Assumes nothing.
use Rattle.std.proofs.Common.{refl, [], ◌∷◌}
use Rattle.listing.specs.Wrote.{field}
use Rattle.listing.proofs.TextLaws.{begin, next, finish}
use Rattle.listing.proofs.text.Text.put_three.Goals as goal

pub returns-clause-wrote : goal.returns-clause-wrote
returns-clause-wrote c =
    let x = c.args in
    let fields = field x.a.now x.x ∷ field x.b.now x.y ∷ field x.c.now x.z ∷ [] in
    finish (next (next (next (begin fields refl c.requires) c.put_field.ensures.wrote) c.put_field-2.ensures.wrote) c.put_field-3.ensures.wrote)
