-- The count of section 5, and its contents from sections 1 and 2.
use Rattle.std.proofs.Common.{arith, sym, ◌∙◌}
use Rattle.format.specs.Image.{section5}
use Rattle.format.proofs.Sums.{shadows_few}
use Rattle.packing.proofs.ImageLaws.{sized, offsets, within, places_ready, put_section}
use Rattle.packing.proofs.image.put_places.Goals as goal

pub first_indices-requires : goal.first_indices-requires
first_indices-requires c = let p = c.requires in (p.0, p.1, p.3, omega (arith, shadows_few p.2.laid.proper))

pub put-requires : goal.put-requires
put-requires c = omega (arith, within c.requires.2.laid)

pub put_places-requires : goal.put_places-requires
put_places-requires c =
    let p = c.requires in
    let f = c.first_indices.ensures in
    let r = places_ready p.2 _ c.put.auto.s c.put.ensures (f.0 ∙ sym p.3.nodes) (f.1 p.0 p.1 p.3) in
    (p.0, p.1, r.0, r.1, r.2)

pub returns : goal.returns
unfolding section5
returns c =
    let f = c.first_indices.ensures in
    let lay = c.args.lay in
    λ trits H s u.
    let o = offsets s.laid in
    let r = places_ready s _ c.put.auto.s c.put.ensures (f.0 ∙ sym u.nodes) (f.1 trits H u) in
    let e = c.put_places.ensures trits H r.0 r.1 r.2 in
    ((put_section lay.at5 lay.shadows _ (section5 trits H) (omega arith) (omega arith) (sized s.laid).shadows_are c.put.ensures e.0).is, e.1)
