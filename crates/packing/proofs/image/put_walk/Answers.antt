-- Sections 1 and 2, one behind the other.
use Rattle.std.proofs.Common.{arith}
use Rattle.format.specs.Image.{section1, section2}
use Rattle.packing.proofs.ImageLaws.{sized, offsets, within, walk_put}
use Rattle.packing.proofs.image.put_walk.Goals as goal

pub put-requires : goal.put-requires
put-requires c = omega (arith, within c.requires.0)

pub slice_bounds-put_trytes-end : goal.slice_bounds-put_trytes-end
slice_bounds-put_trytes-end c = omega (arith, within c.requires.0)

pub put_trytes-requires : goal.put_trytes-requires
put_trytes-requires c =
    let d = c.requires.0 in
    (c.requires.2, omega (arith, within d, (offsets d).at2_is, (sized d).size_is 0, (sized d).trits_are))

pub put-requires-2 : goal.put-requires-2
put-requires-2 c = omega (arith, within c.requires.0)

pub slice_bounds-put_shadows-end : goal.slice_bounds-put_shadows-end
slice_bounds-put_shadows-end c = omega (arith, within c.requires.0)

pub put_shadows-requires : goal.put_shadows-requires
put_shadows-requires c =
    let d = c.requires.0 in
    (c.requires.2, omega (arith, within d, (offsets d).at3_is, (sized d).size_is 1, (sized d).shadows_are))

pub returns : goal.returns
unfolding section1 section2
returns c = walk_put c.requires.0 c.put.ensures c.put_trytes.ensures c.put-2.ensures c.put_shadows.ensures
