-- Sections 3 and 4, one behind the other, and section 9.
use Rattle.std.proofs.Common.{arith}
use Rattle.format.specs.Image.{section3, section4, section9}
use Rattle.format.proofs.Sums.{shadows_few}
use Rattle.packing.proofs.ImageLaws.{few_nodes, sized, offsets, within, marks_put}
use Rattle.packing.proofs.image.put_marks.Goals as goal

pub put-requires : goal.put-requires
put-requires c = omega (arith, within c.requires.2)

pub slice_bounds-put_marks-end : goal.slice_bounds-put_marks-end
slice_bounds-put_marks-end c = omega (arith, within c.requires.2)

pub put_marks-requires : goal.put_marks-requires
put_marks-requires c =
    let p = c.requires in
    let d = p.2 in
    let n = (sized d).nodes_are in
    (omega (arith, p.3.nodes, few_nodes d), omega (arith, p.3.nodes, within d, (offsets d).at4_is, (sized d).size_is 2), (p.0, p.1, p.3))

pub put-requires-2 : goal.put-requires-2
put-requires-2 c = omega (arith, within c.requires.2)

pub slice_bounds-put_starts-end : goal.slice_bounds-put_starts-end
slice_bounds-put_starts-end c = omega (arith, within c.requires.2)

pub put_starts-requires : goal.put_starts-requires
put_starts-requires c =
    let p = c.requires in
    let d = p.2 in
    (p.0, p.1, p.3, omega (arith, shadows_few d.proper), omega (arith, within d, (offsets d).at5_is, (sized d).size_is 3, (sized d).marked_are))

pub put-requires-3 : goal.put-requires-3
put-requires-3 c = omega (arith, within c.requires.2)

pub overflow_add-lay-2 : goal.overflow_add-lay-2
overflow_add-lay-2 c = omega (arith, within c.requires.2)

pub slice_bounds-put_mark_samples-end : goal.slice_bounds-put_mark_samples-end
slice_bounds-put_mark_samples-end c = omega (arith, within c.requires.2)

pub put_mark_samples-requires : goal.put_mark_samples-requires
put_mark_samples-requires c =
    let p = c.requires in
    let d = p.2 in
    let n = (sized d).nodes_are in
    (omega (arith, p.3.nodes, few_nodes d), omega (arith, p.3.nodes, within d), (p.0, p.1, p.3))

pub returns : goal.returns
unfolding section3 section4 section9
returns c =
    λ trits H d u.
    marks_put d (omega arith) c.put.ensures (c.put_marks.ensures trits H u) c.put-2.ensures (c.put_starts.ensures trits H u) c.put-3.ensures (c.put_mark_samples.ensures trits H u)
