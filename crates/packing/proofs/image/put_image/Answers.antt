-- What each function has put makes the image: sections 1 and 2 stand after each call, and the uses are in the work.
use Rattle.std.proofs.Common.{arith, refl, ◌-◌}
use Rattle.format.specs.Packing.{image_of}
use Rattle.packing.proofs.ImageLaws.{offsets, laid_walk, roots_from, started, stays, stays_marks, uses_in, all_put, ends_over}
use Rattle.packing.proofs.image.put_image.Goals as goal

pub put_walk-requires : goal.put_walk-requires
put_walk-requires c = let r = roots_from c.requires in (laid_walk c.requires, r.0, r.1)

pub put_marks-requires : goal.put_marks-requires
put_marks-requires c =
    let d = laid_walk c.requires in
    let s = started d c.put_walk.auto.image c.put_walk.ensures in
    (_, _, s.laid, uses_in d c.args.lay.nodes _ refl (c.uses_by_level.ensures _ c.requires.walked.held))

pub put_samples-requires : goal.put_samples-requires
put_samples-requires c =
    let d = laid_walk c.requires in
    let s = started d c.put_walk.auto.image c.put_walk.ensures in
    let u = uses_in d c.args.lay.nodes _ refl (c.uses_by_level.ensures _ c.requires.walked.held) in
    (_, _, stays_marks s c.put_marks.auto.image (c.put_marks.ensures _ _ s.laid u))

pub put_places-requires : goal.put_places-requires
put_places-requires c =
    let d = laid_walk c.requires in
    let s = started d c.put_walk.auto.image c.put_walk.ensures in
    let u = uses_in d c.args.lay.nodes _ refl (c.uses_by_level.ensures _ c.requires.walked.held) in
    let m = stays_marks s c.put_marks.auto.image (c.put_marks.ensures _ _ s.laid u) in
    let o = offsets m.laid in
    (_, _, stays m (c.args.lay.at6 - 4) _ (omega arith) (omega arith) c.put_samples.auto.image (c.put_samples.ensures _ _ m), u)

pub returns : goal.returns
unfolding image_of
returns c =
    let d = laid_walk c.requires in
    let s = started d c.put_walk.auto.image c.put_walk.ensures in
    let u = uses_in d c.args.lay.nodes _ refl (c.uses_by_level.ensures _ c.requires.walked.held) in
    let marks = c.put_marks.ensures _ _ s.laid u in
    let m = stays_marks s c.put_marks.auto.image marks in
    let samples = c.put_samples.ensures _ _ m in
    let o = offsets m.laid in
    let places = c.put_places.ensures _ _ (stays m (c.args.lay.at6 - 4) _ (omega arith) (omega arith) c.put_samples.auto.image samples) u in (
      all_put d c.put_walk.ensures marks samples places.0,
      ends_over d c.args.lay.nodes _ refl (c.uses_by_level.ensures _ c.requires.walked.held) places.1,
    )
