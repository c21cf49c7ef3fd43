-- The marks before the node and up to it are numbers of section 4.
use Rattle.std.proofs.Common.{suc, ◌≡◌, ◌+◌}
use Rattle.format.specs.Trits.{rank}
use Rattle.format.specs.Image.{marks}
use Rattle.format.specs.Proper.{trits_of, shadows_of}
use Rattle.format.proofs.OnImage.{proper}
use Rattle.asking.proofs.MarkedLaws.{marks_here, marks_next, mark_inside, group_bounds}
use Rattle.asking.proofs.index.find_group.Goals as goal
use Rattle.asking.proofs.index.find_group.Goals.{After-mark_in}

here : (c : After-mark_in) → let b = c.args.image.now.bytes.now in
    c.sample.result + c.ones_below.result ≡ rank 1 (marks (trits_of b) (shadows_of b)) c.args.i
here c =
    let b = c.args.image.now.bytes.now in
    marks_here (trits_of b) (shadows_of b) c.args.i _ _ _ _ c.requires c.word-w.ensures c.sample.ensures.0 c.ones_below.ensures.0 c.mark_in.ensures

upto : (c : After-mark_in) → let b = c.args.image.now.bytes.now in
    c.sample.result + c.ones_below.result + c.mark_in.result ≡ rank 1 (marks (trits_of b) (shadows_of b)) (suc c.args.i)
upto c =
    let b = c.args.image.now.bytes.now in
    marks_next (trits_of b) (shadows_of b) c.args.i _ _ _ _ c.requires c.word-w.ensures c.sample.ensures.0 c.ones_below.ensures.0 c.mark_in.ensures

pub start-first-requires : goal.start-first-requires
start-first-requires c =
    let b = c.args.image.now.bytes.now in
    mark_inside (trits_of b) (shadows_of b) _ _ (here ((goal.at.start-first-requires c).After-mark_in))

pub start-next-requires : goal.start-next-requires
start-next-requires c =
    let b = c.args.image.now.bytes.now in
    mark_inside (trits_of b) (shadows_of b) _ _ (upto ((goal.at.start-next-requires c).After-mark_in))

pub returns : goal.returns
returns c =
    let m = (goal.at.returns c).After-mark_in in
    group_bounds (proper c.args.image.now.laid.whole) c.args.i _ _ c.requires (here m) (upto m) c.start-first.ensures c.start-next.ensures
