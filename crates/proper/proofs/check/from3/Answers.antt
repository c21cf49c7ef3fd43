-- Sections 1, 2 and 3 have passed where section 3 has.
use Rattle.std.proofs.Common.{◌≡◌, ◌*◌, ◌∙◌, ◌≤◌, sym, arith}
use Rattle.format.proofs.Handed.{handed}
use Rattle.format.specs.Image.{given, section3}
use Rattle.format.proofs.Laws.{same_eq}
use Rattle.format.proofs.CheckLaws.{limits_nodes}
use Rattle.format.proofs.Sums.{shadows_few}
use Rattle.format.specs.Proper.{check_given}
use Rattle.proper.specs.Held.{trits_in, shadows_in}
use Rattle.proper.specs.Known.{Marked}
use Rattle.proper.specs.Examined.{Counted, given_from}
use Rattle.proper.proofs.OpenLaws.{Front, front_refused, contents_wrong, contents_passed}
use Rattle.proper.proofs.GivenLaws.{front3, marked_few, laying_is}
use Rattle.proper.proofs.check.from3.Goals as goal
use Rattle.proper.proofs.check.from3.Goals.{Start, After-div_ceil, Else-not-marks_right, After-lay_out-lay}

-- there are no more nodes than an image can have
few : (c : Start) → c.args.sizes.nodes ≤ 30000
few c = let w = c.args.walk.now in omega (arith, c.requires.nodes_are, limits_nodes (trits_in w.trits) w.known.shadowed.proper.in_limits)

-- section 3's count and its size
front : (c : After-div_ceil) → let w = c.args.walk.now in Front (section3 (trits_in w.trits) (shadows_in w)) c.args.sizes.nodes (8 * c.div_ceil.result)
front c = let w = c.args.walk.now in front3 (trits_in w.trits) (shadows_in w) c.requires.nodes_are (omega arith)

pub returns-in_err-marks : goal.returns-in_err-marks
unfolding given
returns-in_err-marks c =
    let w = c.args.walk.now in
    rw (handed c.from_residual.ensures.1) (sym (front_refused (front (goal.at.returns-in_err-marks c).After-div_ceil) (given_from 1 (trits_in w.trits) (shadows_in w)) _ _ c.in_err-marks.ensures))

pub returns-then-not-marks_right : goal.returns-then-not-marks_right
unfolding given section3
returns-then-not-marks_right c =
    let w = c.args.walk.now in
    let n = c.requires.nodes_are in
    sym (contents_wrong (front (goal.at.returns-then-not-marks_right c).After-div_ceil) (given_from 1 (trits_in w.trits) (shadows_in w)) _ c.in_ok-marks.ensures
    (c.marks_right.ensures _ _ w.known.shadowed n) c.if-not-marks_right.true)

-- section 3 holds the marks
marked : (c : Else-not-marks_right) → let w = c.args.walk.now in Marked (trits_in w.trits) (shadows_in w) c.in_ok-marks.marks.now
marked c =
    let S = c.args.walk.now.known.shadowed in
    record { proper = S.proper; marks_are = same_eq _ _ (sym (c.marks_right.ensures _ _ S c.requires.nodes_are) ∙ c.if-not-marks_right.false) }

pub count_marks-h-requires : goal.count_marks-h-requires
count_marks-h-requires c = (_, _, marked (goal.at.count_marks-h-requires c).Else-not-marks_right)

pub lay_out-lay-requires : goal.lay_out-lay-requires
lay_out-lay-requires c =
    let w = c.args.walk.now in
    let S = c.requires in
    let h = c.count_marks-h.ensures _ _ (marked (goal.at.lay_out-lay-requires c).Else-not-marks_right) in
    let P = w.known.shadowed.proper in
    let n : c.args.sizes.nodes ≤ 30000 = few (goal.at.lay_out-lay-requires c).Start in
    (omega (arith, S.trits_are, P.length_high), n, omega (arith, S.twos_are, P.paired, shadows_few P), omega (arith, h, marked_few (trits_in w.trits) (shadows_in w), n, S.nodes_are))

-- sections 1, 2 and 3 have passed
counted : (c : After-lay_out-lay) → let w = c.args.walk.now in Counted (trits_in w.trits) (shadows_in w) c.in_ok-marks.marks.now c.lay_out-lay.result
counted c =
    let w = c.args.walk.now in
    let M = marked (goal.at-After-lay_out-lay c).Else-not-marks_right in
    record { marked = M; laid = c.lay_out-lay.ensures ∙ laying_is (shadows_in w) c.requires w.known.shadowed.proper.paired (c.count_marks-h.ensures _ _ M) }

pub from4-requires : goal.from4-requires
from4-requires c = counted (goal.at.from4-requires c).After-lay_out-lay

-- section 3's contents, and those behind them
behind : (c : After-lay_out-lay) → let w = c.args.walk.now in let trits = trits_in w.trits in let H = shadows_in w in
    check_given (given_from 1 trits H) c.in_ok-marks.after3.now ≡ check_given (given trits H) c.args.rest.now
unfolding given section3
behind c =
    let w = c.args.walk.now in
    let n = c.requires.nodes_are in
    contents_passed (front (goal.at-After-lay_out-lay c).After-div_ceil) (given_from 1 (trits_in w.trits) (shadows_in w)) _ c.in_ok-marks.ensures
    (c.marks_right.ensures _ _ w.known.shadowed n) c.if-not-marks_right.false

pub returns-in_err-from4 : goal.returns-in_err-from4
returns-in_err-from4 c =
    rw (handed c.from_residual-in_err-from4.ensures.1) (sym (c.in_err-from4.ensures ∙ behind (goal.at.returns-in_err-from4 c).After-lay_out-lay))

pub returns : goal.returns
returns c =
    let laid = (goal.at.returns c).After-lay_out-lay in
    (sym (c.in_ok-from4.ensures ∙ behind laid), (counted laid).laid)
