-- Sections 4 and 5 are compared together.
use Rattle.std.proofs.Common.{◌≡◌, ◌∙◌, ℕ, sym, ap}
use Rattle.format.proofs.Handed.{handed}
use Rattle.format.specs.Faults.{fault, ◌then◌}
use Rattle.format.specs.Lists.{same}
use Rattle.format.specs.Image.{bytes, starts, given, section4, section5}
use Rattle.format.specs.Proper.{check_given}
use Rattle.proper.specs.Held.{trits_in, shadows_in}
use Rattle.proper.specs.Examined.{given_from}
use Rattle.proper.proofs.OpenLaws.{front_refused, first_open, both_open}
use Rattle.proper.proofs.GivenLaws.{front4, front5, counted_nodes, counted_shadows, counted_marked}
use Rattle.proper.proofs.check.from4.Goals as goal
use Rattle.proper.proofs.check.from4.Goals.{In_ok-firsts, After-both_right}

pub returns-in_err-firsts : goal.returns-in_err-firsts
unfolding given
returns-in_err-firsts c =
    let w = c.args.walk.now in
    rw (handed c.from_residual.ensures.1) (front_refused (front4 (trits_in w.trits) (shadows_in w) (counted_marked c.requires)) (given_from 2 (trits_in w.trits) (shadows_in w)) _ _ c.in_err-firsts.ensures)

-- section 4's contents, and those behind them
fourth : (c : In_ok-firsts) → let w = c.args.walk.now in let trits = trits_in w.trits in let H = shadows_in w in
    (fault 25 (same c.in_ok-firsts.firsts.now (bytes 4 (starts trits H))) then check_given (given_from 2 trits H) c.in_ok-firsts.after4.now)
    ≡ check_given (given_from 1 trits H) c.args.rest.now
unfolding given section4
fourth c =
    let w = c.args.walk.now in
    first_open (front4 (trits_in w.trits) (shadows_in w) (counted_marked c.requires)) (given_from 2 (trits_in w.trits) (shadows_in w)) _ c.in_ok-firsts.ensures

pub returns-in-Err : goal.returns-in-Err
unfolding given
returns-in-Err c =
    let w = c.args.walk.now in
    let trits = trits_in w.trits in
    let H = shadows_in w in
    let C = c.requires in
    c.before5.ensures trits H w.known.shadowed (sym (counted_nodes C))
    ∙ ap (λ (k : ℕ). fault 25 (same c.in_ok-firsts.firsts.now (bytes 4 (starts trits H))) then k)
    (front_refused (front5 trits H C.marked.proper (counted_shadows C)) (given_from 3 trits H) _ _ c.in-Err.ensures)
    ∙ fourth (goal.at.returns-in-Err c).In_ok-firsts

-- both sections' contents, and those behind them
both : (c : After-both_right) → let w = c.args.walk.now in let trits = trits_in w.trits in let H = shadows_in w in
    (fault 25 c.both_right.result then check_given (given_from 3 trits H) c.in-Ok.after5.now) ≡ check_given (given_from 1 trits H) c.args.rest.now
unfolding given section5
both c =
    let w = c.args.walk.now in
    let trits = trits_in w.trits in
    let H = shadows_in w in
    let C = c.requires in
    both_open (front5 trits H C.marked.proper (counted_shadows C)) (given_from 3 trits H) _ c.in-Ok.ensures
    (same c.in_ok-firsts.firsts.now (bytes 4 (starts trits H))) c.both_right.result c.both_right.ensures
    ∙ fourth (goal.at-After-both_right c).In_ok-firsts

pub returns-then-not-both_right : goal.returns-then-not-both_right
returns-then-not-both_right c = rw c.if-not-both_right.true at (both (goal.at.returns-then-not-both_right c).After-both_right)

pub returns-else-not-both_right : goal.returns-else-not-both_right
returns-else-not-both_right c =
    c.from6.ensures (shadows_in c.args.walk.now) c.requires ∙ rw c.if-not-both_right.false at (both (goal.at.returns-else-not-both_right c).After-both_right)
