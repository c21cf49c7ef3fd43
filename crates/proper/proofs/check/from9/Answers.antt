-- Section 9 is the last that sections 1 and 2 give.
use Rattle.std.proofs.Common.{◌≡◌, ◌*◌, ◌∙◌, ℕ, List, [], sym, arith}
use Rattle.std.proofs.lemmas.Bool.Decides.{nat_tests}
use Rattle.format.proofs.Handed.{handed}
use Rattle.format.specs.Image.{given, node_count, section9}
use Rattle.proper.proofs.OpenLaws.{Front, front_refused, contents_wrong, contents_passed, end_passed, end_wrong}
use Rattle.proper.proofs.GivenLaws.{front9}
use Rattle.proper.proofs.check.from9.Goals as goal
use Rattle.proper.proofs.check.from9.Goals.{After-div_ceil-words}

-- section 9's count and its size
front : (c : After-div_ceil-words) (trits H : List ℕ) → c.args.lay.nodes ≡ node_count trits → let w = c.div_ceil-words.result in Front (section9 trits H) w (2 * w)
front c trits H e = front9 trits H (sym e) (omega arith)

pub returns-in_err-part : goal.returns-in_err-part
unfolding given
returns-in_err-part c =
    rw (handed c.from_residual.ensures.1) (λ trits H M e. front_refused (front (goal.at.returns-in_err-part c).After-div_ceil-words trits H e) [] _ _ c.in_err-part.ensures)

pub returns-then-not-mark_samples_right : goal.returns-then-not-mark_samples_right
unfolding given section9
returns-then-not-mark_samples_right c trits H M e =
    contents_wrong (front (goal.at.returns-then-not-mark_samples_right c).After-div_ceil-words trits H e) [] _ c.in_ok-part.ensures (c.mark_samples_right.ensures trits H M) c.if-not-mark_samples_right.true

pub returns-then-not-is_empty : goal.returns-then-not-is_empty
unfolding given section9
returns-then-not-is_empty c trits H M e =
    end_wrong _ (λ z. grind (arith, nat_tests, z))
    ∙ contents_passed (front (goal.at.returns-then-not-is_empty c).After-div_ceil-words trits H e) [] _ c.in_ok-part.ensures (c.mark_samples_right.ensures trits H M) c.if-not-mark_samples_right.false

pub returns : goal.returns
unfolding given section9
returns c trits H M e =
    end_passed c.in_ok-part.end.now (grind (arith, nat_tests))
    ∙ contents_passed (front (goal.at.returns c).After-div_ceil-words trits H e) [] _ c.in_ok-part.ensures (c.mark_samples_right.ensures trits H M) c.if-not-mark_samples_right.false
