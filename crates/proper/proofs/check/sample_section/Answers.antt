-- The section is the pairs that its trits give.
use Rattle.std.proofs.Common.{◌∙◌, ◌*◌, ◌+◌, ◌/◌, ℕ, sym, ap}
use Rattle.format.specs.Proper.{rest_of}
use Rattle.format.proofs.Handed.{handed}
use Rattle.samples.specs.Samples.{sample_section}
use Rattle.proper.specs.Held.{trits_in}
use Rattle.proper.proofs.OpenLaws.{Front, front_refused, contents_wrong, contents_passed}
use Rattle.proper.proofs.GivenLaws.{front_samples}
use Rattle.proper.proofs.PairLaws.{planned}
use Rattle.proper.proofs.check.sample_section.Goals as goal
use Rattle.proper.proofs.check.sample_section.Goals.{Start}

-- how many entries and bytes the section has
front : (c : Start) → let x = c.args in let n = x.trits.now.count / x.plan.step + 1 in
    Front (sample_section x.plan.step x.plan.fan x.plan.width (trits_in x.trits.now)) n (x.plan.width * (2 * n))
front c = let x = c.args in front_samples (trits_in x.trits.now) x.plan.step x.plan.fan x.plan.width x.trits.now.counted

pub returns-in_err-part : goal.returns-in_err-part
returns-in_err-part c =
    rw (handed c.from_residual.ensures.1) (λ ss. front_refused (front (goal.at.returns-in_err-part c).Start) ss _ _ c.in_err-part.ensures)

pub samples_right-requires : goal.samples_right-requires
samples_right-requires c =
    let t = c.args.trits.now in
    let full = c.in_ok-part.ensures.cut.part_long ∙ ap (λ (k : ℕ). c.args.plan.width * (2 * (k / c.args.plan.step + 1))) (sym t.counted) in
    planned c.requires.1 (trits_in t) _ t.trits_in.few full

pub returns-then-not-samples_right : goal.returns-then-not-samples_right
unfolding sample_section
returns-then-not-samples_right c ss =
    contents_wrong (front (goal.at.returns-then-not-samples_right c).Start) ss _ c.in_ok-part.ensures c.samples_right.ensures c.if-not-samples_right.true

pub returns : goal.returns
unfolding sample_section
returns c =
    let F = front (goal.at.returns c).Start in (
      c.in_ok-part.ensures.cut.rest_is ∙ ap (λ (k : ℕ). rest_of k c.args.rest.now) (sym F.fills),
      λ ss. contents_passed F ss _ c.in_ok-part.ensures c.samples_right.ensures c.if-not-samples_right.false,
    )
