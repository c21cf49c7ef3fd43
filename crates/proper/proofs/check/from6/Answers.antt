-- Each section is taken off the front, and those behind it are left.
use Rattle.std.proofs.Common.{◌∙◌}
use Rattle.format.proofs.Handed.{handed}
use Rattle.samples.specs.Samples.{far, middle, near}
use Rattle.proper.specs.Held.{trits_in}
use Rattle.proper.specs.Examined.{given_from}
use Rattle.proper.proofs.GivenLaws.{check_samples, counted_nodes}
use Rattle.proper.proofs.check.from6.Goals as goal

pub sample_section-requires : goal.sample_section-requires
sample_section-requires c = (0, far)

pub returns-in_err-after6 : goal.returns-in_err-after6
returns-in_err-after6 c =
    let t = c.args.trits.now in
    rw (handed c.from_residual.ensures.1) (λ H C. c.in_err-after6.ensures _ ∙ check_samples (trits_in t) H t.trits_in.few far _)

pub sample_section-requires-2 : goal.sample_section-requires-2
sample_section-requires-2 c = (1, middle)

pub returns-in_err-after7 : goal.returns-in_err-after7
returns-in_err-after7 c =
    let t = c.args.trits.now in
    let few = t.trits_in.few in
    rw (handed c.from_residual-in_err-after7.ensures.1) (λ H C.
    c.in_err-after7.ensures _ ∙ check_samples (trits_in t) H few middle _
    ∙ c.in_ok-after6.ensures.1 (given_from 4 (trits_in t) H) ∙ check_samples (trits_in t) H few far _)

pub sample_section-requires-3 : goal.sample_section-requires-3
sample_section-requires-3 c = (2, near)

pub returns-in_err-after8 : goal.returns-in_err-after8
returns-in_err-after8 c =
    let t = c.args.trits.now in
    let few = t.trits_in.few in
    rw (handed c.from_residual-in_err-after8.ensures.1) (λ H C.
    c.in_err-after8.ensures _ ∙ check_samples (trits_in t) H few near _
    ∙ c.in_ok-after7.ensures.1 (given_from 5 (trits_in t) H) ∙ check_samples (trits_in t) H few middle _
    ∙ c.in_ok-after6.ensures.1 (given_from 4 (trits_in t) H) ∙ check_samples (trits_in t) H few far _)

pub returns : goal.returns
returns c H C =
    let t = c.args.trits.now in
    let few = t.trits_in.few in
    c.from9.ensures (trits_in t) H C.marked (counted_nodes C)
    ∙ c.in_ok-after8.ensures.1 (given_from 6 (trits_in t) H) ∙ check_samples (trits_in t) H few near _
    ∙ c.in_ok-after7.ensures.1 (given_from 5 (trits_in t) H) ∙ check_samples (trits_in t) H few middle _
    ∙ c.in_ok-after6.ensures.1 (given_from 4 (trits_in t) H) ∙ check_samples (trits_in t) H few far _
