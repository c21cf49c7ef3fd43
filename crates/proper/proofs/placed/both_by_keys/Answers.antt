-- The samples, then the keys.
use Rattle.std.proofs.Common.{arith, ℕ, List, sym, ap, ◌∙◌, subst}
use Rattle.format.specs.Lists.{over}
use Rattle.format.proofs.Sums.{shadows_few}
use Rattle.proper.specs.Held.{trits_in}
use Rattle.proper.specs.Places.{Spaced, two_samples}
use Rattle.proper.proofs.TwoLaws.{spaced, last_low, samples_at}
use Rattle.proper.proofs.placed.both_by_keys.Goals as goal
use Rattle.proper.proofs.placed.both_by_keys.Goals.{After-step_for-step}

-- the step
step : (c : After-step_for-step) → Spaced c.args.walk.now.trits.count c.step_for-step.result
step c = let t = c.args.walk.now.trits in subst (Spaced t.count) (sym c.step_for-step.ensures) (spaced (omega (arith, t.trits_in.few, t.counted)))

pub sample_twos-requires : goal.sample_twos-requires
sample_twos-requires c =
    let P = c.args.walk.now.known.shadowed.proper in
    (c.two_table-counts.ensures, c.requires.0, step (goal.at.sample_twos-requires c).After-step_for-step, omega (arith, P.paired, shadows_few P))

pub invariant_of-sampled : goal.invariant_of-sampled
invariant_of-sampled c =
    let t = c.args.walk.now.trits in
    let s = step (goal.at.invariant_of-sampled c).After-step_for-step in
    record {
      counted = c.two_table-counts.ensures;
      spaced = s;
      sampled = rw c.sample_twos.ensures (samples_at (trits_in t) _ _ (rw (t.counted, c.requires.0) (last_low s)) s.some);
    }

pub returns : goal.returns
returns c =
    let old : List ℕ = c.args.twos.now in
    (c.keys_right.ensures, c.sample_twos.ensures ∙ ap (λ (i : ℕ). over (two_samples (trits_in c.args.walk.now.trits) i) old) c.step_for-step.ensures)
