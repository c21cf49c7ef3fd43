-- The count of the section, and its contents from section 1.
use Rattle.std.proofs.Common.{arith, sym, ap, ℕ, List, ◌/◌, ◌+◌, ◌-◌}
use Rattle.format.proofs.Sizes.{length_bytes, length_pairs}
use Rattle.samples.specs.Samples.{sample_section}
use Rattle.packing.specs.Packed.{Started}
use Rattle.packing.proofs.ImageLaws.{sized, within, stays, trits_at, plan_stays, put_section}
use Rattle.packing.proofs.image.put_sample_section.Goals as goal
use Rattle.packing.proofs.image.put_sample_section.Goals.{After-put}

-- sections 1 and 2 stand when the count is put
counted : (c : After-put) → let x = c.args in (trits H : List ℕ) → Started trits H x.lay x.image.now → Started trits H x.lay c.put.new.s
counted c trits H s =
    let p = c.requires in
    stays s (c.args.at - 4) _ (omega (arith, p.4, within s.laid)) (omega (arith, p.3.room)) c.put.auto.s c.put.ensures

pub put_samples-requires : goal.put_samples-requires
put_samples-requires c =
    let p = c.requires in
    let s = counted (goal.at.put_samples-requires c).After-put p.0 p.1 p.2 in
    (plan_stays p.3 c.put.auto.s, (p.0, trits_at s _ (omega (arith, p.4)), sym (sized s.laid).trits_are))

pub returns : goal.returns
unfolding sample_section
returns c =
    let x = c.args in
    let p = c.requires in
    λ trits H s.
    let t = counted (goal.at.returns c).After-put trits H s in
    let n = (sized s.laid).trits_are in
    let e = c.put_samples.ensures trits (trits_at t _ (omega (arith, p.4))) (sym n) in (
      (put_section x.at (x.lay.trits / x.plan.step + 1) _ (sample_section x.plan.step x.plan.fan x.plan.width trits) (omega (arith, p.4, within s.laid)) (rw (length_bytes, length_pairs, ← n) p.3.room) (ap (λ (k : ℕ). k / x.plan.step + 1) n) c.put.ensures e).is,
      stays t x.at _ (omega (arith, p.4)) (omega (arith, p.3.room, c.put.auto.s)) c.put_samples.auto.image e,
    )
