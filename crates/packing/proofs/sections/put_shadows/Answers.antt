-- One trit more, which may be a shadow.
use Rattle.packing.proofs.SectionLaws.{shadows_none, room, other_trit, one_shadow, all_shadows}
use Rattle.packing.proofs.sections.put_shadows.Goals as goal

pub loop-trit-init : goal.loop-trit-init
loop-trit-init c = shadows_none _ c.requires.1 c.first-c.ensures

pub put-requires : goal.put-requires
put-requires c = let s = c.loop-trit.invariant in room s (rw c.in-Shadow.is at (c.in-Some.ensures.told s.next s.rest))

pub loop-trit-preserved-in-Shadow : goal.loop-trit-preserved-in-Shadow
loop-trit-preserved-in-Shadow c =
    let s = c.loop-trit.invariant in
    one_shadow s (rw c.in-Shadow.is at (c.in-Some.ensures.told s.next s.rest)) _ c.put.auto.s c.put.ensures

pub loop-trit-preserved : goal.loop-trit-preserved
loop-trit-preserved c = let s = c.loop-trit.invariant in other_trit s _ c.in_default-trit.not-Shadow (c.in-Some.ensures.told s.next s.rest)

pub returns : goal.returns
returns c = let s = c.loop-trit.invariant in all_shadows s (rw c.in_default.is at (c.step.ensures.told s.next s.rest)).1
