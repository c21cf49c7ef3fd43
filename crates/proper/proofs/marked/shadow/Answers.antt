-- An entry of section 2 is an entry of H.
use Rattle.std.proofs.Common.{arith, ◌∙◌}
use Rattle.format.proofs.CheckLaws.{limits_nodes}
use Rattle.proper.proofs.ShadowLaws.{length_shadows, shadow_at_lem, all_nodes}
use Rattle.proper.proofs.marked.shadow.Goals as goal

pub overflow_mul-i : goal.overflow_mul-i
overflow_mul-i c = omega (arith, length_shadows c.requires.2)

pub get-requires-clause-inside : goal.get-requires-clause-inside
get-requires-clause-inside c = omega (arith, length_shadows c.requires.2)

pub returns : goal.returns
returns c =
    let s = c.requires.2 in
    let i = c.args.i in
    let is = c.get.ensures.0 ∙ shadow_at_lem s i c.requires.3 in
    let node = all_nodes s.proper i c.requires.3 in
    (omega arith, omega (arith, limits_nodes c.requires.0 s.proper.in_limits), λ trits H t. c.get.ensures.0 ∙ shadow_at_lem t i (omega (arith, length_shadows s, length_shadows t)))
