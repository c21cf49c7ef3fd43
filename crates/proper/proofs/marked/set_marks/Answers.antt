-- An entry's bit is set in its word.
use Rattle.std.proofs.Common.{arith}
use Rattle.proper.proofs.ShadowLaws.{length_shadows}
use Rattle.proper.proofs.MapLaws.{filled_more, filled_all}
use Rattle.proper.proofs.marked.set_marks.Goals as goal

pub shadow-v-requires : goal.shadow-v-requires
shadow-v-requires c =
    let known = c.requires.1 in
    (known.0, known.1, known.2, omega (arith, length_shadows known.2))

pub loop-i-preserved : goal.loop-i-preserved
loop-i-preserved c =
    filled_more c.loop-i.invariant c.loop-i-test.true c.shadow-v.ensures.0 c.shadow-v.ensures.1 c.shadow-v.ensures.2 c.with_mark.ensures

pub returns : goal.returns
returns c = filled_all c.loop-i.invariant c.loop-i-test.false
