-- A trit that is not 1 ends the count.
use Rattle.std.proofs.Common.{◌∙◌, arith}
use Rattle.format.specs.Trits.{untrytes}
use Rattle.format.proofs.Laws.{rank_zero}
use Rattle.format.proofs.CheckLaws.{length_untrytes, trits_untrytes}
use Rattle.proper.proofs.FirstLaws.{trit_of_lem, roots_zero, roots_two, roots_more, roots_end}
use Rattle.proper.proofs.first.roots_given.Goals as goal

pub loop-p-init : goal.loop-p-init
loop-p-init c =
    let x = c.args in
    (length_untrytes _ _ c.requires.0, record { threes = trits_untrytes x.l x.bs.now; inside = omega arith; ones = rank_zero 1 (untrytes x.l x.bs.now) })

pub returns-in-0 : goal.returns-in-0
returns-in-0 c = roots_zero c.loop-p.invariant.1 (omega arith) (trit_of_lem _ _ _ _ (omega arith) c.trit.ensures.0 ∙ c.in-0.is)

pub returns-in_default : goal.returns-in_default
returns-in_default c =
    let i = c.loop-p.invariant.1 in
    λ r e. roots_two i (omega arith) (trit_of_lem _ _ _ _ (omega arith) c.trit.ensures.0 ∙ omega arith) r

pub loop-p-preserved : goal.loop-p-preserved
loop-p-preserved c =
    let i = c.loop-p.invariant in
    (i.0, roots_more i.1 (omega arith) (trit_of_lem _ _ _ _ (omega arith) c.trit.ensures.0 ∙ c.in-1.is))

pub returns : goal.returns
returns c = λ r e. roots_end c.loop-p.invariant.1 (omega arith) e
