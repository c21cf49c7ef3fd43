-- Fewer ones than zeros before a trit break a rule; at the end the zeros are one more.
use Rattle.std.proofs.Common.{arith}
use Rattle.format.specs.Trits.{untrytes}
use Rattle.format.proofs.CheckLaws.{length_untrytes}
use Rattle.proper.proofs.FirstLaws.{tryted, ballot_none, ballot_few, ballot_broken, ballot_other, ballot_all}
use Rattle.proper.proofs.first.nodes_given.Goals as goal

pub loop-c-init : goal.loop-c-init
loop-c-init c = let x = c.args in (length_untrytes x.l x.bs.now c.requires.0, ballot_none (untrytes x.l x.bs.now))

pub returns-then-c : goal.returns-then-c
returns-then-c c = λ eb eg. ballot_broken c.loop-c.c.p c.loop-c.invariant.1 (omega arith) (omega arith) eb eg

pub onward-c-requires : goal.onward-c-requires
onward-c-requires c =
    let p = c.requires in
    let i = c.loop-c.invariant in
    (tryted p.0 p.1 p.2 p.3, (i.0, i.1, omega arith, omega arith))

pub overflow_add-c : goal.overflow_add-c
overflow_add-c c = omega (arith, ballot_few c.loop-c.invariant.1, c.loop-c.invariant.0, c.loop-c.invariant.1.inside)

pub returns-then-c-2 : goal.returns-then-c-2
returns-then-c-2 c = λ eb eg. ballot_other c.loop-c.invariant.1 (omega arith) (λ e. omega (arith, e)) eb

pub returns : goal.returns
returns c = ballot_all c.loop-c.invariant.1 (omega arith) (omega arith)
