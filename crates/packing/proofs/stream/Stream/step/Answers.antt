-- By where the cursor stands.
use Rattle.std.proofs.Common.{arith}
use Rattle.packing.proofs.StreamLaws.{last, none_left}
use Rattle.packing.proofs.stream.Stream.step.Goals as goal

pub returns-then-c-self-2-clause-told : goal.returns-then-c-self-2-clause-told
returns-then-c-self-2-clause-told c = λ left r. last r c.args.self.now.walked (omega arith) c.if-c-self-2.true

pub returns-clause-told : goal.returns-clause-told
returns-clause-told c = λ left r. let n = none_left r (omega (arith, c.if-c-self.false, c.if-c-self-2.false)) in (n.0, n.1, r)
