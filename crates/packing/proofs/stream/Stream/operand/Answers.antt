-- An operand is real exactly if its level number is the next one.
use Rattle.std.proofs.Common.{arith, refl}
use Rattle.packing.proofs.StreamLaws.{operand_node, real, shadow}
use Rattle.packing.proofs.stream.Stream.operand.Goals as goal

pub bounds-self-self : goal.bounds-self-self
bounds-self-self c =
    let p = c.requires in
    let k = c.args.self.now.walked in
    omega (arith, operand_node p.0.rest k p.1 _ c.from-v.ensures, k.held.room)

pub returns-then-p-c-clause-told : goal.returns-then-p-c-clause-told
returns-then-p-c-clause-told c = λ left r. real r c.args.self.now.walked c.requires.1 _ c.from-v.ensures _ refl c.if-p-c.true

pub returns-clause-told : goal.returns-clause-told
returns-clause-told c = λ left r. shadow r c.args.self.now.walked c.requires.1 _ c.from-v.ensures _ refl c.if-p-c.false
