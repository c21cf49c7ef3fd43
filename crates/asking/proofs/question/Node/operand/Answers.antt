-- An operand stands before the next zero.
use Rattle.std.proofs.Common.{◌+◌, ◌<◌, sym, ap, ◌∙◌, length, arith}
use lib.Dec.{lit<}
use Rattle.format.specs.Proper.{trits_of}
use Rattle.trits.proofs.Trytes.{trits_is}
use Rattle.asking.proofs.KindLaws.{zero_there, operand_zero, operand_outside, operand_end, operand_other, operand_there}
use Rattle.asking.proofs.question.Node.operand.Goals as goal

pub returns-then-b-eq0 : goal.returns-then-b-eq0
returns-then-b-eq0 c = operand_zero c.args.self.now.is_node c.if-b-eq0.true

pub place-zero-requires : goal.place-zero-requires
place-zero-requires c = let n = c.args.self.now.is_node in (lit< tt, n.low, omega (arith, zero_there n))

pub overflow_sub-image : goal.overflow_sub-image
overflow_sub-image c = omega (arith, c.place-zero.ensures.inside, trits_is c.args.self.now.is_node.laid)

pub returns-then-image-zero : goal.returns-then-image-zero
returns-then-image-zero c =
    let n = c.args.self.now.is_node in
    operand_outside n (omega arith) c.place-zero.ensures (omega (arith, trits_is n.laid))

pub overflow_add-p : goal.overflow_add-p
overflow_add-p c = omega (arith, c.place-zero.ensures.inside, trits_is c.args.self.now.is_node.laid)

pub trit-t-requires : goal.trit-t-requires
trit-t-requires c = omega (arith, c.place-zero.ensures.inside, trits_is c.args.self.now.is_node.laid)

pub returns-then-t-eq0 : goal.returns-then-t-eq0
returns-then-t-eq0 c =
    operand_end c.args.self.now.is_node (omega arith) c.place-zero.ensures c.trit-t.ensures c.if-t-eq0.true

pub rank_both-before-requires : goal.rank_both-before-requires
rank_both-before-requires c = omega (arith, c.place-zero.ensures.inside, trits_is c.args.self.now.is_node.laid)

pub returns-then-before-self : goal.returns-then-before-self
returns-then-before-self c =
    operand_other c.args.self.now.is_node (omega arith) c.place-zero.ensures (ap (λ r. r.zeros) c.rank_both-before.ensures) c.if-before-self.true

pub edge-requires : goal.edge-requires
edge-requires c =
    let i : c.place-zero.result + c.args.b < length (trits_of c.args.self.now.image.now.bytes.now) =
    omega (arith, c.place-zero.ensures.inside, trits_is c.args.self.now.is_node.laid) in
    record { inside = i; ranks_are = c.rank_both-before.ensures; trit_is = c.trit-t.ensures; no_zero = omega arith }

pub returns : goal.returns
returns c =
    c.edge.ensures
    ∙ operand_there c.args.self.now.is_node (omega arith) c.place-zero.ensures
    (sym (ap (λ r. r.zeros) c.rank_both-before.ensures) ∙ c.if-before-self.false) (λ z. c.if-t-eq0.false (c.trit-t.ensures ∙ z))
