-- The operands stand between the node's zero and the next.
use Rattle.std.proofs.Common.{sym, ◌∙◌, arith}
use lib.Dec.{lit<}
use Rattle.format.specs.Proper.{trits_of, shadows_of}
use Rattle.format.specs.Question.{answer}
use Rattle.format.proofs.Replies.{operands_33}
use Rattle.format.proofs.OnImage.{proper}
use Rattle.asking.proofs.KindLaws.{nodes_few, selected_apart, zero_there, operands_value}
use Rattle.asking.proofs.question.Node.operands.Goals as goal

pub returns-then-b-ne0 : goal.returns-then-b-ne0
unfolding answer
returns-then-b-ne0 c =
    let n = c.args.self.now in
    let b = n.image.now.bytes.now in
    sym (operands_33 (trits_of b) (shadows_of b) n.number n.is_node.low n.is_node.high c.args.b (omega arith))

pub place-first-requires : goal.place-first-requires
place-first-requires c = let n = c.args.self.now.is_node in (lit< tt, n.low, omega (arith, zero_there n))

pub overflow_add-self : goal.overflow_add-self
overflow_add-self c =
    let n = c.args.self.now.is_node in
    omega (arith, n.high, nodes_few (proper n.laid.whole))

pub place-next-requires : goal.place-next-requires
place-next-requires c = (lit< tt, omega arith, zero_there c.args.self.now.is_node)

pub overflow_sub-next : goal.overflow_sub-next
overflow_sub-next c = omega (arith, selected_apart c.place-first.ensures c.place-next.ensures)

pub overflow_sub-next-2 : goal.overflow_sub-next-2
overflow_sub-next-2 c = omega (arith, selected_apart c.place-first.ensures c.place-next.ensures)

pub value-requires : goal.value-requires
value-requires c =
    omega (arith, c.place-next.ensures.inside, (proper c.args.self.now.is_node.laid.whole).length_high)

pub returns : goal.returns
returns c =
    c.value.ensures ∙ operands_value c.args.self.now.is_node c.if-b-ne0.false c.place-first.ensures c.place-next.ensures
