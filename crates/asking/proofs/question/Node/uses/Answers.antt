-- The node's group, and its real use.
use Rattle.std.proofs.Common.{sym, ◌∙◌, arith}
use Rattle.format.specs.Proper.{trits_of, shadows_of}
use Rattle.format.specs.Question.{answer}
use Rattle.format.proofs.Replies.{uses_33}
use Rattle.format.proofs.OnImage.{proper}
use Rattle.asking.proofs.MarkedLaws.{node_counted}
use Rattle.asking.proofs.KindLaws.{roots_is, shadows_few, uses_root, uses_real}
use Rattle.asking.proofs.question.Node.uses.Goals as goal

pub returns-then-b-ne0 : goal.returns-then-b-ne0
unfolding answer
returns-then-b-ne0 c =
    let n = c.args.self.now in
    let b = n.image.now.bytes.now in
    sym (uses_33 (trits_of b) (shadows_of b) n.number n.is_node.low n.is_node.high c.args.b (omega arith))

pub overflow_sub-shadows : goal.overflow_sub-shadows
overflow_sub-shadows c = omega (arith, node_counted c.args.self.now.is_node c.find_group-group.ensures)

pub overflow_add-shadows : goal.overflow_add-shadows
overflow_add-shadows c =
    omega (arith, node_counted c.args.self.now.is_node c.find_group-group.ensures, shadows_few (proper c.args.self.now.is_node.laid.whole))

pub value-requires : goal.value-requires
value-requires c =
    omega (arith, node_counted c.args.self.now.is_node c.find_group-group.ensures, shadows_few (proper c.args.self.now.is_node.laid.whole))

pub value-requires-2 : goal.value-requires-2
value-requires-2 c =
    omega (arith, node_counted c.args.self.now.is_node c.find_group-group.ensures, shadows_few (proper c.args.self.now.is_node.laid.whole))

pub returns-then-self : goal.returns-then-self
returns-then-self c =
    let n = c.args.self.now.is_node in
    c.value.ensures
    ∙ uses_real n c.if-b-ne0.false (omega (arith, roots_is n.laid)) (omega (arith, node_counted c.args.self.now.is_node c.find_group-group.ensures))

pub returns : goal.returns
returns c =
    let n = c.args.self.now.is_node in
    c.value-2.ensures
    ∙ uses_root n c.if-b-ne0.false (omega (arith, roots_is n.laid)) (omega (arith, node_counted c.args.self.now.is_node c.find_group-group.ensures))
