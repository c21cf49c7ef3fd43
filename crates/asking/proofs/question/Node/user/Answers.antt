-- The real use is number 1, where the node is no root.
use Rattle.std.proofs.Common.{ap, ◌∙◌, arith}
use lib.Dec.{lit<}
use borrow.Author.Tests.{lt-ltb, le-ltb}
use Rattle.format.specs.Lists.{bit}
use Rattle.format.specs.Image.{root_count}
use Rattle.format.specs.Proper.{trits_of}
use Rattle.format.proofs.OnImage.{proper}
use Rattle.asking.proofs.KindLaws.{roots_is, zeros_few, one_there, user_zero, user_shadow, user_real}
use Rattle.asking.proofs.question.Node.user.Goals as goal

pub returns-then-b-eq0 : goal.returns-then-b-eq0
returns-then-b-eq0 c = user_zero c.args.self.now.is_node c.if-b-eq0.true

pub returns-then-self : goal.returns-then-self
returns-then-self c =
    let n = c.args.self.now in
    let root = le-ltb (root_count (trits_of n.image.now.bytes.now)) n.number (omega (arith, roots_is n.is_node.laid)) in
    user_shadow n.is_node _ c.shadow_user.ensures (omega (arith, ap bit root))

pub returns-then-b-ne1 : goal.returns-then-b-ne1
returns-then-b-ne1 c =
    let n = c.args.self.now in
    let other = lt-ltb (root_count (trits_of n.image.now.bytes.now)) n.number (omega (arith, roots_is n.is_node.laid)) in
    user_shadow n.is_node _ c.shadow_user-then-b-ne1.ensures (omega (arith, ap bit other))

pub place-p-requires : goal.place-p-requires
place-p-requires c = let n = c.args.self.now.is_node in (lit< tt, n.low, one_there n)

pub rank-requires : goal.rank-requires
rank-requires c = (lit< tt, omega (arith, c.place-p.ensures.inside))

pub listed-requires : goal.listed-requires
listed-requires c =
    omega (arith, c.rank.ensures, zeros_few (proper c.args.self.now.is_node.laid.whole) c.place-p.result)

pub returns : goal.returns
returns c =
    let n = c.args.self.now.is_node in
    c.listed.ensures
    ∙ user_real n c.if-b-ne1.false (omega (arith, roots_is n.laid)) c.place-p.ensures c.rank.ensures
