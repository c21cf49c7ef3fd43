-- An entry of section 5 is a place, and the zeros before it its user.
use Rattle.std.proofs.Common.{◌+◌, ◌-◌, ◌<◌, sym, ap, ◌∙◌, length, arith}
use lib.Dec.{lit<}
use Rattle.format.specs.Proper.{shadows_of}
use Rattle.format.specs.Question.{user_or33}
use Rattle.format.proofs.OnImage.{proper}
use Rattle.asking.proofs.MarkedLaws.{node_counted}
use Rattle.asking.proofs.KindLaws.{shadows_few, zeros_few, Two, place_two, edge_user, use_past, use_there}
use Rattle.asking.proofs.question.Node.shadow_user.Goals as goal
use Rattle.asking.proofs.question.Node.shadow_user.Goals.{Else-group-j, After-shadow_place-p}

pub overflow_sub-group : goal.overflow_sub-group
overflow_sub-group c = omega (arith, node_counted c.args.self.now.is_node c.find_group-group.ensures)

pub returns-then-group-j : goal.returns-then-group-j
returns-then-group-j c =
    use_past c.args.self.now.is_node (omega (arith, node_counted c.args.self.now.is_node c.find_group-group.ensures))

few : (c : Else-group-j) → c.find_group-group.result.first + (c.args.j - 1) < length (shadows_of c.args.self.now.image.now.bytes.now)
few c = omega (arith, node_counted c.args.self.now.is_node c.find_group-group.ensures)

pub overflow_add-group : goal.overflow_add-group
overflow_add-group c =
    omega (arith, few ((goal.at.overflow_add-group c).Else-group-j), shadows_few (proper c.args.self.now.is_node.laid.whole))

pub shadow_place-p-requires : goal.shadow_place-p-requires
shadow_place-p-requires c = few ((goal.at.shadow_place-p-requires c).Else-group-j)

two : (c : After-shadow_place-p) → Two (proper c.args.self.now.is_node.laid.whole) c.shadow_place-p.result
two c =
    let n = c.args.self.now.is_node in
    let g = node_counted n c.find_group-group.ensures in
    place_two (proper n.laid.whole) (omega (arith, g)) c.shadow_place-p.ensures

pub rank-requires : goal.rank-requires
rank-requires c = (lit< tt, omega (arith, (two ((goal.at.rank-requires c).After-shadow_place-p)).0))

pub listed-requires : goal.listed-requires
listed-requires c =
    omega (arith, c.rank.ensures, zeros_few (proper c.args.self.now.is_node.laid.whole) c.shadow_place-p.result)

pub returns : goal.returns
returns c =
    let n = c.args.self.now.is_node in
    let g = node_counted c.args.self.now.is_node c.find_group-group.ensures in
    c.listed.ensures
    ∙ edge_user (proper n.laid.whole) c.shadow_place-p.result (two ((goal.at.returns c).After-shadow_place-p)).1 c.rank.ensures
    ∙ ap user_or33 (sym (use_there n c.requires (omega (arith, g)) g.first_is c.shadow_place-p.ensures))
