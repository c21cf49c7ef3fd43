-- A 1 is the next node; zeros and ones leave the twos.
use Rattle.std.proofs.Common.{◌≡◌, sym, ap, ◌∙◌, get_or, arith}
use Rattle.format.specs.Proper.{trits_of, shadows_of}
use Rattle.format.proofs.CheckLaws.{shadows_small}
use Rattle.format.proofs.OnImage.{proper}
use Rattle.asking.proofs.KindLaws.{ones_few, Twos, twos, edge_real, edge_shadow}
use Rattle.asking.proofs.question.edge.Goals as goal
use Rattle.asking.proofs.question.edge.Goals.{Else-t-eq1}

pub overflow_add-before : goal.overflow_add-before
overflow_add-before c =
    omega (arith, ap (λ r. r.ones) c.requires.ranks_are, ones_few (proper c.args.image.now.laid.whole) c.args.p)

pub listed-requires : goal.listed-requires
listed-requires c =
    omega (arith, ap (λ r. r.ones) c.requires.ranks_are, ones_few (proper c.args.image.now.laid.whole) c.args.p)

pub returns-then-t-eq1 : goal.returns-then-t-eq1
returns-then-t-eq1 c =
    let E = c.requires in
    c.listed.ensures ∙ edge_real (proper c.args.image.now.laid.whole) c.args.p (sym E.trit_is ∙ c.if-t-eq1.true) (ap (λ r. r.ones) E.ranks_are) (omega arith)

left : (c : Else-t-eq1) → Twos (proper c.args.image.now.laid.whole) c.args.p c.args.before.zeros c.args.before.ones
left c =
    let E = c.requires in
    twos (proper c.args.image.now.laid.whole) E.inside (ap (λ r. r.zeros) E.ranks_are) (ap (λ r. r.ones) E.ranks_are)

two : (c : Else-t-eq1) → get_or (trits_of c.args.image.now.bytes.now) c.args.p 0 ≡ 2
two c =
    let E = c.requires in
    omega (arith, c.if-t-eq1.false, E.trit_is, E.no_zero, (proper c.args.image.now.laid.whole).threes c.args.p E.inside)

pub overflow_sub-twos : goal.overflow_sub-twos
overflow_sub-twos c = omega (arith, (left ((goal.at.overflow_sub-twos c).Else-t-eq1)).room)

pub overflow_sub-twos-2 : goal.overflow_sub-twos-2
overflow_sub-twos-2 c = omega (arith, (left ((goal.at.overflow_sub-twos-2 c).Else-t-eq1)).room)

pub shadow-requires : goal.shadow-requires
shadow-requires c =
    let e = (goal.at.shadow-requires c).Else-t-eq1 in
    (left e).inside (two e)

pub listed-requires-2 : goal.listed-requires-2
listed-requires-2 c =
    let b = c.args.image.now.bytes.now in
    let e = (goal.at.listed-requires-2 c).Else-t-eq1 in
    omega (arith, c.shadow.ensures, shadows_small (trits_of b) (shadows_of b) (proper c.args.image.now.laid.whole) _ ((left e).inside (two e)))

pub returns : goal.returns
returns c =
    let e = (goal.at.returns c).Else-t-eq1 in
    c.listed-2.ensures
    ∙ edge_shadow (proper c.args.image.now.laid.whole) c.args.p (two e) (c.shadow.ensures ∙ ap (λ k. get_or (shadows_of c.args.image.now.bytes.now) k 0) (left e).left) (omega arith)
