-- The kind picks the function; kinds 3 to 6 need a node.
use Rattle.std.proofs.Common.{◌≡◌, ◌≤◌, refl, sym, ap, ◌∙◌, arith}
use lib.Dec.{lit≤}
use Rattle.format.specs.Proper.{trits_of, shadows_of}
use Rattle.format.specs.Question.{answer}
use Rattle.format.proofs.Handed.{handed}
use Rattle.format.proofs.Replies.{kind_unknown, node_32}
use Rattle.asking.specs.Kinds.{kind_number}
use Rattle.asking.specs.declared.kind.Kind.{Kind}
use Rattle.asking.specs.declared.kind.Kind.TheVariants.{Trit, Rank, Select, OperandCount, Operand, UseCount, User}
use Rattle.asking.proofs.question.answer.Goals as goal

-- the kinds that are left after 0 to 2, and after 0 to 5
of_node : (k : Kind) → (k ≡ Trit → ⊥) → (k ≡ Rank → ⊥) → (k ≡ Select → ⊥) → (3 ≤ kind_number k) × (kind_number k ≤ 6)
of_node Trit a b c = absurd (a refl)
of_node Rank a b c = absurd (b refl)
of_node Select a b c = absurd (c refl)
of_node OperandCount a b c = (lit≤ tt, lit≤ tt)
of_node Operand a b c = (lit≤ tt, lit≤ tt)
of_node UseCount a b c = (lit≤ tt, lit≤ tt)
of_node User a b c = (lit≤ tt, lit≤ tt)

of_user : (k : Kind) → (k ≡ Trit → ⊥) → (k ≡ Rank → ⊥) → (k ≡ Select → ⊥) → (k ≡ OperandCount → ⊥) → (k ≡ Operand → ⊥) → (k ≡ UseCount → ⊥) → kind_number k ≡ 6
of_user Trit a b c d e f = absurd (a refl)
of_user Rank a b c d e f = absurd (b refl)
of_user Select a b c d e f = absurd (c refl)
of_user OperandCount a b c d e f = absurd (d refl)
of_user Operand a b c d e f = absurd (e refl)
of_user UseCount a b c d e f = absurd (f refl)
of_user User a b c d e f = refl

pub returns-in_err-kind : goal.returns-in_err-kind
returns-in_err-kind c =
    let a = c.args in
    let b = a.image.now.bytes.now in
    rw (handed c.from_residual.ensures.1, c.in_err-kind.ensures.0) (sym (kind_unknown (trits_of b) (shadows_of b) a.kind a.a a.b c.in_err-kind.ensures.1))

pub returns-in-Trit : goal.returns-in-Trit
unfolding answer
returns-in-Trit c = let e : c.args.kind ≡ 0 = sym c.in_ok-kind.ensures ∙ ap kind_number c.in-Trit.is in rw e c.trit.ensures

pub returns-in-Rank : goal.returns-in-Rank
unfolding answer
returns-in-Rank c = let e : c.args.kind ≡ 1 = sym c.in_ok-kind.ensures ∙ ap kind_number c.in-Rank.is in rw e c.ranked.ensures

pub returns-in-Select : goal.returns-in-Select
unfolding answer
returns-in-Select c = let e : c.args.kind ≡ 2 = sym c.in_ok-kind.ensures ∙ ap kind_number c.in-Select.is in rw e c.selected.ensures

pub returns-in_err-node-in_default : goal.returns-in_err-node-in_default
returns-in_err-node-in_default c =
    let a = c.args in
    let b = a.image.now.bytes.now in
    let l = of_node c.in_ok-kind.kind c.in_default.not-Trit c.in_default.not-Rank c.in_default.not-Select in
    rw (handed c.from_residual-in_err-node-in_default.ensures.1, c.in_err-node-in_default.ensures.0)
    (sym (node_32 (trits_of b) (shadows_of b) a.kind a.a a.b (omega (arith, l, c.in_ok-kind.ensures)) (omega (arith, l, c.in_ok-kind.ensures)) c.in_err-node-in_default.ensures.1))

pub returns-in-OperandCount : goal.returns-in-OperandCount
unfolding answer
returns-in-OperandCount c =
    let e : c.args.kind ≡ 3 = sym c.in_ok-kind.ensures ∙ ap kind_number c.in-OperandCount.is in
    let n = c.in_ok-node-in_default.ensures in
    rw e (rw (n.0, n.1) at c.operands.ensures)

pub returns-in-Operand : goal.returns-in-Operand
unfolding answer
returns-in-Operand c =
    let e : c.args.kind ≡ 4 = sym c.in_ok-kind.ensures ∙ ap kind_number c.in-Operand.is in
    let n = c.in_ok-node-in_default.ensures in
    rw e (rw (n.0, n.1) at c.operand.ensures)

pub returns-in-UseCount : goal.returns-in-UseCount
unfolding answer
returns-in-UseCount c =
    let e : c.args.kind ≡ 5 = sym c.in_ok-kind.ensures ∙ ap kind_number c.in-UseCount.is in
    let n = c.in_ok-node-in_default.ensures in
    rw e (rw (n.0, n.1) at c.uses.ensures)

pub returns-in_default-kind : goal.returns-in_default-kind
unfolding answer
returns-in_default-kind c =
    let d = c.in_default in
    let o = c.in_default-kind in
    let e : c.args.kind ≡ 6 = sym c.in_ok-kind.ensures ∙ of_user c.in_ok-kind.kind d.not-Trit d.not-Rank d.not-Select o.not-OperandCount o.not-Operand o.not-UseCount in
    let n = c.in_ok-node-in_default.ensures in
    rw e (rw (n.0, n.1) at c.user.ensures)
