-- 0 and what is above n are no nodes.
use Rattle.std.proofs.Common.{ℕ, zero, suc, ◌≤◌, ◌≡◌, true, false, refl, arith, rules}
use mathlib.Core.Logic.{inl, inr}
use native.Mathlib.Decide.{dec_le}
use Rattle.format.specs.Table.{is_node}
use Rattle.format.specs.Question.{Beyond}
use Rattle.format.proofs.Laws.{is_node_node, node_is_node}
use Rattle.asking.proofs.KindLaws.{nodes_is}
use Rattle.asking.proofs.question.Node.find.Goals as goal

beyond : (n a : ℕ) → is_node n a ≡ false → Beyond n a
beyond n zero e = inl refl
beyond n (suc a) e = go (dec_le (suc a) n)
  where
    go : Dec (suc a ≤ n) → Beyond n (suc a)
    go (yes l) = let t = node_is_node n (suc a) (omega arith, l) in absurd (cc)
    go (no m) = inr (omega arith)

pub returns-then-not-contains : goal.returns-then-not-contains
returns-then-not-contains c =
    let h : is_node c.args.image.now.lay.nodes c.args.a ≡ false = search rules in
    (refl, rw (nodes_is c.args.image.now.laid) at (beyond c.args.image.now.lay.nodes c.args.a h))

pub invariant_of-result : goal.invariant_of-result
invariant_of-result c =
    let L = c.args.image.now.laid in
    let h : is_node c.args.image.now.lay.nodes c.args.a ≡ true = search rules in
    let n = is_node_node _ _ h in
    record { is_node = record { laid = L; low = n.0; high = omega (arith, n.1, nodes_is L) } }
