-- The layout has the counts of nodes and shadows: n + 1 zeros, n ones, k twos.
use Rattle.std.proofs.Common.{ℕ, ◌≡◌, ◌+◌, ◌≤◌, sym, List, arith}
use Rattle.format.specs.Lists.{count_in}
use Rattle.format.specs.Image.{node_count}
use Rattle.format.specs.Proper.{trits_of}
use Rattle.format.proofs.CheckLaws.{limits_nodes}
use Rattle.format.proofs.ProperLaws.{zeros_ones}
use Rattle.format.proofs.OnImage.{proper}
use Rattle.trits.specs.declared.Layout.{Layout}
use Rattle.trits.specs.Layout.{layout_of, Laid}
use Rattle.trits.proofs.image.Image.total.Goals as goal

module _ {b : List ℕ} {lay : Layout} (L : Laid b lay) where
  nodes_few : lay.nodes ≤ 30000
  unfolding layout_of
  nodes_few = rw L.is (limits_nodes (trits_of b) (proper L.whole).in_limits)

  zeros : lay.nodes + 1 ≡ count_in 0 (trits_of b)
  unfolding layout_of node_count
  zeros = rw L.is (sym (zeros_ones (trits_of b) (proper L.whole).is_balanced))

  ones : lay.nodes ≡ count_in 1 (trits_of b)
  unfolding layout_of node_count
  ones = rw L.is

  twos : lay.shadows ≡ count_in 2 (trits_of b)
  unfolding layout_of
  twos = rw L.is (proper L.whole).paired

pub overflow_add-result : goal.overflow_add-result
overflow_add-result c = omega (arith, nodes_few c.args.self.now.laid)

pub returns-in-0 : goal.returns-in-0
returns-in-0 c = rw c.in-0.is (zeros c.args.self.now.laid)

pub returns-in-1 : goal.returns-in-1
returns-in-1 c = rw c.in-1.is (ones c.args.self.now.laid)

pub returns-in_default : goal.returns-in_default
returns-in_default c = let e : c.args.t ≡ 2 = omega arith in rw e (twos c.args.self.now.laid)
