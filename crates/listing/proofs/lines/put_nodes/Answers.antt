-- The line of the next node is left, and is put. Assumes nothing.
use Rattle.std.proofs.Common.{arith, refl, ◌∙◌}
use Rattle.listing.proofs.TextLaws.{fits, next, part_at, parts_done}
use Rattle.listing.proofs.LineLaws.{counts_small, nodes_are, begin_nodes}
use Rattle.listing.proofs.lines.put_nodes.Goals as goal

pub loop-i-init : goal.loop-i-init
loop-i-init c = record { left = begin_nodes c.args.image.now.bytes.now c.args.image.now.laid.is c.requires; same = refl }

pub overflow_cast-i : goal.overflow_cast-i
overflow_cast-i c = omega (arith, counts_small c.args.image.now.laid)

pub put_node-requires : goal.put_node-requires
put_node-requires c = (
  omega arith,
  omega (arith, nodes_are c.args.image.now.bytes.now c.args.image.now.laid.is),
  fits (part_at _ _ _ c.loop-i.invariant.left (omega arith) c.loop-i-test.true refl),
)

pub loop-i-preserved : goal.loop-i-preserved
loop-i-preserved c = record {
  left = next (part_at _ _ _ c.loop-i.invariant.left (omega arith) c.loop-i-test.true refl) c.put_node.ensures.wrote;
  same = c.put_node.ensures.same ∙ c.loop-i.invariant.same;
}

pub returns-clause-wrote : goal.returns-clause-wrote
returns-clause-wrote c = parts_done _ _ _ c.loop-i.invariant.left (omega arith)

pub returns-2-clause-wrote : goal.returns-2-clause-wrote
returns-2-clause-wrote c =
    parts_done _ _ _ (next (part_at _ _ _ c.loop-i.invariant.left (omega arith) c.loop-i-test.true refl) c.put_node.ensures.wrote) (omega arith)
