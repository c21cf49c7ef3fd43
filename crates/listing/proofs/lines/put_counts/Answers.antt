-- The counts of the graph, the counts of the image, and the end of the line. Assumes nothing.
use Rattle.std.proofs.Common.{arith, refl}
use Rattle.listing.proofs.TextLaws.{fits, next, finish}
use Rattle.listing.proofs.LineLaws.{counts_small, edges_are, begin_counts}
use Rattle.listing.proofs.lines.put_counts.Goals as goal

pub overflow_add-edges : goal.overflow_add-edges
overflow_add-edges c = omega (arith, counts_small c.args.image.now.laid)

pub overflow_sub-edges : goal.overflow_sub-edges
overflow_sub-edges c = omega (arith, edges_are c.args.image.now.laid)

pub put_three-requires : goal.put_three-requires
put_three-requires c = fits (begin_counts c.args.image.now.laid refl refl c.requires)

pub put_three-requires-2 : goal.put_three-requires-2
put_three-requires-2 c = fits (next (begin_counts c.args.image.now.laid refl refl c.requires) c.put_three.ensures.wrote)

pub put-requires : goal.put-requires
put-requires c = fits (next (next (begin_counts c.args.image.now.laid refl refl c.requires) c.put_three.ensures.wrote) c.put_three-2.ensures.wrote)

pub returns-clause-wrote : goal.returns-clause-wrote
returns-clause-wrote c =
    finish (next (next (next (begin_counts c.args.image.now.laid refl refl c.requires) c.put_three.ensures.wrote) c.put_three-2.ensures.wrote) c.put.ensures.wrote)
