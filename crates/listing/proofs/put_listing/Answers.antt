-- The image is accepted, so the checker gives it. Assumes nothing.
use Rattle.listing.proofs.TextLaws.{fits, next, finish}
use Rattle.listing.proofs.LineLaws.{begin_listing}
use Rattle.listing.proofs.put_listing.Goals as goal

pub put_counts-requires : goal.put_counts-requires
put_counts-requires c = rw c.in-Ok.ensures.1 (fits (begin_listing _ _ c.requires.1))

pub put_nodes-requires : goal.put_nodes-requires
put_nodes-requires c = rw c.in-Ok.ensures.1 (fits (next (begin_listing _ _ c.requires.1) (rw c.in-Ok.ensures.1 at c.put_counts.ensures.wrote)))

pub returns-clause-wrote : goal.returns-clause-wrote
returns-clause-wrote c =
    let e = c.in-Ok.ensures.1 in
    finish (next (next (begin_listing _ _ c.requires.1) (rw e at c.put_counts.ensures.wrote)) (rw e at c.put_nodes.ensures.wrote))
