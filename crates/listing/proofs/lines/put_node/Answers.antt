-- The number, the operands, the users, and the end of the line. Assumes nothing.
use Rattle.listing.proofs.TextLaws.{fits, next, finish}
use Rattle.listing.proofs.LineLaws.{begin_node}
use Rattle.listing.proofs.lines.put_node.Goals as goal

pub put_decimal-requires : goal.put_decimal-requires
put_decimal-requires c = let x = c.requires in fits (begin_node c.args.image.now.bytes.now c.args.i x.0 x.1 x.2)

pub put_neighbours-requires : goal.put_neighbours-requires
put_neighbours-requires c =
    let x = c.requires in fits (next (begin_node c.args.image.now.bytes.now c.args.i x.0 x.1 x.2) c.put_decimal.ensures.wrote)

pub put_neighbours-requires-2 : goal.put_neighbours-requires-2
put_neighbours-requires-2 c =
    let x = c.requires in
    fits (next (next (begin_node c.args.image.now.bytes.now c.args.i x.0 x.1 x.2) c.put_decimal.ensures.wrote) c.put_neighbours.ensures.wrote)

pub put-requires : goal.put-requires
put-requires c =
    let x = c.requires in
    fits (next (next (next (begin_node c.args.image.now.bytes.now c.args.i x.0 x.1 x.2) c.put_decimal.ensures.wrote) c.put_neighbours.ensures.wrote) c.put_neighbours-2.ensures.wrote)

pub returns-clause-wrote : goal.returns-clause-wrote
returns-clause-wrote c =
    let x = c.requires in
    finish (next (next (next (next (begin_node c.args.image.now.bytes.now c.args.i x.0 x.1 x.2) c.put_decimal.ensures.wrote) c.put_neighbours.ensures.wrote) c.put_neighbours-2.ensures.wrote)
    c.put.ensures.wrote)
