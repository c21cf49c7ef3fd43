-- The walk, what `put_all` leaves, and the work cleared.
use Rattle.std.proofs.Common.{arith}
use Rattle.packing.proofs.PackLaws.{uncleared_8, now_cleared, all_walked}
use Rattle.packing.proofs.pack.pack_nodes.Goals as goal

pub returns-then-tail-n : goal.returns-then-tail-n
returns-then-tail-n c =
    let p = c.requires in
    now_cleared (uncleared_8 p.measured c.order_nodes-tail.ensures.0 (omega arith) p.order_room) _ c.order_nodes-tail.auto.work c.order_nodes-tail.ensures.1 c.clear.ensures

pub put_all-r-requires : goal.put_all-r-requires
put_all-r-requires c =
    let p = c.requires in
    record { measured = p.measured; order_room = p.order_room; walked = all_walked c.order_nodes-tail.ensures.0 (omega arith) }

pub returns : goal.returns
returns c = now_cleared c.put_all-r.ensures _ c.order_nodes-tail.auto.work c.order_nodes-tail.ensures.1 c.clear-2.ensures
