-- What it leaves is packing's outcome, but that the work is not cleared.
use Rattle.std.proofs.Common.{◌≡◌, arith}
use Rattle.format.specs.Lists.{up}
use Rattle.packing.specs.Work.{graph_of}
use Rattle.packing.specs.Packed.{graph_layout}
use Rattle.packing.proofs.PackLaws.{totals, laid_out, size_small, uncleared_9, planned, uncleared_done}
use Rattle.packing.proofs.pack.put_all.Goals as goal
use Rattle.packing.proofs.pack.put_all.Goals.{After-lay_out-lay}

laid : (c : After-lay_out-lay) → c.lay_out-lay.result ≡ graph_layout (graph_of c.args.table.now)
laid c = let o = c.requires in laid_out o c.lay_out-lay.ensures (c.count_marked-marked.ensures _ o.walked.held)

pub overflow_add-uses : goal.overflow_add-uses
overflow_add-uses c = let t = totals c.requires in omega arith

pub overflow_add-n : goal.overflow_add-n
overflow_add-n c = let t = totals c.requires in omega arith

pub overflow_add-n-2 : goal.overflow_add-n-2
overflow_add-n-2 c = let t = totals c.requires in omega arith

pub overflow_sub-uses : goal.overflow_sub-uses
overflow_sub-uses c = let t = totals c.requires in omega arith

pub lay_out-lay-requires : goal.lay_out-lay-requires
lay_out-lay-requires c =
    let o = c.requires in
    let t = totals o in
    (omega arith, omega arith, omega arith, omega (arith, c.count_marked-marked.ensures _ o.walked.held))

pub overflow_add-size : goal.overflow_add-size
overflow_add-size c = omega (arith, size_small c.requires (laid (goal.at.overflow_add-size c).After-lay_out-lay))

pub returns-then-not-fits : goal.returns-then-not-fits
returns-then-not-fits c = uncleared_9 c.requires (laid (goal.at.returns-then-not-fits c).After-lay_out-lay) (omega arith)

pub put_image-requires : goal.put_image-requires
put_image-requires c = planned c.requires (laid (goal.at.put_image-requires c).After-lay_out-lay) (omega arith)

pub returns : goal.returns
returns c =
    let o = c.requires in
    let e : c.div_ceil.result ≡ up c.args.s.nodes 64 = omega arith in
    rw e (uncleared_done o (laid (goal.at.returns c).After-lay_out-lay) (omega arith) (c.put_order.ensures _ o.walked.held) c.put_image.auto.work c.put_image.ensures.1 c.put_image.ensures.0)
