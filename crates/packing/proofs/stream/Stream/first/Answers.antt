-- The cursor stands at the roots, and nothing is written.
use Rattle.std.proofs.Common.{arith, ◌<◌, length}
use Rattle.packing.proofs.RunLaws.{roots_run}
use Rattle.packing.proofs.StreamLaws.{begin}
use Rattle.packing.proofs.stream.Stream.first.Goals as goal
use Rattle.packing.proofs.stream.Stream.first.Goals.{Start}

inside : (c : Start) → c.args.at < length c.args.self.now.table.now
inside c = omega (arith, c.requires, (roots_run c.args.self.now.walked.sized).inside)

pub overflow_add-result : goal.overflow_add-result
overflow_add-result c = omega (arith, inside (goal.at.overflow_add-result c).Start)

pub offset_bounds-self-at : goal.offset_bounds-self-at
offset_bounds-self-at c = omega (arith, inside (goal.at.offset_bounds-self-at c).Start)

pub bounds-self-at : goal.bounds-self-at
bounds-self-at c = inside (goal.at.bounds-self-at c).Start

pub returns : goal.returns
returns c = begin c.args.self.now.walked _ c.requires _ c.from.ensures
