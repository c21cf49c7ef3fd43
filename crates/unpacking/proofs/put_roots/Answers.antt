-- A turn puts the next root.
use Rattle.std.proofs.Common.{arith}
use Rattle.unpacking.proofs.FillLaws.{listed_none, listed_next, listed_all}
use Rattle.unpacking.proofs.put_roots.Goals as goal

pub loop-i-init : goal.loop-i-init
loop-i-init c = listed_none c.args.table.now

pub loop-i-preserved : goal.loop-i-preserved
loop-i-preserved c = listed_next c.loop-i.invariant (omega arith)

pub returns : goal.returns
returns c = listed_all c.loop-i.invariant (omega arith)
