-- As many trits are taken as weights, and the number is below the next weight.
use Rattle.std.proofs.Common.{◌<◌, ◌^◌}
use Rattle.format.specs.Level.{Walk}
use Rattle.packing.specs.Stream.{Rest, Took}
use Rattle.packing.proofs.stream.Stream.next_tryte.Given as goal

abbrev pub invariant-loop-weight : goal.invariant-loop-weight
invariant-loop-weight l = record {
  small : l.value < 3 ^ l.weight-index;
  took : (left : Walk) → Rest l.self.table.now l.self.n left l.fn.c → Took l.self.table.now l.self.n l.weight-index left l.value l.c;
}
