-- The number stands between multiples `found.at` and `found.at + len`.
use Rattle.format.specs.Proper.{trits_of}
use Rattle.trits.proofs.Searching.{Halving}
use Rattle.trits.proofs.level.Level.halve.Given as goal

abbrev pub invariant-loop-len : goal.invariant-loop-len
invariant-loop-len l =
    let s = l.self.samples in
    Halving l.t (trits_of l.self.bytes.now) l.j s.step l.first s.fan s.last l.found.at l.len l.found.before

abbrev pub decreases-loop-len : goal.decreases-loop-len
decreases-loop-len l = l.len
