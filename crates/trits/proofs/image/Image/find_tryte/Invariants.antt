-- Of the trytes before `q`, the last with fewer than `j` before it is found.
use Rattle.std.proofs.Common.{◌+◌, ◌*◌}
use Rattle.format.specs.Proper.{trits_of}
use Rattle.trits.proofs.Trytes.{Scanning}
use Rattle.trits.proofs.image.Image.find_tryte.Given as goal

abbrev pub invariant-loop-q : goal.invariant-loop-q
invariant-loop-q l = Scanning l.t (trits_of l.self.bytes.now) l.j (25 * (l.fn.s.at + 1)) l.last l.found.at l.found.before l.n l.q
