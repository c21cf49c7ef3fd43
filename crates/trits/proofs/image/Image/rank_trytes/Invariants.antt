-- The zeros and ones before tryte `q`, or before `end` once that is passed.
use Rattle.format.specs.Proper.{trits_of}
use Rattle.trits.proofs.Trytes.{Capped}
use Rattle.trits.proofs.image.Image.rank_trytes.Given as goal

abbrev pub invariant-loop-q : goal.invariant-loop-q
invariant-loop-q l = record {
  zeros : Capped 0 (trits_of l.self.bytes.now) l.end l.q l.sum.zeros;
  ones : Capped 1 (trits_of l.self.bytes.now) l.end l.q l.sum.ones;
}
