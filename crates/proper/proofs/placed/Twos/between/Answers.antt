-- A turn counts one tryte on, or nothing behind the end.
use Rattle.std.proofs.Common.{arith, ◌+◌, ◌≡◌, refl, nat_lt}
use Rattle.proper.proofs.TwoLaws.{tryte_in, trytes_many, counts_small, between_next}
use Rattle.proper.proofs.placed.Twos.between.Goals as goal

pub overflow_sub-last : goal.overflow_sub-last
overflow_sub-last g c = let s = c.args.self.now in omega (arith, trytes_many s.walk.trits.trits_in, s.walk.trits.counted)

pub bounds-bytes-min : goal.bounds-bytes-min
bounds-bytes-min g c = let s = c.args.self.now in omega (arith, trytes_many s.walk.trits.trits_in, s.walk.trits.counted)

pub two_count-requires : goal.two_count-requires
two_count-requires g c =
    let s = c.args.self.now in
    (s.counted, (tryte_in s.walk.trits.trits_in c.min.result (omega (arith, trytes_many s.walk.trits.trits_in, s.walk.trits.counted)) c.from-x.ensures).low)

pub loop-d-preserved : goal.loop-d-preserved
loop-d-preserved g c =
    let s = c.args.self.now in
    let from = c.args.from in
    let end = c.args.end in
    let d = c.loop-d.d in
    record {
      few = omega (arith, counts_small (nat_lt (from + d) end) c.from.ensures c.two_count.ensures.1);
      counted = between_next from end d c.loop-d.n (nat_lt (from + d) end) refl c.from.ensures
          (λ b. let e : c.min.result ≡ from + d = omega (arith, trytes_many s.walk.trits.trits_in, s.walk.trits.counted) in
          rw e at (tryte_in s.walk.trits.trits_in c.min.result (omega (arith, trytes_many s.walk.trits.trits_in, s.walk.trits.counted)) c.from-x.ensures))
          (omega (arith, s.walk.trits.counted)) c.two_count.ensures.0 c.loop-d.invariant.counted;
    }
