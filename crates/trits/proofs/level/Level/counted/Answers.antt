-- The twos are what the zeros and ones of a pair leave of the span.
use Rattle.std.proofs.Common.{◌≡◌, ◌*◌, arith}
use native.Mathlib.Nat.{add-zero, div-add-mod}
use lib.Dec.{lit<}
use Rattle.trits.proofs.Levels.{Twos, twos}
use Rattle.trits.proofs.level.Level.counted.Goals as goal
use Rattle.trits.proofs.level.Level.counted.Goals.{After-entry-ones}

filled : (c : After-entry-ones) → let a = c.args in Twos a.self.now.bytes.now a.self.now.samples a.first a.q c.entry-zeros.result c.entry-ones.result
filled c =
    let q = c.args.q in
    twos c.args.self.now.sampled c.requires.1 (omega (arith, div-add-mod q c.args.self.now.samples.fan))
    (rw (c.entry-zeros.ensures, ← add-zero (2 * q)) (c.args.self.now.sampled.sample 0 c.args.first q (lit< tt) c.requires.1 c.requires.2))
    (rw c.entry-ones.ensures (c.args.self.now.sampled.sample 1 c.args.first q (lit< tt) c.requires.1 c.requires.2))

pub overflow_mul-result : goal.overflow_mul-result
overflow_mul-result c = omega (arith, filled ((goal.at.overflow_mul-result c).After-entry-ones))

pub overflow_sub-result-2 : goal.overflow_sub-result-2
overflow_sub-result-2 c = omega (arith, filled ((goal.at.overflow_sub-result-2 c).After-entry-ones))

pub overflow_sub-result-3 : goal.overflow_sub-result-3
overflow_sub-result-3 c = omega (arith, filled ((goal.at.overflow_sub-result-3 c).After-entry-ones))

pub returns : goal.returns
returns c =
    let e : c.args.t ≡ 2 = omega arith in
    rw e (filled ((goal.at.returns c).After-entry-ones)).left
