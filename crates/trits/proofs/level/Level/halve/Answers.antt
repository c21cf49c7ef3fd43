-- A turn leaves the half in which the number stands.
use Rattle.std.proofs.Common.{◌≡◌, ◌+◌, ◌*◌, ◌/◌, arith}
use Rattle.format.specs.Trits.{rank}
use Rattle.format.specs.Proper.{trits_of}
use Rattle.trits.proofs.Levels.{last_few}
use Rattle.trits.proofs.Searching.{rank_few, in_steps, first_last, starts_min, mid_first, upper, lower}
use Rattle.trits.proofs.level.Level.halve.Goals as goal
use Rattle.trits.proofs.level.Level.halve.Goals.{After-counted}

pub overflow_mul-first : goal.overflow_mul-first
overflow_mul-first c =
    omega (arith, first_last c.args.above c.args.self.now.sampled c.requires.1, last_few c.args.self.now.sampled)

pub overflow_sub-self : goal.overflow_sub-self
overflow_sub-self c = first_last c.args.above c.args.self.now.sampled c.requires.1

pub overflow_add-self : goal.overflow_add-self
overflow_add-self c = omega (arith, last_few c.args.self.now.sampled)

pub loop-len-init : goal.loop-len-init
loop-len-init c =
    starts_min c.args.above c.args.self.now.sampled c.requires.1 c.min-len.result (omega (arith, c.min-len.ensures))

pub counted-requires : goal.counted-requires
counted-requires c =
    let v = c.loop-len.invariant in
    (c.requires.0, omega (arith, v), mid_first c.args.above c.args.self.now.sampled c.requires.1 (c.loop-len.found.at + c.loop-len.len / 2) (omega (arith, v)) (omega (arith, v)))

-- the sum is the rank before the middle multiple
reading : (c : After-counted) → let a = c.args in
    a.above.before + c.counted.result ≡ rank a.t (trits_of a.self.now.bytes.now) (a.self.now.samples.step * (c.loop-len.found.at + c.loop-len.len / 2))
reading c =
    omega (arith, c.counted.ensures, (in_steps c.args.above c.args.self.now.sampled c.requires.1).counted)

pub overflow_add-x : goal.overflow_add-x
overflow_add-x c =
    omega (arith, reading ((goal.at.overflow_add-x c).After-counted), rank_few c.args.self.now.sampled.whole c.args.t (c.args.self.now.samples.step * (c.loop-len.found.at + c.loop-len.len / 2)))

pub loop-len-preserved-then-x-j : goal.loop-len-preserved-then-x-j
loop-len-preserved-then-x-j c =
    upper c.loop-len.invariant c.loop-len-test.true (reading ((goal.at.loop-len-preserved-then-x-j c).After-counted)) (omega arith)

pub loop-len-preserved : goal.loop-len-preserved
loop-len-preserved c =
    lower c.loop-len.invariant c.loop-len-test.true (reading ((goal.at.loop-len-preserved c).After-counted)) (omega arith)
