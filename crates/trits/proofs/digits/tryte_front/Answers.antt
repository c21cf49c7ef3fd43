-- The counts of the cut tryte, in which the trits behind the first r count as zeros.
use Rattle.std.proofs.Common.{◌≡◌, ◌+◌, ◌-◌, ◌^◌, arith}
use native.Mathlib.Nat.{mod-le}
use Rattle.format.specs.Trits.{tryte_count}
use Rattle.trits.proofs.Trytes.{cut_counts, both}
use Rattle.trits.proofs.digits.tryte_front.Goals as goal
use Rattle.trits.proofs.digits.tryte_front.Goals.{After-tryte_ranks-cut}

pub tryte_ranks-cut-requires : goal.tryte_ranks-cut-requires
tryte_ranks-cut-requires c = omega (arith, c.tryte_cut.ensures, mod-le c.args.x (3 ^ c.args.r))

counts : (c : After-tryte_ranks-cut) → let a = c.args in
    (c.tryte_ranks-cut.result.zeros ≡ tryte_count 0 a.x a.r + (5 - a.r)) × (c.tryte_ranks-cut.result.ones ≡ tryte_count 1 a.x a.r)
counts c = rw (c.tryte_ranks-cut.ensures.0, c.tryte_cut.ensures) (cut_counts c.args.x c.args.r c.requires.0 c.requires.1)

pub overflow_sub-result-2 : goal.overflow_sub-result-2
overflow_sub-result-2 c = omega (arith, counts ((goal.at.overflow_sub-result-2 c).After-tryte_ranks-cut))

pub returns : goal.returns
returns c =
    let n = counts ((goal.at.returns c).After-tryte_ranks-cut) in
    both (omega (arith, n)) n.1
