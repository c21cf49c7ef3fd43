-- A tryte's twos are an entry of the table.
use Rattle.std.proofs.Common.{arith, ◌+◌, ◌-◌, ◌*◌, ◌≡◌}
use Rattle.trits.specs.Search.{Tryte}
use Rattle.trits.proofs.Trytes.{rank_next}
use Rattle.proper.specs.Held.{trits_in}
use Rattle.proper.proofs.TwoLaws.{trytes_many, tryte_from, few_twos}
use Rattle.proper.proofs.placed.twos_to.Goals as goal
use Rattle.proper.proofs.placed.twos_to.Goals.{After-from}

-- the tryte of a turn
tryte : (c : After-from) → let a = c.args in Tryte (trits_in a.trits.now) (a.from + c.loop-byte.byte-index) c.from.result
tryte c =
    let t = c.args.trits.now in
    tryte_from t.trits_in c.args.from (c.args.end - c.args.from) c.loop-byte.byte-index c.loop-byte-test.true (omega (arith, t.counted)) c.from.ensures

pub slice_bounds-byte-items-end : goal.slice_bounds-byte-items-end
slice_bounds-byte-items-end c = let t = c.args.trits.now in omega (arith, trytes_many t.trits_in, t.counted)

pub two_count-n-requires : goal.two_count-n-requires
two_count-n-requires c = (c.requires.0, (tryte (goal.at.two_count-n-requires c).After-from).low)

pub overflow_add-n : goal.overflow_add-n
overflow_add-n c = omega (arith, few_twos c.args.trits.now.trits_in (5 * (c.args.from + c.loop-byte.byte-index)))

pub loop-byte-preserved : goal.loop-byte-preserved
loop-byte-preserved c =
    let i = c.loop-byte.byte-index in
    let e : c.args.from + (i + 1) ≡ c.args.from + i + 1 = omega arith in
    rw e (omega (arith, c.two_count-n.ensures.0, rank_next (tryte (goal.at.loop-byte-preserved c).After-from) 2 (omega arith)))
