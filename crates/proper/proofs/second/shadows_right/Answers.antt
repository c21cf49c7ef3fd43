-- Each turn's entry is read for the trits of its place.
use Rattle.std.proofs.Common.{◌≡◌, ◌<◌, ◌/◌, sym, length, get_or, arith}
use Rattle.proper.specs.Held.{trits_in}
use Rattle.proper.proofs.FirstLaws.{trit_of_lem, bit_is, bit_few}
use Rattle.proper.proofs.TwoLaws.{tryte_inside}
use Rattle.proper.proofs.SecondLaws.{seeing_none, seeing_few, seeing_entry, seeing_wrong, seeing_more, seeing_all}
use Rattle.proper.proofs.second.shadows_right.Goals as goal
use Rattle.proper.proofs.second.shadows_right.Goals.{After-trit-t, In-loop-p}

pub loop-p-init : goal.loop-p-init
loop-p-init c = seeing_none _ _

-- it has a trit
inside : (c : In-loop-p) → c.loop-p.p < length (trits_in c.args.trits.now)
inside c = let n = c.args.trits.now.counted in omega arith

pub trit-t-requires : goal.trit-t-requires
trit-t-requires c = omega (arith, tryte_inside c.args.trits.now.trits_in (c.loop-p.p / 5) (omega (arith, inside (goal.at.trit-t-requires c).In-loop-p)))

-- the trit of this turn
trit_is : (c : After-trit-t) → get_or (trits_in c.args.trits.now) c.loop-p.p 0 ≡ c.trit-t.result
trit_is c = trit_of_lem _ _ _ _ (omega arith) c.trit-t.ensures.0

pub entry_right-requires : goal.entry_right-requires
entry_right-requires c = λ e.
    let at = goal.at.entry_right-requires c in
    omega (arith, c.requires, seeing_entry c.loop-p.invariant (inside at.In-loop-p) c.requires (trit_is at.After-trit-t) e)

pub returns-then-not-entry_right : goal.returns-then-not-entry_right
returns-then-not-entry_right c =
    let at = goal.at.returns-then-not-entry_right c in
    sym (seeing_wrong c.loop-p.invariant (inside at.In-loop-p) c.requires (trit_is at.After-trit-t) c.entry_right.ensures c.if-not-entry_right.true)

pub overflow_add-ones : goal.overflow_add-ones
overflow_add-ones c = omega (arith, seeing_few c.loop-p.invariant, bit_few _ c.from-ones.ensures)

pub loop-p-preserved : goal.loop-p-preserved
loop-p-preserved c =
    let at = goal.at.loop-p-preserved c in
    seeing_more c.loop-p.invariant (inside at.In-loop-p) c.requires (trit_is at.After-trit-t) c.entry_right.ensures c.if-not-entry_right.false _ _
    (bit_is _ c.from-ones.ensures) (bit_is _ c.from-twos.ensures)

pub returns : goal.returns
returns c = let n = c.args.trits.now.counted in sym (seeing_all c.loop-p.invariant (omega arith))
