-- Each turn holds one pair to its counts and counts on to the next.
use Rattle.std.proofs.Common.{ap, arith, not}
use Rattle.proper.specs.Held.{trits_in}
use Rattle.proper.proofs.PairLaws.{passed_step, passed_wrong, passed_next, passed_all}
use Rattle.proper.proofs.sampled.samples_right.Goals as goal

pub returns-then-not-pair_right : goal.returns-then-not-pair_right
returns-then-not-pair_right c =
    passed_wrong c.requires c.loop-q.invariant c.args.trits.now.counted c.loop-q.auto.q-end c.pair_right.ensures (ap not c.if-not-pair_right.true)

pub next_counts-c-requires : goal.next_counts-c-requires
next_counts-c-requires c =
    let t = c.args.trits.now in
    (trits_in t, passed_step c.requires c.loop-q.invariant t.trits_in t.counted c.loop-q-test.true)

pub loop-q-preserved : goal.loop-q-preserved
loop-q-preserved c =
    let t = c.args.trits.now in
    let S = c.loop-q.invariant in
    passed_next c.requires S t.counted c.loop-q.auto.q-end c.pair_right.ensures (ap not c.if-not-pair_right.false)
    (c.next_counts-c.ensures (trits_in t) (passed_step c.requires S t.trits_in t.counted c.loop-q-test.true))

pub returns : goal.returns
returns c =
    passed_all c.requires c.loop-q.invariant c.args.trits.now.counted c.loop-q.auto.q-end (omega arith) c.pair_right-2.ensures (λ i l. omega (arith, c.type_inv.part i))
