-- The pairs before sample `q` are right, and `c` has the counts at it.
use Rattle.proper.specs.Held.{trits_in}
use Rattle.proper.proofs.PairLaws.{Passed}
use Rattle.proper.proofs.sampled.samples_right.Given as goal

abbrev pub invariant-loop-q : goal.invariant-loop-q
invariant-loop-q l = Passed (trits_in l.trits) l.plan.step l.plan.fan l.plan.width l.q l.c l.part
