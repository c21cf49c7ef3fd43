-- The samples before `i` are put, and `n` twos stand before sample i.
use Rattle.proper.specs.Held.{trits_in}
use Rattle.proper.proofs.TwoLaws.{Filling}
use Rattle.proper.proofs.placed.sample_twos.Given as goal

abbrev pub invariant-loop-i : goal.invariant-loop-i
invariant-loop-i l = Filling (trits_in l.trits) l.step l.i l.n l.fn.twos l.twos
