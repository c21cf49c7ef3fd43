-- The entries of the twos before `p` are right.
use Rattle.proper.specs.Held.{trits_in}
use Rattle.proper.proofs.SecondLaws.{Seeing}
use Rattle.proper.proofs.second.shadows_right.Given as goal

abbrev pub invariant-loop-p : goal.invariant-loop-p
invariant-loop-p l = Seeing (trits_in l.trits) l.hs l.p l.ones l.twos
