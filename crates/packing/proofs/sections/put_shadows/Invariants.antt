-- The shadows among the trits taken are written.
use Rattle.packing.specs.Stream.{ahead}
use Rattle.packing.proofs.SectionLaws.{Shadowing}
use Rattle.packing.proofs.sections.put_shadows.Given as goal

abbrev pub invariant-loop-trit : goal.invariant-loop-trit
invariant-loop-trit l = Shadowing l.stream.table.now l.stream.n l.out l.c l.p

abbrev pub decreases-loop-trit : goal.decreases-loop-trit
decreases-loop-trit l = ahead l.stream.n l.c
