-- By the case that `step` answers.
use Rattle.std.proofs.Common.{arith}
use Rattle.packing.proofs.StreamLaws.{took_one, took_none}
use Rattle.packing.proofs.stream.Stream.next_trit.Goals as goal

pub returns-in-Some-End : goal.returns-in-Some-End
returns-in-Some-End c = (omega arith, λ left r. took_one (rw c.in-Some-End.field-0-is at (c.in-Some-End.ensures.told left r)))

pub returns-in-Some-Real : goal.returns-in-Some-Real
returns-in-Some-Real c = (omega arith, λ left r. took_one (rw c.in-Some-Real.field-0-is at (c.in-Some-Real.ensures.told left r)))

pub returns-in-Some-Shadow : goal.returns-in-Some-Shadow
returns-in-Some-Shadow c = (omega arith, λ left r. took_one (rw c.in-Some-Shadow.field-0-is at (c.in-Some-Shadow.ensures.told left r)))

pub returns-in-None : goal.returns-in-None
returns-in-None c = (omega arith, λ left r. let s = c.in-None.ensures.told left r in took_none s.0 s.2)
