-- The row ends, and the cursor stands at the operands of the next node.
use Rattle.std.proofs.Common.{arith, refl}
use Rattle.packing.proofs.StreamLaws.{taken_turn, opened}
use Rattle.packing.proofs.stream.Stream.row_end.Goals as goal

pub bounds-self-at : goal.bounds-self-at
bounds-self-at c = let p = c.requires in omega (arith, (taken_turn p.0.rest c.args.self.now.walked p.1 p.2 _ refl _ refl).run_in.inside)

pub returns-clause-told : goal.returns-clause-told
returns-clause-told c = let p = c.requires in λ left r. opened r c.args.self.now.walked p.1 p.2 _ refl _ refl _ c.from-c.ensures
