-- By the answers of `scan` and `pack_nodes`.
use Rattle.std.proofs.Common.{arith, inl, inr}
use Rattle.format.proofs.Outcomes.{pack_faulty}
use Rattle.packing.proofs.RunLaws.{limits}
use Rattle.format.proofs.Handed.{handed}
use Rattle.packing.proofs.PackLaws.{refused, scanned, outcome_7}
use Rattle.packing.proofs.pack.pack.Goals as goal

pub returns-in_err-s : goal.returns-in_err-s
returns-in_err-s c = rw (handed c.from_residual.ensures.1) (pack_faulty _ _ _ _ _ (refused _ _ c.in_err-s.ensures))

pub overflow_mul-s : goal.overflow_mul-s
overflow_mul-s c = let s = scanned c.in_ok-s.ensures in omega (arith, (limits s.sized).nodes_fit, s.sized.many)

pub returns-then-work-s : goal.returns-then-work-s
returns-then-work-s c =
    outcome_7 (scanned c.in_ok-s.ensures) c.args.order.now c.args.work.now c.args.image.now
    (elim c.then-work-s.either [ inl h ↦ inl h | inr h ↦ inr h.1 ])

pub pack_nodes-requires : goal.pack_nodes-requires
pack_nodes-requires c = record { measured = scanned c.in_ok-s.ensures; order_room = omega arith; work_room = omega arith }
