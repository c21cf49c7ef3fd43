-- Sections 1 and 2 have passed where section 2 has.
use Rattle.std.proofs.Common.{◌∙◌, ◌*◌, ℕ, sym, ap, subst, arith}
use Rattle.format.proofs.Handed.{handed}
use Rattle.format.specs.Trits.{untrytes}
use Rattle.format.specs.Lists.{Below}
use Rattle.format.proofs.Laws.{count_le}
use Rattle.format.proofs.CheckLaws.{below_contents}
use Rattle.trits.specs.Layout.{laying}
use Rattle.proper.proofs.PassedLaws.{examines_as, first_trits, first_known, second_refused, second_shadows, second_wrong, second_passed}
use Rattle.proper.proofs.check.from2.Goals as goal

pub overflow_mul-k : goal.overflow_mul-k
overflow_mul-k c = let F = c.requires in omega (arith, F.sized.twos_are, F.sized.trits_are, F.few, count_le 2 (untrytes c.args.l c.args.bs.now))

pub returns-in_err-hs : goal.returns-in_err-hs
returns-in_err-hs c =
    rw (handed c.from_residual.ensures.1) (second_refused _ c.args.rest.now c.requires.sized.twos_are _ c.in_err-hs.ensures)

pub invariant_of-trits : goal.invariant_of-trits
invariant_of-trits c = let F = c.requires in record { trits_in = first_trits F; counted = F.sized.trits_are }

pub shadows_right-requires : goal.shadows_right-requires
shadows_right-requires c = c.in_ok-hs.ensures.cut.part_long ∙ ap (λ (k : ℕ). 2 * k) (sym c.requires.sized.twos_are)

pub returns-then-not-shadows_right : goal.returns-then-not-shadows_right
returns-then-not-shadows_right c =
    second_wrong _ c.args.rest.now c.requires.sized.twos_are c.in_ok-hs.ensures c.shadows_right.ensures c.if-not-shadows_right.true

pub invariant_of-walk : goal.invariant_of-walk
invariant_of-walk c =
    let F = c.requires in
    let O = c.in_ok-hs.ensures in
    record {
      known =
          first_known F c.in_ok-hs.hs.now (subst (Below 256) (sym O.cut.part_is) (below_contents (2 * c.args.sizes.shadows) c.args.rest.now (λ i l. omega (arith, c.type_inv.rest i)))) O.cut.part_long
          (sym c.shadows_right.ensures ∙ c.if-not-shadows_right.false);
    }

pub returns : goal.returns
returns c =
    let F = c.requires in
    let b = c.args.rest.now in
    let trits = untrytes c.args.l c.args.bs.now in
    let O = c.in_ok-hs.ensures in
    examines_as c.from3.result
    (sym (second_passed trits b F.sized.twos_are O c.shadows_right.ensures c.if-not-shadows_right.false))
    (ap (laying trits) (sym (second_shadows trits b F.sized.twos_are O)))
    c.from3.ensures
