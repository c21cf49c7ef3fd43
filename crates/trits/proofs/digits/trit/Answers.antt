-- Tryte p / 5, trit p % 5.
use Rattle.std.proofs.Common.{ℕ, ◌≡◌, ◌+◌, ◌*◌, ◌/◌, ◌%◌, ◌^◌, ◌∙◌, sym, ap, arith}
use Rattle.trits.proofs.Trytes.{trit_of_lem}
use Rattle.trits.proofs.digits.trit.Goals as goal

pub returns : goal.returns
returns c =
    let x = c.args in
    let p = x.p in
    let e : 5 * (p / 5) + p % 5 ≡ p = omega arith in (
      c.digit.ensures ∙ ap (λ (k : ℕ). k / 3 ^ (p % 5) % 3) c.from.ensures
          ∙ rw e at (sym (trit_of_lem x.trytes.now (p / 5) (p % 5) (omega (arith, c.requires)) (omega arith))),
      omega (arith, c.digit.ensures),
    )
