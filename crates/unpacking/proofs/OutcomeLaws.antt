-- The outcomes of unpacking as the code meets them. Assumes nothing.
use Prim.Native.Nat.{ℕ, suc, ◌+◌, ◌-◌, ◌≤◌, ◌<◌}
use native.Mathlib.Omega.{arith}
use mathlib.Core.Path.{◌≡◌, sym, ap, ◌∙◌}
use mathlib.Core.List.{List}
use lib.ListN.{length}
use Rattle.std.specs.Prelude.{Ok, Err}
use Rattle.format.specs.Lists.{over}
use Rattle.format.specs.Proper.{check_image}
use Rattle.format.specs.Answers.{refusal_number, done, stops}
use Rattle.format.specs.Unpack.{UnpackOutcome, unpack_outcome, unpack_leaves}
use Rattle.format.specs.declared.Refusal.{Refusal}
use Rattle.format.specs.declared.Refusal.TheVariants.{TableTooShort}
use Rattle.format.proofs.OneToOne.{refusal_some}
use Rattle.format.proofs.Outcomes.{unpack_improper, unpack_51, unpack_done}
use Rattle.trits.specs.declared.Layout.{Layout}
use Rattle.trits.specs.Layout.{Laid}
use Rattle.unpacking.specs.Standing.{table_of}
use Rattle.unpacking.proofs.SizeLaws.{sizes}

pub unpack_refused : (image table : List ℕ) (f : Refusal) → check_image image ≡ refusal_number f → unpack_outcome image table ≡ unpack_leaves (Err f) table
unpack_refused image table f h =
    let e : refusal_number f ≡ suc (refusal_number f - 1) = omega (arith, refusal_some f) in
    unpack_improper image table (refusal_number f - 1) (h ∙ e) ∙ ap {B = UnpackOutcome} (λ (x : ℕ). record { returned = stops x; table = table }) (sym e)

module _ {image : List ℕ} {lay : Layout} (L : Laid image lay) (table : List ℕ) where
  pub unpack_short : length table ≤ lay.trits → unpack_outcome image table ≡ unpack_leaves (Err TableTooShort) table
  unpack_short h = unpack_51 image table L.whole.passes (omega (arith, sizes L))

  pub unpack_whole : lay.trits < length table → (put : List ℕ) → put ≡ over (table_of image) table
      → unpack_outcome image table ≡ unpack_leaves (Ok (lay.trits + 1)) put
  unpack_whole h put e =
      unpack_done image table L.whole.passes (omega (arith, sizes L))
      ∙ (λ i. record { returned = done ((sizes L).table_has i); table = sym e i })
