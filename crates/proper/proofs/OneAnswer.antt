-- The contracts of `examine`, of the checker's steps and of `section1` each allow one answer. Assumes nothing.
use Rattle.std.specs.Prelude.{Result, Ok, Err}
use Rattle.std.specs.Borrow.{Bor}
use Rattle.std.proofs.Props.{props}
use Prim.Native.Nat.{ℕ}
use native.Mathlib.Omega.{arith}
use mathlib.Core.Path.{◌≡◌, sym, ap, ◌∙◌}
use mathlib.Core.HLevel.{is_prop→PathP}
use mathlib.Core.List.{List}
use Rattle.format.specs.declared.Refusal.{Refusal}
use Rattle.format.proofs.OneToOne.{refusal_one, refusal_some}
use Rattle.trits.specs.declared.Layout.{Layout}
use Rattle.trits.specs.declared.image.Image.{Image}
use Rattle.trits.specs.Layout.{Laid}
use Rattle.proper.specs.declared.first.Sizes.{Sizes}
use Rattle.proper.specs.Examined.{Examined, Examines}
use Rattle.proper.specs.FirstSays.{FirstSays}

-- images of one lent slice with one layout are one
same_image : (i j : Image) → i.bytes ≡ j.bytes → i.lay ≡ j.lay → i ≡ j
same_image i j eb el = λ n. record { bytes = eb n; lay = el n; laid = is_prop→PathP (λ n. Laid (eb n).now (el n)) (λ n. Prim.hlevel props) i.laid j.laid n }

pub examined_one : (b : Bor (List ℕ)) (r s : Result Image Refusal) → Examined b r → Examined b s → r ≡ s
examined_one b (Ok i) (Ok j) h k = ap {B = Result Image Refusal} Ok (same_image i j (h.1 ∙ sym k.1) (h.2 ∙ sym k.2))
examined_one b (Ok i) (Err f) h k = absurd (omega (arith, h.0, k, refusal_some f))
examined_one b (Err f) (Ok j) h k = absurd (omega (arith, h, k.0, refusal_some f))
examined_one b (Err f) (Err g) h k = ap {B = Result Image Refusal} Err (refusal_one f g (sym h ∙ k))

pub examines_one : (x : ℕ) (lay : Layout) (r s : Result Layout Refusal) → Examines x lay r → Examines x lay s → r ≡ s
examines_one x lay (Ok i) (Ok j) h k = ap {B = Result Layout Refusal} Ok (h.1 ∙ sym k.1)
examines_one x lay (Ok i) (Err f) h k = absurd (omega (arith, h.0, k, refusal_some f))
examines_one x lay (Err f) (Ok j) h k = absurd (omega (arith, h, k.0, refusal_some f))
examines_one x lay (Err f) (Err g) h k = ap {B = Result Layout Refusal} Err (refusal_one f g (sym h ∙ k))

pub first_one : (l : ℕ) (bs : List ℕ) (r s : Result Sizes Refusal) → FirstSays l bs r → FirstSays l bs s → r ≡ s
first_one l bs (Err f) (Err g) h k = ap {B = Result Sizes Refusal} Err (refusal_one f g (sym h ∙ k))
first_one l bs (Err f) (Ok z) h k = absurd (omega (arith, h, k.0, refusal_some f))
first_one l bs (Ok z) (Err f) h k = absurd (omega (arith, h.0, k, refusal_some f))
first_one l bs (Ok z) (Ok y) h k = λ i. Ok (record { nodes = (h.1 ∙ sym k.1) i; roots = (h.2 ∙ sym k.2) i; shadows = (h.3 ∙ sym k.3) i })
