-- A map of words marks the numbers of a list. Assumes nothing.
use mathlib.Core.Path.{◌≡◌, sym, ap, ◌∙◌, refl}
use mathlib.Core.List.{List, [], ◌∷◌, ◌++◌}
use Prim.Native.Nat.{ℕ, zero, suc, ◌/◌, ◌%◌, ◌<◌}
use native.Mathlib.Decide.{ℕ_discrete}
use native.Mathlib.Omega.{arith}
use lib.ListN.{length, get_or, set, replicate}
use Rattle.format.specs.Lists.{number_in}
use Rattle.format.proofs.Places.{number_new}
use Rattle.marks.specs.Bits.{BitSet, bit_in}
use Rattle.marks.proofs.BitLaws.{bit_none, bit_same, bit_other}
use Rattle.packing.proofs.NumberLaws.{number_other}

-- 1 for a number that stands in the list
abbrev pub listed : ℕ → ℕ
listed zero = 0
listed (suc k) = 1

-- the map marks the numbers of a list
abbrev pub Marks : List ℕ → List ℕ → Type 0
Marks ws l = (v : ℕ) → v < 30016 → bit_in ws v ≡ listed (number_in v l)

pub marks_none : Marks (replicate 469 0) []
unfolding number_in
marks_none v h = bit_none 469 v (omega arith)

listed_zero : (p : ℕ) → listed p ≡ 0 → p ≡ 0
listed_zero zero e = refl
listed_zero (suc k) e = absurd (omega arith)

module _ (ws l : List ℕ) (x : ℕ) (small : x < 30016) (m : Marks ws l) where
  pub marks_new : bit_in ws x ≡ 0 → number_in x l ≡ 0
  marks_new e = listed_zero (number_in x l) (sym (m x small) ∙ e)

  pub marks_old : (bit_in ws x ≡ 0 → ⊥) → number_in x l ≡ 0 → ⊥
  marks_old n e = n (m x small ∙ ap listed e)

  pub marks_more : (r : ℕ) → x / 64 < length ws → BitSet (get_or ws (x / 64) 0) (x % 64) r → number_in x l ≡ 0 → Marks (set ws (x / 64) r) (l ++ x ∷ [])
  marks_more r inside now new v h = elim (ℕ_discrete v x) [
    | yes e ↦ rw (e, number_new x l [] new) (bit_same ws x inside now)
    | no e ↦ rw (number_other v x l e) (bit_other ws x inside now v e ∙ m v h)
  ]
