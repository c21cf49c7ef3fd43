-- Laws of `fault` and `then`, by which every refusal is stated. Assumes nothing.
use Prim.Native.Nat.{ℕ, zero, suc, ◌<◌}
use native.Mathlib.Nat.{not-suc-le-zero}
use native.Mathlib.Omega.{arith}
use mathlib.Core.Path.{◌≡◌, refl, ap}
use mathlib.Core.Bool.{Bool, true, false}
use Rattle.format.specs.Faults.{fault, ◌then◌}

pub then_yes : (a b : ℕ) → a ≡ 0 → (a then b) ≡ b
then_yes zero b e = refl
then_yes (suc a) b e = omega arith

pub then_zero : (a b : ℕ) → (a then b) ≡ 0 → (a ≡ 0) × (b ≡ 0)
then_zero zero b e = (refl, e)
then_zero (suc a) b e = omega arith

pub fault_yes : (c : ℕ) (t : Bool) → t ≡ true → fault c t ≡ 0
fault_yes c t e = ap (fault c) e

pub fault_zero : (c : ℕ) (t : Bool) → 0 < c → fault c t ≡ 0 → t ≡ true
fault_zero c true p e = refl
fault_zero c false p e = absurd (omega arith)

pub fault_no : (c : ℕ) (t : Bool) → (t ≡ true → ⊥) → fault c t ≡ c
fault_no c true h = absurd (h refl)
fault_no c false h = refl

pub then_no : (a b : ℕ) → 0 < a → (a then b) ≡ a
then_no zero b h = absurd (not-suc-le-zero h)
then_no (suc a) b h = refl

pub then_assoc : (a b c : ℕ) → ((a then b) then c) ≡ (a then b then c)
then_assoc zero b c = refl
then_assoc (suc a) b c = refl

pub then_none : (a : ℕ) → (a then 0) ≡ a
then_none zero = refl
then_none (suc a) = refl

-- what holds of every fault of a chain holds of the first
module _ (P : ℕ → Type 0) where
  pub fault_in : P 0 → (c : ℕ) (t : Bool) → P c → P (fault c t)
  fault_in none c true h = none
  fault_in none c false h = h

  pub then_in : (a b : ℕ) → P a → P b → P (a then b)
  then_in zero b h k = k
  then_in (suc a) b h k = h
