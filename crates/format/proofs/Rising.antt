-- A rising list is known by its elements: how a checker with no memory of its own can hold section 5 to the groups. Assumes nothing.
use Prim.Native.Nat.{ℕ, zero, suc, ◌≤◌, zero-le, suc-le-suc}
use native.Mathlib.Nat.{le_of_suc-le-suc, not-suc-le-zero, le_refl, le_trans}
use native.Mathlib.Omega.{arith}
use mathlib.Core.Path.{◌≡◌, refl, ap₂}
use mathlib.Core.Logic.{◌⊎◌, inl, inr}
use mathlib.Core.Bool.{Bool, true, false}
use mathlib.Core.List.Memᴰ
use mathlib.Core.List.{List, [], ◌∷◌, Memᴰ}
use lib.ListN.{length}
use Rattle.format.specs.Lists.{run, cons_if, keep, RisingFrom}

rising_lower : (a b : ℕ) (xs : List ℕ) → b ≤ a → RisingFrom a xs → RisingFrom b xs
rising_lower a b [] h r = tt
rising_lower a b (x ∷ xs) h r = (le_trans h r.0, r.1)

rising_mem : (a x : ℕ) (xs : List ℕ) → RisingFrom a xs → Memᴰ x xs → a ≤ x
rising_mem a x [] r m = absurd (Memᴰ.not-nil m)
rising_mem a x (y ∷ ys) r m = go (Memᴰ.cases_cons m) (rising_mem (suc y) x ys r.1)
  where
    go : (x ≡ y) ⊎ Memᴰ x ys → (Memᴰ x ys → suc y ≤ x) → a ≤ x
    go (inl e) ih = omega (arith, r.0)
    go (inr m) ih = omega (arith, r.0, ih m)

abbrev pub Within : List ℕ → List ℕ → Type 0
Within xs ys = (x : ℕ) → Memᴰ x xs → Memᴰ x ys

-- a rising list within a rising list is no longer, and is that list where it is as long
pub rising_within : (a b : ℕ) (xs ys : List ℕ) → RisingFrom a xs → RisingFrom b ys → Within xs ys → (length xs ≤ length ys) × (length ys ≤ length xs → xs ≡ ys)
rising_within a b [] [] rx ry w = (zero-le, λ h. refl)
rising_within a b [] (y ∷ ys) rx ry w = (zero-le, λ h. absurd (not-suc-le-zero h))
rising_within a b (x ∷ xs) [] rx ry w = absurd (Memᴰ.not-nil (w x (Memᴰ.head refl)))
rising_within a b (x ∷ xs) (y ∷ ys) rx ry w =
    go (Memᴰ.cases_cons (w x (Memᴰ.head refl)))
    (λ v. rising_within (suc x) (suc y) xs ys rx.1 ry.1 v)
    (λ v. rising_within a (suc y) (x ∷ xs) ys rx ry.1 v)
  where
    above : (z : ℕ) → suc y ≤ z → Memᴰ z (y ∷ ys) → Memᴰ z ys
    above z h m = cond (Memᴰ.cases_cons m)
      where
        cond : (z ≡ y) ⊎ Memᴰ z ys → Memᴰ z ys
        cond (inl e) = absurd (omega arith)
        cond (inr m) = m

    go : (x ≡ y) ⊎ Memᴰ x ys
        → (Within xs ys → (length xs ≤ length ys) × (length ys ≤ length xs → xs ≡ ys))
        → (Within (x ∷ xs) ys → (suc (length xs) ≤ length ys) × (length ys ≤ suc (length xs) → ◌≡◌ {A = List ℕ} (x ∷ xs) ys))
        → (suc (length xs) ≤ suc (length ys)) × (suc (length ys) ≤ suc (length xs) → ◌≡◌ {A = List ℕ} (x ∷ xs) (y ∷ ys))
    go (inl e) ih1 ih2 =
        let r = ih1 (λ z m. above z (omega (arith, rising_mem (suc x) z xs rx.1 m)) (w z (Memᴰ.tail m))) in
        (suc-le-suc r.0, λ h. ap₂ (λ (u : ℕ) (v : List ℕ). u ∷ v) e (r.1 (le_of_suc-le-suc h)))
    go (inr m) ih1 ih2 =
        let hx : suc y ≤ x = rising_mem (suc y) x ys ry.1 m in
        let r = ih2 (λ z m. above z (omega (arith, rising_mem x z (x ∷ xs) (le_refl x, rx.1) m)) (w z m)) in
        (omega (arith, r.0), λ h. absurd (omega (arith, r.0)))

-- what a test keeps of a rising list rises
rising_cons_if : (b : Bool) (a x : ℕ) (xs : List ℕ) → a ≤ x → RisingFrom (suc x) xs → RisingFrom a (cons_if b x xs)
rising_cons_if true a x xs h r = (h, r)
rising_cons_if false a x xs h r = rising_lower (suc x) a xs (omega arith) r

pub rising_keep : (f : ℕ → Bool) (a : ℕ) (xs : List ℕ) → RisingFrom a xs → RisingFrom a (keep f xs)
rising_keep f a [] r = tt
rising_keep f a (x ∷ xs) r = rising_cons_if (f x) a x (keep f xs) r.0 (rising_keep f (suc x) xs r.1)

pub rising_run : (a n : ℕ) → RisingFrom a (run a n)
rising_run a zero = tt
rising_run a (suc n) = (le_refl a, rising_run (suc a) n)
