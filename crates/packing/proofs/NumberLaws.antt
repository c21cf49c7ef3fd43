-- The number of a node in a queue, beside another node. Assumes nothing.
use mathlib.Core.Path.{◌≡◌, refl}
use mathlib.Core.List.{List, [], ◌∷◌, ◌++◌}
use Prim.Native.Nat.{ℕ, zero, suc}
use Rattle.format.specs.Lists.{number_in}
use Rattle.format.proofs.Places.{number_there, number_in_lem, number_out}

pub number_other : (v x : ℕ) (q : List ℕ) → (v ≡ x → ⊥) → number_in v (q ++ x ∷ []) ≡ number_in v q
unfolding number_in
number_other v x q h = go (number_in v q) refl
  where
    go : (p : ℕ) → number_in v q ≡ p → number_in v (q ++ x ∷ []) ≡ p
    go zero e = number_out v q (x ∷ []) e (number_there v x [] h)
    go (suc k) e = number_in_lem v k q (x ∷ []) e
