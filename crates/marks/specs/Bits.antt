-- A word of 64 marks, and a map of such words. Assumes nothing.
use Rattle.std.specs.Prelude.{◌≡◌, List, ℕ, ◌/◌, ◌%◌, ◌^◌, get_or}

abbrev pub bit_of : ℕ → ℕ → ℕ
bit_of w j = w / 2 ^ j % 2

-- w' is w with bit b set
pub record BitSet (w b w' : ℕ) : Type 0 where
  pub now_set : bit_of w' b ≡ 1
  pub others : (j : ℕ) → (j ≡ b → ⊥) → bit_of w' j ≡ bit_of w j

-- bit v of a map, 64 a word
abbrev pub bit_in : List ℕ → ℕ → ℕ
bit_in ws v = bit_of (get_or ws (v / 64) 0) (v % 64)
