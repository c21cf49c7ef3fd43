-- A map of words has the marks of H. Assumes nothing.
use Rattle.std.specs.Prelude.{ℕ, suc, ◌<◌, ◌≡◌, List, length}
use Rattle.format.specs.Lists.{bit}
use Rattle.format.specs.Image.{marked}
use Rattle.marks.specs.Bits.{bit_in}

-- a map of 469 words, in which bit v is the mark of node v + 1
pub record MarkMap (H ws : List ℕ) : Type 0 where
  pub long : length ws ≡ 469
  pub bits : (v : ℕ) → v < 30016 → bit_in ws v ≡ bit (marked H (suc v))
