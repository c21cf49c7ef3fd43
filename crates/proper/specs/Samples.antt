-- What the checker of sections 6, 7 and 8 knows of a section, and what one of its pairs has to hold. Assumes nothing.
use Rattle.std.specs.Prelude.{ℕ, ◌+◌, ◌*◌, ◌/◌, ◌^◌, ◌≡◌, Bool, ◌&&◌, List, eqb, length}
use Rattle.format.specs.Lists.{Below}
use Rattle.format.specs.Image.{pairs, last_multiple, read}
use Rattle.samples.specs.Samples.{Paced}

-- part is as long as the pairs of a section of samples, and these fit
pub record PairsIn (trits : List ℕ) (step fan width : ℕ) (part : List ℕ) : Type 0 where
  pub paced : Paced step fan width
  pub full : length part ≡ width * (2 * (length trits / step + 1))
  pub fits : Below (256 ^ width) (pairs step (last_multiple (step * fan)) trits)

-- pair q of a section is these zeros and ones
abbrev pub pair_holds : ℕ → ℕ → List ℕ → ℕ → ℕ → Bool
pair_holds width q part zeros ones = eqb (read width (width * (2 * q)) part) zeros && eqb (read width (width * (2 * q + 1)) part) ones
