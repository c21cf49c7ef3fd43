-- What a section of samples is, and the counts at a sample, for its writer and its checker. Assumes nothing.
use Rattle.std.specs.Prelude.{ℕ, ◌+◌, ◌-◌, ◌*◌, ◌/◌, ◌%◌, ◌≤◌, ◌<◌, ◌≡◌, List, length}
use Rattle.format.specs.Trits.{rank}
use Rattle.format.specs.Image.{bytes, pairs, last_multiple, Section}
use Rattle.samples.specs.declared.Counts.{Counts}
use Rattle.samples.specs.Lent.{TritsIn}

-- a number has 4, 2 or 1 bytes
abbrev pub Width : ℕ → Type 0
Width w = (w ≡ 4 → ⊥) → (w ≡ 2 → ⊥) → w ≡ 1

-- step, fan and width of section 6 + i
pub data Sampling : ℕ → ℕ → ℕ → ℕ → Type 0 where
  far : Sampling 0 65725 2 4
  middle : Sampling 1 275 239 2
  near : Sampling 2 25 11 1

-- the section with a pair before every multiple of `step`, counted anew every `fan` steps, `width` bytes a number
unfoldable pub sample_section : ℕ → ℕ → ℕ → List ℕ → Section
sample_section step fan width trits = record { entries = length trits / step + 1; contents = bytes width (pairs step (last_multiple (step * fan)) trits) }

-- a step of whole trytes, so many steps until counting begins anew, so many bytes a number
pub record Paced (step fan width : ℕ) : Type 0 where
  pub trytewise : 5 * (step / 5) ≡ step
  pub steps : 0 < step
  pub fans : 0 < fan
  pub widths : Width width

-- and room for a section of L trits from `at` on
pub record Plan (step fan width L at : ℕ) (image : List ℕ) : Type 0 where
  pub paced : Paced step fan width
  pub room : at + width * (2 * (L / step + 1)) ≤ length image

-- so many zeros and ones stand from place `start` to before place p
pub record CountedFrom (trits : List ℕ) (start p zeros ones : ℕ) : Type 0 where
  pub zeros_are : rank 0 trits p ≡ rank 0 trits start + zeros
  pub ones_are : rank 1 trits p ≡ rank 1 trits start + ones

-- c holds the counts at sample q, from the sample at which counting last began anew
pub record Counting (trits : List ℕ) (step fan q : ℕ) (c : Counts) : Type 0 where
  pub steps_are : c.steps ≡ q % fan
  pub below : c.steps < fan
  pub counted : CountedFrom trits (step * (q - c.steps)) (step * q) c.zeros c.ones

-- c holds the counts at sample q, and a whole step of `many` trytes follows
pub record Step (trits bs : List ℕ) (many fan q : ℕ) (c : Counts) : Type 0 where
  pub trits_in : TritsIn trits bs
  pub counting : Counting trits (5 * many) fan q c
  pub inside : 5 * (many * q + many) ≤ length trits
