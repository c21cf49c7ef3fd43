-- What the checker of sections 4 and 5 counts and compares: the twos before a place, the key by which the places rise, and a number. Assumes nothing.
use Rattle.std.specs.Prelude.{ℕ, ◌+◌, ◌-◌, ◌*◌, ◌/◌, ◌≤◌, ◌<◌, ◌≡◌, Bool, ◌&&◌, List, eqb, leb, length, get_or, Option, None, Some}
use Rattle.format.specs.Lists.{bit, each, same}
use Rattle.format.specs.Trits.{rank, tryte_count}
use Rattle.format.specs.Image.{bytes, node_count, marked_nodes, shadow_at, grouped, starts, read}

-- how many twos each tryte has
abbrev pub TwoTable : List ℕ → Type 0
TwoTable counts = (x : ℕ) → x < 243 → get_or counts x 0 ≡ tryte_count 2 x 5

-- trytes from sample to sample: 8, or 13 from 81,880 trits on
unfoldable pub step_for : ℕ → ℕ
step_for l = 8 + 5 * bit (leb 81880 l)

-- with so many trytes from sample to sample, 8 or 13, 2,048 samples are enough for l trits and 6 trytes more
pub record Spaced (l step : ℕ) : Type 0 where
  pub some : 0 < step
  pub other : (step ≡ 8 → ⊥) → step ≡ 13
  pub enough : l / 5 + 6 < 2048 * step

-- tryte number step * i, or the end of the whole trytes if that comes first
abbrev pub spot : List ℕ → ℕ → ℕ → ℕ
spot trits step i = step * i - (step * i - length trits / 5)

-- the twos before each of these trytes, from the first one on
unfoldable pub two_samples : List ℕ → ℕ → List ℕ
two_samples trits step = each ((length trits / 5 + 6) / step + 1) (λ i. rank 2 trits (5 * spot trits step i))

-- a list has them at its front
abbrev pub TwosAt : List ℕ → ℕ → List ℕ → Type 0
TwosAt trits step twos = (i : ℕ) → step * i ≤ length trits / 5 + 6 → get_or twos i 0 ≡ rank 2 trits (5 * spot trits step i)

-- a place's key: its shadow, then itself
unfoldable pub key : List ℕ → List ℕ → ℕ → ℕ
key trits H p = 131072 * shadow_at trits H p + p

-- a 2 stands at place p, and its key is at least low
pub record Rises (trits H : List ℕ) (low p : ℕ) : Type 0 where
  pub inside : p < length trits
  pub two : get_or trits p 0 ≡ 2
  pub above : low ≤ key trits H p

-- what an entry p is answered by, where the key before it is below low
abbrev pub Answered : List ℕ → List ℕ → ℕ → ℕ → Option ℕ → Type 0
Answered trits H low p None = Rises trits H low p → ⊥
Answered trits H low p (Some x) = Rises trits H low p × (x ≡ key trits H p)

-- a part of 4 bytes a number has number j, and that is x
abbrev pub number_is : List ℕ → ℕ → ℕ → Bool
number_is part j x = leb (4 * j + 4) (length part) && eqb (read 4 (4 * j) part) x

-- ---- both sections

-- firsts is as long as section 4, and part as section 5
pub record Long (trits H firsts part : List ℕ) : Type 0 where
  pub long4 : length firsts ≡ 4 * (length (marked_nodes trits H) + 1)
  pub long5 : length part ≡ 4 * length H

-- firsts is section 4, and part is section 5
abbrev pub both_right : List ℕ → List ℕ → List ℕ → List ℕ → Bool
both_right trits H firsts part = same firsts (bytes 4 (starts trits H)) && same part (bytes 4 (grouped trits H (node_count trits)))
