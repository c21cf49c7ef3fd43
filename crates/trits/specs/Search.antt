-- What the functions of this crate hand to each other: a level of samples, and where the search for a trit stands. Assumes nothing.
use Rattle.std.specs.Prelude.{ℕ, ◌+◌, ◌*◌, ◌/◌, ◌%◌, ◌^◌, ◌≤◌, ◌<◌, ◌≡◌, List, length, get_or}
use Rattle.format.specs.Lists.{Below}
use Rattle.format.specs.Trits.{rank, trytes, tryte_count}
use Rattle.format.specs.Proper.{trits_of, Whole}
use Rattle.format.specs.Image.{read}
use Rattle.trits.specs.declared.Samples.{Samples}
use Rattle.trits.specs.declared.Spot.{Spot}
use Rattle.trits.specs.declared.Ranks.{Ranks}

-- In the proper image b, s is a level of samples: pairs, zeros then ones, of so many bytes a number, before each multiple of its step up to the
-- last, each counted from the last multiple of fan steps.
pub record Sampled (b : List ℕ) (s : Samples) : Type 0 where
  pub whole : Whole b
  -- 1, 2 or 4 bytes
  pub widths : (s.width ≡ 1 → ⊥) → (s.width ≡ 2 → ⊥) → s.width ≡ 4
  pub steps : 0 < s.step
  pub fans : 0 < s.fan
  pub last_is : s.last ≡ length (trits_of b) / s.step
  pub inside : (i : ℕ) → i < 2 * (s.last + 1) → s.at + s.width * i + s.width ≤ length b
  pub sample : (t first q : ℕ) → t < 2 → q ≤ s.last → first ≡ s.fan * (q / s.fan)
      → rank t (trits_of b) (s.step * first) + read s.width (s.at + s.width * (2 * q + t)) b ≡ rank t (trits_of b) (s.step * q)

-- x is tryte q of the trits xs.
pub record Tryte (xs : List ℕ) (q x : ℕ) : Type 0 where
  pub threes : Below 3 xs
  pub is : x ≡ get_or (trytes xs) q 0
  pub low : x < 243

-- The t number k of tryte x is its trit r.
pub record PlaceIn (x t k r : ℕ) : Type 0 where
  pub low : r < 5
  pub holds : x / 3 ^ r % 3 ≡ t
  pub ranked : tryte_count t x r + 1 ≡ k

-- The t number j stands at place p or later and before place e, and n of t stand before p.
pub record Between (t : ℕ) (xs : List ℕ) (j n p e : ℕ) : Type 0 where
  pub counted : n ≡ rank t xs p
  pub below : n < j
  pub reached : j ≤ rank t xs e

-- It stands between two multiples of a step, the first of them the spot's.
abbrev pub Spotted : ℕ → ℕ → List ℕ → ℕ → Spot → Type 0
Spotted step t xs j s = Between t xs j s.before (step * s.at) (step * (s.at + 1))

-- the zeros and ones before place p
abbrev pub ranks_of : List ℕ → ℕ → Ranks
ranks_of xs p = record { zeros = rank 0 xs p; ones = rank 1 xs p }

-- the zeros and ones of the first r trits of a tryte
abbrev pub front_of : ℕ → ℕ → Ranks
front_of x r = record { zeros = tryte_count 0 x r; ones = tryte_count 1 x r }

-- the zeros and the ones of both
abbrev pub sum_of : Ranks → Ranks → Ranks
sum_of p q = record { zeros = p.zeros + q.zeros; ones = p.ones + q.ones }
