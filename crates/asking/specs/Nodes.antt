-- What a question is about: a node of a proper image, the place of an edge. Assumes nothing.
use Rattle.std.specs.Prelude.{ℕ, ◌≤◌, ◌<◌, ◌≡◌, List, length, get_or}
use Rattle.format.specs.Image.{node_count}
use Rattle.format.specs.Proper.{trits_of}
use Rattle.trits.specs.declared.Layout.{Layout}
use Rattle.trits.specs.declared.Ranks.{Ranks}
use Rattle.trits.specs.Layout.{Laid}
use Rattle.trits.specs.Search.{ranks_of}

-- the image is accepted, lay is its layout, and a one of its nodes
pub record NodeIn (image : List ℕ) (lay : Layout) (a : ℕ) : Type 0 where
  pub laid : Laid image lay
  pub low : 1 ≤ a
  pub high : a ≤ node_count (trits_of image)

-- a 1 or a 2, t, stands at place p, and so many zeros and ones before it
pub record EdgePlace (trits : List ℕ) (p : ℕ) (before : Ranks) (t : ℕ) : Type 0 where
  pub inside : p < length trits
  pub ranks_are : before ≡ ranks_of trits p
  pub trit_is : t ≡ get_or trits p 0
  pub no_zero : 0 < t
