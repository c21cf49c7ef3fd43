-- A text being written, word after word. Assumes nothing.
use Rattle.std.specs.Prelude.{ℕ, ◌+◌, ◌≤◌, ◌≡◌, List, [], ◌∷◌, ◌++◌, length}
use Rattle.format.specs.Lists.{join}
use Rattle.format.specs.Listing.{decimal}
use Rattle.little.specs.Put.{put_at}

-- a word has room from place `at` on
pub record Room (text : List ℕ) (at : ℕ) (word : List ℕ) : Type 0 where
  pub fits : at + length word ≤ length text

-- a word is written over the text from place `at` on, up to place `end`
pub record Wrote (was : List ℕ) (at : ℕ) (word : List ℕ) (end : ℕ) (now : List ℕ) : Type 0 where
  pub ends : end ≡ at + length word
  pub are : now ≡ put_at was at word

-- a word and a number; three of them
abbrev pub field : List ℕ → ℕ → List ℕ
field word x = word ++ decimal x

abbrev pub three : List ℕ → ℕ → List ℕ → ℕ → List ℕ → ℕ → List ℕ
three a x b y c z = join (field a x ∷ field b y ∷ field c z ∷ [])
