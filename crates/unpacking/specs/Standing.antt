-- Where the unpacker stands among the trits, and what it puts into the table there. Assumes nothing.
use Rattle.std.specs.Prelude.{ℕ, ◌+◌, ◌-◌, ◌<◌, ◌≡◌, cond, List, ◌++◌, eqb, get_or, take, drop, set}
use Rattle.format.specs.Trits.{rank, nth}
use Rattle.format.specs.Image.{root_count}
use Rattle.format.specs.Table.{words}
use Rattle.format.specs.Edges.{operand_at}
use Rattle.format.specs.Proper.{trits_of, shadows_of}
use Rattle.format.specs.Unpack.{unpack}
use Rattle.trits.specs.declared.Layout.{Layout}
use Rattle.trits.specs.Layout.{Laid}
use Rattle.unpacking.specs.declared.Stand.{Stand}

-- the table of an image
abbrev pub table_of : List ℕ → List ℕ
table_of image = words (unpack (trits_of image) (shadows_of image))

-- the place of the last zero before place p
unfoldable pub last_zero : List ℕ → ℕ → ℕ
last_zero trits p = nth 0 trits (rank 0 trits p)

abbrev pub stand_at : List ℕ → ℕ → Stand
stand_at trits p = record { ones = rank 1 trits p; twos = rank 2 trits p; zero = last_zero trits p }

-- s is where the unpacker stands before a place of a proper image, past the first zero
pub record Standing (image : List ℕ) (lay : Layout) (p : ℕ) (s : Stand) : Type 0 where
  pub laid : Laid image lay
  pub is : s ≡ stand_at (trits_of image) p
  pub from : lay.roots < p
  pub inside : p < lay.trits

-- the table's word for the trit at place p, from the first zero on
abbrev pub word_at : List ℕ → ℕ → ℕ
word_at trits p = p - root_count trits + 1

-- What the trit at p puts: a zero the count of the places since the last zero, in the word for that one; another its operand, in its own.
unfoldable pub trit_put : List ℕ → List ℕ → ℕ → List ℕ → List ℕ
trit_put trits H p table =
    cond (eqb (get_or trits p 0) 0) (set table (word_at trits (last_zero trits p)) (p - last_zero trits p - 1)) (set table (word_at trits p) (operand_at trits H p))

-- the first k words replaced by those of ws, the others as they were
abbrev pub over_first : ℕ → List ℕ → List ℕ → List ℕ
over_first k ws table = take k ws ++ drop k table
