-- What is known of an image once its sections 1 and 2 have passed. Assumes nothing.
use Rattle.std.specs.Prelude.{ℕ, ◌≡◌, List}
use Rattle.format.specs.Image.{bytes, mark_words}
use Rattle.format.specs.Proper.{ProperTrits}
use Rattle.samples.specs.Lent.{TritsIn}

-- hs is section 2's contents: the shadows of proper trits, 2 bytes each
pub record Shadowed (trits H hs : List ℕ) : Type 0 where
  pub proper : ProperTrits trits H
  pub shadows_are : hs ≡ bytes 2 H

-- and bs is section 1's
pub record Known (trits H bs hs : List ℕ) : Type 0 where
  pub shadowed : Shadowed trits H hs
  pub trits_in : TritsIn trits bs

-- ms is section 3's contents: the words of marks of proper trits and shadows
pub record Marked (trits H ms : List ℕ) : Type 0 where
  pub proper : ProperTrits trits H
  pub marks_are : ms ≡ bytes 8 (mark_words trits H)
