-- The first `i` words are read. Assumes nothing.
use Rattle.format.specs.Image.{from_bytes}
use Rattle.format.proofs.Over.{Over}
use Rattle.listing.proofs.read_words.Given as goal

abbrev pub invariant-loop-i : goal.invariant-loop-i
invariant-loop-i l = Over (from_bytes 2 l.input) l.i-end l.initial.words l.words l.i
