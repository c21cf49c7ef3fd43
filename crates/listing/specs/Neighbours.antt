-- The neighbours of a node, as questions about the image give them. Assumes nothing.
use Rattle.std.specs.Prelude.{ℕ, cond, List, [], ◌++◌, map, eqb}
use Rattle.format.specs.Lists.{one_to, join}
use Rattle.format.specs.Proper.{trits_of, shadows_of}
use Rattle.format.specs.Question.{Reply, answer}
use Rattle.format.specs.Listing.{text, decimal}

-- a neighbour after a space; a star marks sort 2
abbrev pub star : ℕ → List ℕ
star sort = cond (eqb sort 2) (text "*") []

unfoldable pub neighbour_text : Reply → List ℕ
neighbour_text r = text " " ++ (decimal r.value ++ star r.sort)

-- neighbour number b of node i, by the kind that gives each, and all of them, by the kind that counts them too
abbrev pub neighbour_at : List ℕ → ℕ → ℕ → ℕ → List ℕ
neighbour_at image each i b = neighbour_text (answer (trits_of image) (shadows_of image) each i b)

unfoldable pub neighbours : List ℕ → ℕ → ℕ → ℕ → List ℕ
neighbours image count each i = join (map (neighbour_at image each i) (one_to (answer (trits_of image) (shadows_of image) count i 0).value))
