-- The words before `w` are those of the map.
use Rattle.std.proofs.Common.{ℕ, ◌*◌, ◌<◌, ◌≡◌, get_or}
use Rattle.format.specs.Image.{read}
use Rattle.proper.proofs.marked.words_right.Given as goal

abbrev pub invariant-loop-w : goal.invariant-loop-w
invariant-loop-w l = (i : ℕ) → i < l.w → read 8 (8 * i) l.part ≡ get_or l.map i 0
