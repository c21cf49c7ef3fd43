-- An empty map has no marks, and the filled one those of H.
use Rattle.proper.proofs.MapLaws.{map_none}
use Rattle.proper.proofs.marked.marks_right.Goals as goal

pub set_marks-requires : goal.set_marks-requires
set_marks-requires c =
    let pre = c.requires in
    (map_none, (pre.0, pre.1, pre.2))
