-- The neighbours from number `b` on are left. Assumes nothing.
use Rattle.std.proofs.Common.{◌≡◌, ◌-◌}
use Rattle.asking.specs.Kinds.{kind_number}
use Rattle.listing.specs.Neighbours.{neighbour_at, neighbours}
use Rattle.listing.proofs.TextLaws.{Left, parts_from}
use Rattle.listing.proofs.lines.put_neighbours.Given as goal

abbrev pub invariant-loop-b : goal.invariant-loop-b
invariant-loop-b l = let image = l.image.bytes.now in record {
  left : Left l.initial.text.bytes.now l.initial.text.end (neighbours image (kind_number l.fn.count) (kind_number l.each) l.i) l.text.bytes.now l.text.end (parts_from (neighbour_at image (kind_number l.each) l.i) l.many (l.b - 1));
  same : l.text.bytes.ghost_name ≡ l.initial.text.bytes.ghost_name;
}
