-- The lines from line `i` on are left. Assumes nothing.
use Rattle.std.proofs.Common.{◌≡◌, ◌-◌, map}
use Rattle.format.specs.Lists.{one_to, join}
use Rattle.format.specs.Image.{node_count}
use Rattle.format.specs.Proper.{trits_of, shadows_of}
use Rattle.format.specs.Listing.{node_line}
use Rattle.listing.proofs.TextLaws.{Left, parts_from}
use Rattle.listing.proofs.lines.put_nodes.Given as goal

abbrev pub invariant-loop-i : goal.invariant-loop-i
invariant-loop-i l =
    let ts = trits_of l.image.bytes.now in let line = node_line ts (shadows_of l.image.bytes.now) in record {
      left : Left l.initial.text.bytes.now l.initial.text.end (join (map line (one_to (node_count ts)))) l.text.bytes.now l.text.end (parts_from line l.i-end (l.i - 1));
      same : l.text.bytes.ghost_name ≡ l.initial.text.bytes.ghost_name;
    }
