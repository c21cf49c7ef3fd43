-- The entries before `e` are compared, and so are the first `j` numbers of section 4.
use Rattle.std.proofs.Common.{◌≤◌}
use Rattle.proper.specs.Held.{trits_in, shadows_in}
use Rattle.proper.proofs.IndexLaws.{Indexed}
use Rattle.proper.proofs.placed.keys_right.Given as goal

abbrev pub invariant-loop-e : goal.invariant-loop-e
invariant-loop-e l = record {
  fewer : l.j ≤ l.e;
  so_far : Indexed (trits_in l.twos.walk.trits) (shadows_in l.twos.walk) l.firsts l.part l.e l.low l.j;
}
