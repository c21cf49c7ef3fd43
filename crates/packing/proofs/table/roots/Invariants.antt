-- At each turn the roots left give the whole answer, and the map marks the roots read.
use Rattle.std.proofs.Common.{◌≡◌, List, [], ℕ, ◌+◌, ◌-◌, ◌≤◌, length, drop}
use Rattle.format.specs.Table.{read_roots}
use Rattle.packing.specs.Sizes.{step_of}
use Rattle.packing.proofs.BitLaws.{Marks}
use Rattle.packing.proofs.table.roots.Given as goal

abbrev pub invariant-loop-i : goal.invariant-loop-i
invariant-loop-i l = record {
  inside : l.at + l.i ≤ length l.table;
  words : length l.seen ≡ 469;
  before : List ℕ;
  marks : Marks l.seen before;
  rest : step_of l.table (read_roots l.n (l.c - l.i) before (drop (l.at + l.i) l.table)) ≡ step_of l.table (read_roots l.n l.c [] (drop l.at l.table));
}
