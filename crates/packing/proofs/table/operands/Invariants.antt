-- At each turn the operands left give the whole answer.
use Rattle.std.proofs.Common.{◌≡◌, ◌+◌, ◌-◌, ◌≤◌, length, drop}
use Rattle.format.specs.Table.{read_operands}
use Rattle.packing.specs.Sizes.{step_of}
use Rattle.packing.proofs.table.operands.Given as goal

abbrev pub invariant-loop-i : goal.invariant-loop-i
invariant-loop-i l = record {
  inside : l.at + l.i ≤ length l.table;
  rest : step_of l.table (read_operands l.n (l.k - l.i) (drop (l.at + l.i) l.table)) ≡ step_of l.table (read_operands l.n l.k (drop l.at l.table));
}
