-- At each turn the operand lists left give the whole answer.
use Rattle.std.proofs.Common.{◌≡◌, ◌-◌, ◌≤◌, length, drop}
use Rattle.format.specs.Table.{read_nodes}
use Rattle.packing.specs.Sizes.{step_of}
use Rattle.packing.proofs.table.lists.Given as goal

abbrev pub invariant-loop : goal.invariant-loop
invariant-loop l = record {
  inside : l.at ≤ length l.table;
  few : l.m ≤ 65535;
  rest : step_of l.table (read_nodes l.n (l.n - l.counter) l.m (drop l.at l.table)) ≡ step_of l.table (read_nodes l.n l.n 0 (drop 1 l.table));
}
