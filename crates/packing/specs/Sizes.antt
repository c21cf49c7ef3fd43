-- The answers of the functions that read a table, in numbers, beside what the definition reads. Assumes nothing.
use Rattle.std.specs.Prelude.{ℕ, suc, ◌+◌, ◌-◌, ◌≡◌, ◌⊎◌, List, length, drop, Result, Ok, Err}
use Rattle.std.proofs.Common.{inl, inr}
use Rattle.format.specs.Lists.{sum_of}
use Rattle.format.specs.Table.{nodes, edges, Got, stopped, got, read_graph, Read, faulty, graph, read_end}
use Rattle.format.specs.Answers.{refusal_number}
use Rattle.format.specs.declared.Refusal.{Refusal}
use Rattle.packing.specs.declared.table.Sizes.{Sizes}

-- a place, or the number of a fault
abbrev pub place_of : Result ℕ Refusal → ℕ ⊎ ℕ
place_of (Ok p) = inl p
place_of (Err r) = inr (refusal_number r)

-- the same of what was read: the place in the table of the first word that is left
abbrev pub step_of : {X : Type 0} → List ℕ → Got X → ℕ ⊎ ℕ
step_of table (stopped f) = inr f
step_of table (got x ws) = inl (length table - length ws)

-- n, m and c, or the number of a fault
abbrev pub sizes : Result Sizes Refusal → Sizes ⊎ ℕ
sizes (Ok s) = inl s
sizes (Err r) = inr (refusal_number r)

abbrev pub sizes_of : Read → Sizes ⊎ ℕ
sizes_of (faulty f) = inr f
sizes_of (graph g) = inl (record { nodes = nodes g; edges = edges g; roots = length g.roots })

-- n and operand lists of n nodes are read; the roots are read next, from place `at` on
pub record Lists (n at : ℕ) (os : List (List ℕ)) (table : List ℕ) : Type 0 where
  pub many : length os ≡ n
  pub ends : at ≡ suc (n + sum_of length os)
  pub next : read_graph table ≡ read_end n os (drop at table)
