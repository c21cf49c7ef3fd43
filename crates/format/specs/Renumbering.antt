-- Demands 2 and 3: a table carried through an order list, and two tables that differ only in the numbers of their nodes. Assumes nothing.
use Rattle.std.specs.Prelude.{ℕ, ◌≡◌, List, map, replicate}
use Rattle.format.specs.Lists.{number_in, node_at, one_to, join, count_in}
use Rattle.format.specs.Table.{Graph, nodes, operands_of, Node}
use Rattle.format.specs.Level.{level_order}

-- nodes carried through the order list q: each becomes its level number, its number there
abbrev pub carried : List ℕ → List ℕ → List ℕ
carried q vs = map (λ (u : ℕ). number_in u q) vs

-- the table g in the order of the list q, which has every node
unfoldable pub renumbered : Graph → List ℕ → Graph
renumbered g q = record { operands = map (λ (v : ℕ). carried q (operands_of g v)) q; roots = carried q g.roots }

-- the operands of the node with level number i, and the users of the node with level number v, as level numbers: user i as often as v stands
-- among i's operands
abbrev pub operands_at : Graph → ℕ → List ℕ
operands_at g i = carried (level_order g) (operands_of g (node_at (level_order g) i))

abbrev pub users_at : Graph → ℕ → List ℕ
users_at g v = join (map (λ (i : ℕ). replicate (count_in v (operands_at g i)) i) (one_to (nodes g)))

-- "some one-to-one renumbering of nodes carries the first root list to the second, in order, and each node's operand list to its
-- counterpart's, in order"
pub record Renumbering (g h : Graph) : Type 0 where
  pub to : ℕ → ℕ
  pub from : ℕ → ℕ
  pub to_node : (v : ℕ) → Node (nodes g) v → Node (nodes h) (to v)
  pub from_node : (v : ℕ) → Node (nodes h) v → Node (nodes g) (from v)
  pub from_to : (v : ℕ) → Node (nodes g) v → from (to v) ≡ v
  pub to_from : (v : ℕ) → Node (nodes h) v → to (from v) ≡ v
  pub roots_to : map to g.roots ≡ h.roots
  pub operands_to : (v : ℕ) → Node (nodes g) v → map to (operands_of g v) ≡ operands_of h (to v)
