-- Document 01, "Level order and trits": the queue of nodes, the trits and the shadow list H that a walk through a table writes.
-- Assumes nothing.
use Rattle.std.specs.Prelude.{ℕ, zero, suc, ◌+◌, ◌≡◌, Bool, length, drop, replicate, eqb}
use mathlib.Core.List.{List, [], ◌∷◌, ◌++◌, Memᴰ}
use Rattle.format.specs.Lists.{number_in, count_in}
use Rattle.format.specs.Table.{Graph, nodes, edges, operands_of}

-- what has been written so far: the nodes in the order in which they were first seen, the trits, and the level number of each shadow
pub record Walk : Type 0 where
  pub queue : List ℕ
  pub trits : List ℕ
  pub shadows : List ℕ

-- an operand at this place of the queue: 0, seen for the first time, it enters the queue and writes 1; seen before, it writes 2 and
-- its level number joins the shadows
abbrev pub enter : ℕ → ℕ → Walk → Walk
enter zero v w = record { queue = w.queue ++ v ∷ []; trits = w.trits ++ 1 ∷ []; shadows = w.shadows }
enter (suc k) v w = record { queue = w.queue; trits = w.trits ++ 2 ∷ []; shadows = w.shadows ++ suc k ∷ [] }

unfoldable pub see : ℕ → Walk → Walk
see v w = enter (number_in v w.queue) v w

unfoldable pub see_all : List ℕ → Walk → Walk
see_all [] w = w
see_all (v ∷ vs) w = see_all vs (see v w)

-- after the last operand a 0
abbrev pub close : Walk → Walk
close w = record { queue = w.queue; trits = w.trits ++ 0 ∷ []; shadows = w.shadows }

unfoldable pub visit : Graph → ℕ → Walk → Walk
visit g v w = close (see_all (operands_of g v) w)

-- the super-root: the roots enter the queue in order, c ones, then 0
unfoldable pub super_root : Graph → Walk
super_root g = record { queue = g.roots; trits = replicate (length g.roots) 1 ++ 0 ∷ []; shadows = [] }

-- the node taken from the queue, if one is left
abbrev pub taken : Graph → List ℕ → Walk → Walk
taken g [] w = w
taken g (v ∷ rest) w = visit g v w

abbrev pub turn : Graph → ℕ → Walk → Walk
turn g i w = taken g (drop i w.queue) w

-- the walk after i nodes have been taken
unfoldable pub turns : Graph → ℕ → Walk
turns g zero = super_root g
turns g (suc i) = turn g i (turns g i)

-- a node is taken at most once, so n turns are enough
unfoldable pub walk : Graph → Walk
walk g = turns g (nodes g)

unfoldable pub level_order : Graph → List ℕ
level_order g = (walk g).queue

-- every node is reached from a root: all are in the queue (refusal 8 otherwise)
unfoldable pub reached : Graph → Bool
reached g = eqb (length (level_order g)) (nodes g)

-- ---- what statements say of it

-- what a root reaches: the roots, and the operands of what is reached
pub data Reach (g : Graph) : ℕ → Type 0 where
  root : {v : ℕ} → Memᴰ v g.roots → Reach g v
  further : {u v : ℕ} → Reach g u → Memᴰ v (operands_of g u) → Reach g v

-- the counts of trits and shadows: L = n + m + c + 1, n + 1 zeros, n ones, k twos with k + n = m + c
pub record Counts (g : Graph) : Type 0 where
  pub size : length (walk g).trits ≡ nodes g + edges g + length g.roots + 1
  pub zeros : count_in 0 (walk g).trits ≡ nodes g + 1
  pub ones : count_in 1 (walk g).trits ≡ nodes g
  pub twos : count_in 2 (walk g).trits + nodes g ≡ edges g + length g.roots
  pub shadows : length (walk g).shadows ≡ count_in 2 (walk g).trits
