-- What the walk has still to write where a cursor stands. Assumes nothing.
use Rattle.std.specs.Prelude.{◌≡◌, List, [], ◌∷◌, ◌++◌, ℕ, zero, suc, ◌+◌, ◌-◌, ◌*◌, ◌≤◌, ◌<◌, length, get_or, take, drop, Option, Some, None}
use Rattle.format.specs.Lists.{All, count_in, horner}
use Rattle.format.specs.Table.{Node}
use Rattle.format.specs.Level.{Walk, see_all, close, turns, walk}
use Rattle.packing.specs.Work.{graph_of, start_of}
use Rattle.packing.specs.declared.stream.Cursor.{Cursor}
use Rattle.packing.specs.declared.stream.Trit.{Trit}
use Rattle.packing.specs.declared.stream.Trit.TheVariants.{End, Real, Shadow}

-- what two walks write, one after the other
abbrev pub plus : Walk → Walk → Walk
plus a b = record { queue = a.queue ++ b.queue; trits = a.trits ++ b.trits; shadows = a.shadows ++ b.shadows }

-- where row i ends in the table: row 0 has the roots, the table's last words; row i has the operands of the i-th node of the queue
unfoldable pub row_end : List ℕ → ℕ → ℕ
row_end table zero = length table
row_end table (suc i) = start_of (graph_of table) (get_or (walk (graph_of table)).queue i 0)

-- the cursor stands where w is written: the rest of its row leads to the walk after i turns; past the last row all is written, and it stands where
-- that row ended
pub record Stands (table : List ℕ) (n : ℕ) (w : Walk) (c : Cursor) : Type 0 where
  pub rows : c.i ≡ count_in 0 w.trits
  pub reals : c.ones ≡ count_in 1 w.trits
  pub ones : c.ones ≡ length w.queue
  pub inside : c.at + c.left ≤ length table
  pub are_nodes : All (Node n) (take c.left (drop c.at table))
  pub row : c.i ≤ n → turns (graph_of table) c.i ≡ close (see_all (take c.left (drop c.at table)) w)
  pub ends : c.i ≤ n → c.at + c.left ≡ row_end table c.i
  pub past : n < c.i → (c.left ≡ 0) × (w ≡ walk (graph_of table)) × (c.i ≡ n + 1) × (c.at ≡ row_end table n)

-- and the walk has still to write `left`
pub record Rest (table : List ℕ) (n : ℕ) (left : Walk) (c : Cursor) : Type 0 where
  pub sofar : Walk
  pub stands : Stands table n sofar c
  pub all : walk (graph_of table) ≡ plus sofar left
  pub twos : count_in 2 left.trits ≡ length left.shadows

-- for some `left`
pub record Standing (table : List ℕ) (n : ℕ) (c : Cursor) : Type 0 where
  pub left : Walk
  pub rest : Rest table n left c

-- falls with each trit: a row has at most 65,535 operands
abbrev pub ahead : ℕ → Cursor → ℕ
ahead n c = (n + 1 - c.i) * 65536 + c.left

-- of `left` the trit t is written, and the shadows H
pub record Wrote (table : List ℕ) (n t : ℕ) (H : List ℕ) (left : Walk) (c : Cursor) : Type 0 where
  pub next : Walk
  pub trits : left.trits ≡ t ∷ next.trits
  pub shadows : left.shadows ≡ H ++ next.shadows
  pub rest : Rest table n next c

-- what a step to the cursor c says of `left`
abbrev pub Stepped : List ℕ → ℕ → Walk → Option Trit → Cursor → Type 0
Stepped table n left (Some End) c = Wrote table n 0 [] left c
Stepped table n left (Some Real) c = Wrote table n 1 [] left c
Stepped table n left (Some (Shadow p)) c = Wrote table n 2 (p ∷ []) left c
Stepped table n left None c = (left.trits ≡ []) × (left.shadows ≡ []) × Rest table n left c

-- k trits were taken, whose number is v
pub record Took (table : List ℕ) (n k : ℕ) (left : Walk) (v : ℕ) (c : Cursor) : Type 0 where
  pub value : v ≡ horner 3 (take k left.trits)
  pub next : Walk
  pub trits : next.trits ≡ drop k left.trits
  pub rest : Rest table n next c
