-- What the packer's last functions hand to each other: a walked table, the layout of its image, and buffers with room. Assumes nothing.
use Rattle.std.specs.Prelude.{ℕ, ◌*◌, ◌≤◌, ◌≡◌, List, [], ◌∷◌, length, replicate, take, Result}
use Rattle.format.specs.Lists.{over}
use Rattle.format.specs.Table.{Graph, nodes, edges}
use Rattle.format.specs.Level.{walk}
use Rattle.format.specs.Image.{marked_nodes, node_count, section1, section2, written, image}
use Rattle.format.specs.Packing.{image_of, pack_outcome, pack_leaves}
use Rattle.format.specs.declared.Refusal.{Refusal}
use Rattle.trits.specs.declared.Layout.{Layout}
use Rattle.trits.specs.Layout.{layout}
use Rattle.packing.specs.declared.table.Sizes.{Sizes}
use Rattle.packing.specs.Work.{graph_of, Sized, Kept}
use Rattle.packing.specs.Walked.{Walked}
use Rattle.format.specs.Proper.{ProperTrits}

-- the layout of a graph's image
unfoldable pub graph_layout : Graph → Layout
graph_layout g =
    layout (length (walk g).trits) (nodes g) (length g.roots) (length (walk g).shadows) (length (marked_nodes (walk g).trits (walk g).shadows))

-- the walk through the table is in the buffer, and the image has room
pub record Planned (table work : List ℕ) (lay : Layout) (image : List ℕ) : Type 0 where
  pub walked : Walked table lay.nodes work
  pub laid : lay ≡ graph_layout (graph_of table)
  pub room : length (image_of (graph_of table)) ≤ length image

-- lay is the layout of the image of trits and shadows, its roots apart, which no section is placed by; the buffer has room for it
pub record LaidOut (trits H : List ℕ) (lay : Layout) (buffer : List ℕ) : Type 0 where
  pub proper : ProperTrits trits H
  pub is : lay ≡ layout (length trits) (node_count trits) lay.roots (length H) (length (marked_nodes trits H))
  pub room : length (image trits H) ≤ length buffer

-- sections 1 and 2
abbrev pub front : List ℕ → List ℕ → List ℕ
front trits H = written (section1 trits H ∷ section2 trits H ∷ [])

-- and they stand in it
pub record Started (trits H : List ℕ) (lay : Layout) (buffer : List ℕ) : Type 0 where
  pub laid : LaidOut trits H lay buffer
  pub stands : take (length (front trits H)) buffer ≡ front trits H

-- a table that is read, with its sizes
pub record Measured (table : List ℕ) (s : Sizes) : Type 0 where
  pub sized : Sized table s.nodes
  pub edges_are : s.edges ≡ edges (graph_of table)
  pub roots_are : s.roots ≡ length (graph_of table).roots

-- and the buffers of the walk and of the order list have room
pub record Lent (table order work : List ℕ) (s : Sizes) : Type 0 where
  pub measured : Measured table s
  pub order_room : s.nodes ≤ length order
  pub work_room : 3 * s.nodes ≤ length work

-- the walk is in its buffer
pub record Ordered (table order work : List ℕ) (s : Sizes) : Type 0 where
  pub measured : Measured table s
  pub order_room : s.nodes ≤ length order
  pub walked : Walked table s.nodes work

-- whatever work was before the walk, packing answers r and leaves order', image', and work' with its first 3n words cleared
pub record Uncleared (table : List ℕ) (n : ℕ) (order work image : List ℕ) (r : Result ℕ Refusal) (order' work' image' : List ℕ) : Type 0 where
  pub outcome : (old : List ℕ) → length work ≡ length old → Kept 0 (3 * n) old work
      → pack_outcome table order old image ≡ pack_leaves r order' (over (replicate (3 * n) 0) work') image'
