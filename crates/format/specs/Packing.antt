-- Document 01, "Refusal numbers and their order": what packing answers, and what it leaves in every buffer. Assumes nothing.
use Rattle.std.specs.Prelude.{ℕ, zero, suc, ◌*◌, ◌≤◌, ◌≡◌, ◌&&◌, cond, List, T, leb, length, take, replicate, Result}
use Rattle.format.specs.Lists.{over, Below}
use Rattle.format.specs.Faults.{fault, ◌then◌}
use Rattle.format.specs.Table.{Graph, nodes, Read, faulty, graph, read_table}
use Rattle.format.specs.Level.{walk, level_order, reached}
use Rattle.format.specs.Image.{image}
use Rattle.format.specs.Answers.{Numbers, done, stops, packed_numbers}
use Rattle.format.specs.declared.Refusal.{Refusal}

-- the image of a table
unfoldable pub image_of : Graph → List ℕ
image_of g = image (walk g).trits (walk g).shadows

-- a table that is accepted: it is read as g, and the roots reach every node
pub record Accepted (table : List ℕ) (g : Graph) : Type 0 where
  pub read : read_table table ≡ graph g
  pub reaches : T (reached g)

-- ---- the outcome

pub record PackOutcome : Type 0 where
  pub returned : Numbers
  pub order : List ℕ
  pub work : List ℕ
  pub image : List ℕ

-- what an entry that answers r leaves, for its contract: `pack_outcome table order work image ≡ pack_leaves r order' work' image'`
abbrev pub pack_leaves : Result ℕ Refusal → List ℕ → List ℕ → List ℕ → PackOutcome
pack_leaves r order work image = record { returned = packed_numbers r; order = order; work = work; image = image }

-- "the first 3n words of work are zero and the rest as before"
abbrev pub cleared : Graph → List ℕ → List ℕ
cleared g work = over (replicate (3 * nodes g) 0) work

-- 7, 8, 9 in order
unfoldable pub pack_fault : Graph → List ℕ → List ℕ → List ℕ → ℕ
pack_fault g order work buffer =
    fault 7 (leb (3 * nodes g) (length work) && leb (nodes g) (length order))
    then fault 8 (reached g)
    then fault 9 (leb (length (image_of g)) (length buffer))

-- "After 1 to 7 all memory is as before; after 8, 9 or success the first 3n words of work are zero and the rest as before"; "Success returns the
-- image's length and writes that many bytes and n order entries; nothing else changes."
abbrev pub pack_settled : ℕ → Graph → List ℕ → List ℕ → List ℕ → PackOutcome
pack_settled zero g order work buffer =
    record { returned = done (length (image_of g)); order = over (level_order g) order; work = cleared g work; image = over (image_of g) buffer }
pack_settled (suc f) g order work buffer =
    record { returned = stops (suc f); order = order; work = cond (leb (suc f) 7) work (cleared g work); image = buffer }

abbrev pub pack_read : Read → List ℕ → List ℕ → List ℕ → PackOutcome
pack_read (faulty f) order work buffer = record { returned = stops f; order = order; work = work; image = buffer }
pack_read (graph g) order work buffer = pack_settled (pack_fault g order work buffer) g order work buffer

-- "Packing reads words front to back; the first fault among 1 to 5 is given, then 6, 7, 8, 9."
unfoldable pub pack_outcome : List ℕ → List ℕ → List ℕ → List ℕ → PackOutcome
pack_outcome table order work buffer = pack_read (read_table table) order work buffer

-- ---- what statements say of it

-- an accepted table, and room enough
pub record RoomEnough (table order work buffer : List ℕ) : Type 0 where
  pub of : Graph
  pub is : Accepted table of
  pub work_room : 3 * nodes of ≤ length work
  pub order_room : nodes of ≤ length order
  pub image_room : length (image_of of) ≤ length buffer

-- no buffer changes its length, and every word and byte fits its width
pub record BuffersKept (order work image : List ℕ) (o : PackOutcome) : Type 0 where
  pub order_length : length o.order ≡ length order
  pub work_length : length o.work ≡ length work
  pub image_length : length o.image ≡ length image
  pub order_fits : Below 65536 order → Below 65536 o.order
  pub work_fits : Below 4294967296 work → Below 4294967296 o.work
  pub image_fits : Below 256 image → Below 256 o.image

-- the bytes that packing wrote
abbrev pub bytes_of : PackOutcome → List ℕ
bytes_of o = take o.returned.value o.image
