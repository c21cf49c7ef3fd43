-- What the buyer relies on: each demand of the order and each promise of document 01, in its words, and below it the theorem. The proofs stand in the
-- files that the theorems name. `Accepted table g`: the words `table` are an accepted table, of the graph g. Assumes nothing.
use Prim.Native.Nat.{ℕ, suc, ◌+◌, ◌*◌, ◌/◌, ◌%◌, ◌-◌, ◌^◌, ◌≤◌, ◌<◌}
use mathlib.Core.Path.{◌≡◌, ap, ◌∙◌}
use mathlib.Core.Logic.{◌↔◌, ◌⊎◌}
use mathlib.Core.Bool.{◌&&◌, cond}
use mathlib.Core.Option.{some}
use mathlib.Core.List.{List, map, Permᴰ}
use lib.Dec.{ltb, eqb}
use lib.ListN.{length, get_or, take, drop}
use lib.Count.{ones}
use Rattle.format.specs.Lists.{All, Below, run, one_to, sum_of, node_at, over, count_in, RisingFrom}
use Rattle.format.specs.Table.{Graph, faulty, graph, nodes, edges, Node, words, read_table, WellFormed, WithinLimits, FirstFault}
use Rattle.format.specs.Level.{walk, level_order, Reach, Counts}
use Rattle.format.specs.Trits.{rank, select, trytes, tryte_count, tryte_table}
use Rattle.format.specs.Image.{node_count, group, grouped, starts, marks, mark_words, mark_samples, pairs, last_multiple, image, SectionSizes, ReadBack}
use Rattle.format.specs.Packing.{image_of, Accepted, RoomEnough, bytes_of, cleared, pack_leaves, pack_outcome, BuffersKept}
use Rattle.format.specs.Proper.{CheckerGives, check_image, trits_of, shadows_of, ProperTrits, ImageCode}
use Rattle.format.specs.Edges.{operand_of, user_of, operand_edges, use_edges, Edge}
use Rattle.format.specs.Question.{answer, says, Beyond, Kinds}
use Rattle.format.specs.Answers.{done, stops, checked_number, answer_numbers, found_place, Answerable, ExactlyOne}
use Rattle.format.specs.Unpack.{unpack, unpack_leaves, unpack_outcome}
use Rattle.format.specs.Batch.{batch_leaves, batch_outcome, BatchGives}
use Rattle.format.specs.Listing.{decimal, listing_leaves, listing_outcome, Decimal, ListingGives}
use Rattle.format.specs.Renumbering.{renumbered, operands_at, users_at, Renumbering}
use Rattle.std.specs.Prelude.{Result, Option as Maybe}
use Rattle.format.specs.declared.Refusal.{Refusal}
use Rattle.format.specs.declared.Answer.{Answer}
use Rattle.format.specs.declared.Tally.{Tally}
use Rattle.format.proofs.TableFaults as table-faults
use Rattle.format.proofs.Outcomes as outcomes
use Rattle.format.proofs.Promises as promises
use Rattle.format.proofs.Accepting as accepting
use Rattle.format.proofs.Order as order
use Rattle.format.proofs.Widths as widths
use Rattle.format.proofs.Tryte as tryte
use Rattle.format.proofs.Marks as marked
use Rattle.format.proofs.UsesIndexed as uses
use Rattle.format.proofs.Reached as reached
use Rattle.format.proofs.EdgeLaws as edge-laws
use Rattle.format.proofs.Steps as steps
use Rattle.format.proofs.TableAnswers as answered
use Rattle.format.proofs.Replies as replies
use Rattle.format.proofs.BatchLaws as batches
use Rattle.format.proofs.Ranges as ranges
use Rattle.format.proofs.ListingLaws as listings
use Rattle.format.proofs.CheckLaws as checks
use Rattle.format.proofs.Determined as determined

-- ---- demand 1: every entry ends on every input; bad input gets its number and changes no image, order list, table, answer or tally. Packing, in the
-- order of its refusals:

-- 1 to 6, "the first fault among 1 to 5 is given, then 6": the number given is that of the first fault, and "all memory is as before"
pub table_fault : (table : List ℕ) (f : ℕ) → (read_table table ≡ faulty f) ↔ FirstFault table f
table_fault = table-faults.first_fault

module _ (table order work buffer : List ℕ) where
  pub packing_1_6 : (f : ℕ) → read_table table ≡ faulty f → pack_outcome table order work buffer ≡ record { returned = stops f; order = order; work = work; image = buffer }
  packing_1_6 = outcomes.pack_faulty table order work buffer

  module _ (g : Graph) (e : read_table table ≡ graph g) where
    -- 7, "work shorter than 3n words of 32 bits, or order list shorter than n"
    pub packing_7 : (length work < 3 * nodes g) ⊎ (length order < nodes g)
        → pack_outcome table order work buffer ≡ record { returned = stops 7; order = order; work = work; image = buffer }
    packing_7 = outcomes.pack_7 table order work buffer g e

    module _ (w : 3 * nodes g ≤ length work) (o : nodes g ≤ length order) where
      -- 8, "a node that no root reaches"; "after 8, 9 or success the first 3n words of work are zero and the rest as before"
      pub packing_8 : (((v : ℕ) → Node (nodes g) v → Reach g v) → ⊥)
          → pack_outcome table order work buffer ≡ record { returned = stops 8; order = order; work = cleared g work; image = buffer }
      packing_8 = promises.packing_8 table order work buffer g e w o

      module _ (r : (v : ℕ) → Node (nodes g) v → Reach g v) where
        -- 9, "image buffer too short"
        pub packing_9 : length buffer < length (image_of g)
            → pack_outcome table order work buffer ≡ record { returned = stops 9; order = order; work = cleared g work; image = buffer }
        packing_9 = promises.packing_9 table order work buffer g e w o r

        -- "Success returns the image's length and writes that many bytes and n order entries; nothing else changes."
        pub packing_done : length (image_of g) ≤ length buffer → pack_outcome table order work buffer
            ≡ record { returned = done (length (image_of g)); order = over (level_order g) order; work = cleared g work; image = over (image_of g) buffer }
        packing_done = promises.packing_done table order work buffer g e w o r

  -- so packing succeeds only for an accepted table with room enough
  pub packing_only : (pack_outcome table order work buffer).returned.code ≡ 0 → RoomEnough table order work buffer
  packing_only = outcomes.pack_room table order work buffer

  -- no buffer changes its length, and what was lent in its widths is left in them
  pub packing_kept : BuffersKept order work buffer (pack_outcome table order work buffer)
  packing_kept = promises.packing_kept table order work buffer

  -- and the length returned fits 32 bits
  pub packing_fits : (pack_outcome table order work buffer).returned.value < 4294967296
  packing_fits = ranges.pack_fits table order work buffer

-- "The image checker goes section by section: count missing (21), count wrong (for section 1: 22 if too large, 23 if 0), contents missing (21), contents
-- wrong. n and m are held to 22 after section 1's own rules. Then 26."
pub checking_order : (b : List ℕ) → CheckerGives b
checking_order = steps.checker_gives

-- "Unpacking: 21 to 26, then 51; it writes only the table and returns its length."
module _ (b buffer : List ℕ) where
  pub unpacking_improper : (c : ℕ) → check_image b ≡ suc c → unpack_outcome b buffer ≡ record { returned = stops (suc c); table = buffer }
  unpacking_improper = outcomes.unpack_improper b buffer

  pub unpacking_51 : check_image b ≡ 0 → length buffer < length (words (unpack (trits_of b) (shadows_of b)))
      → unpack_outcome b buffer ≡ record { returned = stops 51; table = buffer }
  unpacking_51 = outcomes.unpack_51 b buffer

  -- the length returned fits 32 bits
  pub unpacking_fits : Below 256 b → (unpack_outcome b buffer).returned.value < 4294967296
  unpacking_fits = ranges.unpack_short b buffer

  pub unpacking_kept : Below 256 b → let o = unpack_outcome b buffer in (length o.table ≡ length buffer) × (Below 65536 buffer → Below 65536 o.table)
  unpacking_kept = promises.unpacking_kept b buffer

-- A batch: "41, 42, 43, then 21 to 26, then the questions one by one"; "A batch of q that runs adds q to asked, the number of code 0 to answered and the
-- others to refused. Answer words past the batch stay."
pub batch_order : (image questions buffer : List ℕ) (t : Tally) → BatchGives image questions buffer t (batch_outcome image questions buffer t)
batch_order = batches.batch_gives

pub batch_fits : (image questions buffer : List ℕ) (t : Tally) → Below 256 image → Below 4294967296 buffer → Below 4294967296 (batch_outcome image questions buffer t).words
batch_fits = ranges.batch_fits

-- The numbers that each entry can give: packing 0 to 9, the checker 0 or 21 to 26, unpacking also 51, a batch also 41 to 43.
pub codes : (table order work buffer image questions : List ℕ) (t : Tally)
    → ((pack_outcome table order work buffer).returned.code ≤ 9) × ImageCode (check_image image)
    × (ImageCode (unpack_outcome image table).returned.code ⊎ ((unpack_outcome image table).returned.code ≡ 51))
    × let c = (batch_outcome image questions work t).code in ImageCode c ⊎ ((41 ≤ c) × (c ≤ 43))
codes table order work buffer image questions t =
    (ranges.pack_codes table order work buffer, steps.image_code image, ranges.unpack_codes image table, ranges.batch_codes image questions work t)

-- ---- demand 2: the level order, the trits, shadow nodes and index that the rules give

-- *accepted*: the words of a graph within the limits, its operands and roots nodes, its roots distinct and reaching every node
pub accepted_exactly : (table : List ℕ) (g : Graph)
    → Accepted table g ↔ ((table ≡ words g) × WellFormed g × WithinLimits g × ((v : ℕ) → Node (nodes g) v → Reach g v))
accepted_exactly = promises.accepted_exactly

module _ (table : List ℕ) (g : Graph) (a : Accepted table g) where
  abbrev trits : List ℕ
  trits = (walk g).trits

  abbrev H : List ℕ
  H = (walk g).shadows

  -- "The length is exactly 2 + n + m + c words."
  pub table_length : length table ≡ 2 + nodes g + edges g + length g.roots
  table_length = ap length (accepting.reads_as table g a).0 ∙ outcomes.length_words g

  -- "The order list gives, for each level number, the table's number": every node once; "Roots enter the queue in list order"
  pub order_once : Permᴰ (level_order g) (one_to (nodes g))
  order_once = order.order_perm g (accepting.packable table g a)

  pub roots_order : take (length g.roots) (level_order g) ≡ g.roots
  roots_order = reached.roots_order g

  -- "Every accepted table has L = n + m + c + 1 trits: n + 1 zeros, n ones, k = m + c − n twos"; L is at most 125,536
  pub trit_counts : Counts g × (length trits ≤ 125536)
  trit_counts = (order.counts g (accepting.packable table g a), (accepting.proper_table table g a).length_high)

  -- each count says how long its contents are, and no entry is cut to its width: sections 2 to 9, read back, are what was written
  pub sections_read : SectionSizes trits H × ReadBack trits H
  sections_read = (widths.sections_counted trits H (accepting.proper_table table g a), widths.sections_back trits H (accepting.proper_table table g a))

  -- and the image is read as the trits and H that were packed
  pub image_read : (trits_of (image_of g) ≡ trits) × (shadows_of (image_of g) ≡ H)
  image_read = promises.trits_back table g a

  -- the index: rank is the samples of sections 6, 7 and 8, whole trytes from there on, and part of one
  pub rank_indexed : (t p : ℕ) → t < 2 → p ≤ length trits → rank t trits p
      ≡ get_or (pairs 65725 (λ p. 0) trits) (2 * (p / 65725) + t) 0 + get_or (pairs 275 (last_multiple 65725) trits) (2 * (p / 275) + t) 0
      + get_or (pairs 25 (last_multiple 275) trits) (2 * (p / 25) + t) 0
      + sum_of (λ (q : ℕ). tryte_count t (get_or (trytes trits) q 0) 5) (run (5 * (p / 25)) (p / 5 - 5 * (p / 25)))
      + tryte_count t (get_or (trytes trits) (p / 5) 0) (p % 5)
  rank_indexed t p = widths.rank_by_index t trits (accepting.proper_table table g a).threes p

  -- "The marks before a node are the sample of section 9 plus the ones in part of one word": before node 64·q + r + 1
  pub marks_indexed : (q r : ℕ) → 64 * q + r < node_count trits → r < 64
      → rank 1 (marks trits H) (64 * q + r) ≡ get_or (mark_samples trits H) q 0 + ones (get_or (mark_words trits H) q 0 % 2 ^ r)
  marks_indexed = marked.marks_before trits H

  -- sections 4 and 5: a marked node's places are the entries of section 5 from its first index up to the next
  pub uses_indexed : (i : ℕ) → 1 ≤ i → i ≤ node_count trits → 0 < count_in i H → let j = rank 1 (marks trits H) (i - 1) in let s = starts trits H in
      group trits H i ≡ take (get_or s (j + 1) 0 - get_or s j 0) (drop (get_or s j 0) (grouped trits H (node_count trits)))
  uses_indexed = uses.uses_indexed trits H (accepting.proper_table table g a)

  -- "Unpacking gives the table in level order", "which packs to the same bytes"
  pub unpacking : (buffer : List ℕ) → length (words (renumbered g (level_order g))) ≤ length buffer → unpack_outcome (image_of g) buffer
      ≡ record { returned = done (length (words (renumbered g (level_order g)))); table = over (words (renumbered g (level_order g))) buffer }
  unpacking buffer = promises.unpacking table buffer g a

  pub unpacked_again : Accepted (words (renumbered g (level_order g))) (renumbered g (level_order g)) × (image_of (renumbered g (level_order g)) ≡ image_of g)
  unpacked_again = promises.unpacked_again table g a

  -- "Listed operands and users are the table's own edges, carried through the order list, operands in their order, each occurrence once."
  pub operands_listed : (i : ℕ) → 1 ≤ i → map operand_of (operand_edges trits H i) ≡ operands_at g i
  operands_listed = answered.operands_listed table g a

  pub users_listed : (v : ℕ) → map user_of (use_edges trits H v) ≡ users_at g v
  users_listed = answered.users_listed table g a

  -- "Uses are edges in order of their place in the trits"
  pub uses_rise : (v : ℕ) → RisingFrom 0 (map (λ (e : Edge). e.place) (use_edges trits H v))
  uses_rise = edge-laws.uses_rise trits H

  module _ (i : ℕ) (low : 1 ≤ i) (high : i ≤ nodes g) where
    -- kind 3, "count of operands"; kind 4, "that operand", with its sort: what the edge wrote, b places after the i-th zero
    pub operand_counts : answer trits H 3 i 0 ≡ says 0 (length (operands_at g i)) 0
    operand_counts = answered.operand_counts table g a i low high

    pub operand_answers : (p : ℕ) × (select 0 trits i ≡ some p)
        × ((b : ℕ) → 1 ≤ b → b ≤ length (operands_at g i) → answer trits H 4 i b ≡ says 0 (node_at (operands_at g i) b) (get_or trits (p + b) 0))
    operand_answers = answered.operand_answers table g a i low high

    -- 33: "Kinds 4 and 6 do where b is 0 or above the count."
    pub operand_past : (b : ℕ) → Beyond (length (operands_at g i)) b → answer trits H 4 i b ≡ says 33 0 0
    operand_past = answered.operand_past table g a i low high

    -- kind 5, "count of uses"; kind 6, "user at that use", "the real one, if any, comes first": sort 1 for the first use of a node that is no root
    pub use_counts : answer trits H 5 i 0 ≡ says 0 (length (users_at g i)) 0
    use_counts = answered.use_counts table g a i low high

    pub user_answers : (b : ℕ) → 1 ≤ b → b ≤ length (users_at g i)
        → answer trits H 6 i b ≡ says 0 (node_at (users_at g i) b) (cond (ltb (length g.roots) i && eqb b 1) 1 2)
    user_answers = answered.user_answers table g a i low high

    pub user_past : (b : ℕ) → Beyond (length (users_at g i)) b → answer trits H 6 i b ≡ says 33 0 0
    user_past = answered.user_past table g a i low high

  -- "Over all nodes the counts of kind 3 sum to m, and so do those of kind 5."
  pub kind_3_sum : sum_of (λ (i : ℕ). (answer trits H 3 i 0).value) (one_to (nodes g)) ≡ edges g
  kind_3_sum = answered.kind_3_sum table g a

  pub kind_5_sum : sum_of (λ (i : ℕ). (answer trits H 5 i 0).value) (one_to (nodes g)) ≡ edges g
  kind_5_sum = answered.kind_5_sum table g a

-- "The kind is looked at first, then a, then b; where the table shows b as 0, any other b gets 33"; rank before L is allowed.
pub kinds_answered : (trits H : List ℕ) → Kinds trits H
kinds_answered = replies.kinds

-- On an accepted image every question has an answer, of code 0 or 31 to 33, and numbers that fit.
pub answer_sound : (image : List ℕ) → Below 256 image → check_image image ≡ 0 → (kind a b : ℕ) → Answerable (answer (trits_of image) (shadows_of image) kind a b)
answer_sound image low e = ranges.fair (trits_of image) (shadows_of image) (checks.image_passed image low e).proper

-- "A table of 243 entries gives the zeros and ones of every tryte."
pub tryte_entries : (x : ℕ) → x < 243 → get_or tryte_table x 0 ≡ tryte_count 0 x 5 + 8 * tryte_count 1 x 5
tryte_entries = tryte.tryte_entry

-- "An image is proper if" it is that of trits and shadows that keep the rules. "A proper image gives 0".
pub proper_exactly : (b : List ℕ) → Below 256 b → (check_image b ≡ 0) ↔ ((trits : List ℕ) × (H : List ℕ) × ProperTrits trits H × (b ≡ image trits H))
proper_exactly = promises.proper_exactly

-- "The checker accepts an image exactly if some accepted table packs to it", with room enough.
pub checker_exact : (b : List ℕ) → Below 256 b → (check_image b ≡ 0)
    ↔ ((table : List ℕ) × (order : List ℕ) × (work : List ℕ) × (buffer : List ℕ) × All (λ w. w < 65536) table
    × ((pack_outcome table order work buffer).returned.code ≡ 0) × (bytes_of (pack_outcome table order work buffer) ≡ b))
checker_exact = promises.checker_bytes

-- Unpacking any accepted image, and packing what it left, gives the image again.
pub round_trip : (b buffer order work image : List ℕ) → Below 256 b → (unpack_outcome b buffer).returned.code ≡ 0
    → 3 * node_count (trits_of b) ≤ length work → node_count (trits_of b) ≤ length order → length b ≤ length image
    → let o = unpack_outcome b buffer in let p = pack_outcome (take o.returned.value o.table) order work image in
    (p.returned ≡ done (length b)) × (bytes_of p ≡ b)
round_trip = promises.round_trip

-- "A fault prints one line and no other [..]. Otherwise a first line of counts [..], then a line for each level number"; numbers are in decimal.
pub listing_writes : (input : List ℕ) → ListingGives input
listing_writes = listings.listing_gives

pub decimal_writes : (x : ℕ) → x < 10 ^ 10 → Decimal x (decimal x)
decimal_writes = listings.decimal_is

-- ---- demand 3: "Take two accepted tables, packed with room enough. Their images are equal byte by byte exactly when some one-to-one renumbering of nodes
-- carries the first root list to the second, in order, and each node's operand list to its counterpart's, in order."
pub demand_3 : (us o w b vs o' w' b' : List ℕ) (r : RoomEnough us o w b) (s : RoomEnough vs o' w' b')
    → (bytes_of (pack_outcome us o w b) ≡ bytes_of (pack_outcome vs o' w' b')) ↔ Renumbering r.of s.of
demand_3 = promises.demand_3_bytes

-- ---- "Prove that two outcomes allowed by it are equal": of each contract there is exactly one answer and one content of all that was lent

pub pack_determined : (table order work image : List ℕ)
    → ExactlyOne (λ (x : Result ℕ Refusal × List ℕ × List ℕ × List ℕ). pack_outcome table order work image ≡ pack_leaves x.0 x.1 x.2 x.3)
pack_determined = determined.packing

pub check_determined : (image : List ℕ) → ExactlyOne (λ (r : Result (Unit {0}) Refusal). checked_number r ≡ check_image image)
check_determined = determined.checking

pub unpack_determined : (image table : List ℕ) → ExactlyOne (λ (x : Result ℕ Refusal × List ℕ). unpack_outcome image table ≡ unpack_leaves x.0 x.1)
unpack_determined = determined.unpacking

pub batch_determined : (image questions buffer : List ℕ) (t : Tally)
    → ExactlyOne (λ (x : Result (Unit {0}) Refusal × List ℕ × Tally). batch_outcome image questions buffer t ≡ batch_leaves x.0 x.1 x.2)
batch_determined = determined.batching

pub answer_determined : (image : List ℕ) → Below 256 image → check_image image ≡ 0 → (kind a b : ℕ)
    → ExactlyOne (λ (r : Result Answer Refusal). answer_numbers r ≡ answer (trits_of image) (shadows_of image) kind a b)
answer_determined = determined.answering

pub select_determined : (trits : List ℕ) (t j : ℕ) → ExactlyOne (λ (r : Maybe ℕ). found_place r ≡ select t trits j)
select_determined = determined.selecting

pub listing_determined : (input buffer : List ℕ) → ExactlyOne (λ (x : ℕ × List ℕ). listing_outcome input buffer ≡ listing_leaves x.0 x.1)
listing_determined = determined.listing
