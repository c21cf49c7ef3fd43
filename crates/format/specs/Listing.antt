-- Document 01, "The listing program": its text, as bytes. Assumes nothing.
use Rattle.std.specs.Prelude.{ℕ, zero, suc, ◌+◌, ◌-◌, ◌*◌, ◌/◌, ◌%◌, ◌≤◌, ◌<◌, ◌≡◌, ◌⊎◌, true, false, ◌&&◌, cond, List, [], ◌∷◌, ◌++◌, map, ltb, leb, eqb, length, get_or}
use Prim.Native.Char.{code}
use Prim.Native.String.{String, len, char_at}
use Rattle.format.specs.Lists.{one_to, each, join, over, All}
use Rattle.format.specs.Table.{Graph, Read, faulty, graph, read_table}
use Rattle.format.specs.Level.{walk, reached}
use Rattle.format.specs.Image.{node_count, root_count, edge_count, image, from_bytes}
use Rattle.format.specs.Packing.{Accepted, pack_outcome}
use Rattle.format.specs.Answers.{stops}
use Rattle.format.specs.Edges.{Edge, operand_edges, use_edges}

-- the bytes of quoted text, each character by its code
abbrev pub text : String → List ℕ
text s = each (len s) (λ i. code (char_at s i))

-- a number in decimal, of at most d digits
abbrev pub decimal_in : ℕ → ℕ → List ℕ
decimal_in zero x = []
decimal_in (suc d) x = elim (ltb x 10) [ true ↦ (48 + x) ∷ [] | false ↦ decimal_in d (x / 10) ++ ((48 + x % 10) ∷ []) ]

unfoldable pub decimal : ℕ → List ℕ
decimal x = decimal_in 10 x

-- the end of a line
abbrev pub newline : List ℕ
newline = 10 ∷ []

-- a star marks sort 2
abbrev pub starred : Edge → List ℕ
starred e = cond (eqb e.sort 2) (text "*") []

-- a neighbour after a space
unfoldable pub operand_text : Edge → List ℕ
operand_text e = text " " ++ (decimal e.operand ++ starred e)

unfoldable pub user_text : Edge → List ℕ
user_text e = text " " ++ (decimal e.user ++ starred e)

-- `4: 6 7 | 2 3*`
unfoldable pub node_line : List ℕ → List ℕ → ℕ → List ℕ
node_line trits H i =
    join (
    decimal i ∷ text ":" ∷ join (map operand_text (operand_edges trits H i)) ∷ text " |" ∷ join (map user_text (use_edges trits H i)) ∷ newline ∷ [])

-- nodes 8 edges 11 roots 1 trits 21 shadows 4 bytes 105
unfoldable pub count_line : List ℕ → List ℕ → List ℕ
count_line trits H =
    join (
    text "nodes " ∷ decimal (node_count trits)
    ∷ text " edges " ∷ decimal (edge_count trits)
    ∷ text " roots " ∷ decimal (root_count trits)
    ∷ text " trits " ∷ decimal (length trits)
    ∷ text " shadows " ∷ decimal (length H)
    ∷ text " bytes " ∷ decimal (length (image trits H))
    ∷ newline ∷ [])

-- a first line of counts, then a line for each level number
unfoldable pub listing : List ℕ → List ℕ → List ℕ
listing trits H = count_line trits H ++ join (map (node_line trits H) (one_to (node_count trits)))

-- a fault prints one line: refused 8
unfoldable pub refusal : ℕ → List ℕ
refusal c = text "refused " ++ (decimal c ++ newline)

-- what the program writes for a table: the buffers that it packs with have room enough, so that 7 and 9 do not occur
unfoldable pub table_text : Read → List ℕ
table_text (faulty f) = refusal f
table_text (graph g) = let w = walk g in cond (reached g) (listing w.trits w.shadows) (refusal 8)

-- "Reads a table from standard input, two bytes a word, low byte first": an odd number of bytes, or more than 8,000, is 61
unfoldable pub listing_text : List ℕ → List ℕ
listing_text input = cond (eqb (length input % 2) 0 && leb (length input) 8000) (table_text (read_table (from_bytes 2 input))) (refusal 61)

-- ---- the outcome: the text's length, and the text over the front of the buffer that it is written to, of 100,000 bytes (no text is longer)

pub record ListingOutcome : Type 0 where
  pub size : ℕ
  pub buffer : List ℕ

unfoldable pub listing_outcome : List ℕ → List ℕ → ListingOutcome
listing_outcome input buffer = record { size = length (listing_text input); buffer = over (listing_text input) buffer }

-- what a function that returns `size` leaves, for its contract
abbrev pub listing_leaves : ℕ → List ℕ → ListingOutcome
listing_leaves size buffer = record { size = size; buffer = buffer }

-- ---- what statements say of it

-- decimal digits read from the left
abbrev pub read_decimal : ℕ → List ℕ → ℕ
read_decimal acc [] = acc
read_decimal acc (d ∷ ds) = read_decimal (10 * acc + (d - 48)) ds

-- a number in decimal: it reads back, in digits, with no 0 in front but of 0 itself
pub record Decimal (x : ℕ) (bs : List ℕ) : Type 0 where
  pub reads : read_decimal 0 bs ≡ x
  pub digits : All (λ b. (48 ≤ b) × (b ≤ 57)) bs
  pub leads : 0 < x → 48 < get_or bs 0 0
  pub zero : x ≡ 0 → bs ≡ 48 ∷ []

-- 61 first; then what packing refuses, 7 and 9 apart, which depend on buffers that are lent; else the listing; at most 100,000 bytes
pub record ListingGives (input : List ℕ) : Type 0 where
  pub input_wrong : (length input % 2 ≡ 0 → ⊥) ⊎ (8000 < length input) → listing_text input ≡ refusal 61
  pub table_refused : length input % 2 ≡ 0 → length input ≤ 8000 → (order work buffer : List ℕ) (f : ℕ) → 0 < f → (f ≡ 7 → ⊥) → (f ≡ 9 → ⊥)
      → (pack_outcome (from_bytes 2 input) order work buffer).returned ≡ stops f → listing_text input ≡ refusal f
  pub accepted : length input % 2 ≡ 0 → length input ≤ 8000 → (g : Graph) → Accepted (from_bytes 2 input) g → listing_text input ≡ listing (walk g).trits (walk g).shadows
  pub few : length (listing_text input) ≤ 100000
