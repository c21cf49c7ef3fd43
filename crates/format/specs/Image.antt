-- Document 01, "The image": the nine sections that trits and shadows (the list H) give, and the image. Assumes nothing.
use Rattle.std.specs.Prelude.{ℕ, zero, suc, ◌+◌, ◌-◌, ◌*◌, ◌/◌, ◌≡◌, Bool, List, [], ◌∷◌, ◌++◌, map, eqb, ltb, length, get_or, take, drop}
use Rattle.format.specs.Lists.{one_to, bit, each, keep, join, count_in, up, low_digits, horner, gather, spread}
use Rattle.format.specs.Trits.{rank, places, trytes}

-- a number as little-endian bytes, and back
abbrev pub le_bytes : ℕ → ℕ → List ℕ
le_bytes width x = low_digits 256 width x

abbrev pub le_number : List ℕ → ℕ
le_number bs = horner 256 bs

-- numbers, so many bytes each, and back
unfoldable pub bytes : ℕ → List ℕ → List ℕ
bytes width xs = spread 256 width xs

unfoldable pub from_bytes : ℕ → List ℕ → List ℕ
from_bytes width bs = gather 256 width bs

-- the number of so many bytes at a place
abbrev pub read : ℕ → ℕ → List ℕ → ℕ
read width at b = le_number (take width (drop at b))

-- ---- what the trits say

-- the trits before the first zero
abbrev pub until_zero : List ℕ → List ℕ
until_zero [] = []
until_zero (zero ∷ xs) = []
until_zero (suc t ∷ xs) = suc t ∷ until_zero xs

-- n, c, m: every node was written once as a 1; those before the first zero are the roots
unfoldable pub node_count : List ℕ → ℕ
node_count trits = count_in 1 trits

unfoldable pub root_count : List ℕ → ℕ
root_count trits = count_in 1 (until_zero trits)

unfoldable pub edge_count : List ℕ → ℕ
edge_count trits = length trits - node_count trits - root_count trits - 1

-- the entry of H that belongs to the 2 at place p
unfoldable pub shadow_at : List ℕ → List ℕ → ℕ → ℕ
shadow_at trits H p = get_or H (rank 2 trits p) 0

-- ---- section 3: a node is marked if it occurs in H

unfoldable pub marked : List ℕ → ℕ → Bool
marked H i = ltb 0 (count_in i H)

-- the marks of nodes 1 to n
unfoldable pub marks : List ℕ → List ℕ → List ℕ
marks trits H = map (λ i. bit (marked H i)) (one_to (node_count trits))

-- 64 nodes a word, node i at bit (i - 1) mod 64, spare bits 0
unfoldable pub mark_words : List ℕ → List ℕ → List ℕ
mark_words trits H = gather 2 64 (marks trits H)

-- ---- section 5: places of the twos, grouped by node rising, then by place

-- the places of node i's twos
unfoldable pub group : List ℕ → List ℕ → ℕ → List ℕ
group trits H i = keep (λ p. eqb (shadow_at trits H p) i) (places 2 trits)

-- the groups of nodes 1 to i
unfoldable pub grouped : List ℕ → List ℕ → ℕ → List ℕ
grouped trits H i = join (map (group trits H) (one_to i))

-- ---- section 4: first index in section 5 for each marked node, rising by node, then k

unfoldable pub marked_nodes : List ℕ → List ℕ → List ℕ
marked_nodes trits H = keep (marked H) (one_to (node_count trits))

unfoldable pub starts : List ℕ → List ℕ → List ℕ
starts trits H = map (λ i. length (grouped trits H (i - 1))) (marked_nodes trits H) ++ (length H ∷ [])

-- ---- sections 6 to 8: pairs, zeros then ones, before each multiple of `step`, counted from place `from p`

unfoldable pub pair : List ℕ → (ℕ → ℕ) → ℕ → List ℕ
pair trits from p = (rank 0 trits p - rank 0 trits (from p)) ∷ (rank 1 trits p - rank 1 trits (from p)) ∷ []

unfoldable pub pairs : ℕ → (ℕ → ℕ) → List ℕ → List ℕ
pairs step from trits = join (each (length trits / step + 1) (λ q. pair trits from (step * q)))

-- the last multiple of d at or before p
abbrev pub last_multiple : ℕ → ℕ → ℕ
last_multiple d p = d * (p / d)

-- ---- section 9: marks before each word

unfoldable pub mark_samples : List ℕ → List ℕ → List ℕ
mark_samples trits H = each (up (node_count trits) 64) (λ w. rank 1 (marks trits H) (64 * w))

-- ---- the image: nine sections, each after its count

-- a section: its count and its contents
pub record Section : Type 0 where
  pub entries : ℕ
  pub contents : List ℕ

unfoldable pub section1 : List ℕ → List ℕ → Section
section1 trits H = record { entries = length trits; contents = trytes trits }

unfoldable pub section2 : List ℕ → List ℕ → Section
section2 trits H = record { entries = length H; contents = bytes 2 H }

unfoldable pub section3 : List ℕ → List ℕ → Section
section3 trits H = record { entries = node_count trits; contents = bytes 8 (mark_words trits H) }

unfoldable pub section4 : List ℕ → List ℕ → Section
section4 trits H = record { entries = length (marked_nodes trits H) + 1; contents = bytes 4 (starts trits H) }

unfoldable pub section5 : List ℕ → List ℕ → Section
section5 trits H = record { entries = length H; contents = bytes 4 (grouped trits H (node_count trits)) }

unfoldable pub section6 : List ℕ → List ℕ → Section
section6 trits H = record { entries = length trits / 65725 + 1; contents = bytes 4 (pairs 65725 (λ p. 0) trits) }

unfoldable pub section7 : List ℕ → List ℕ → Section
section7 trits H = record { entries = length trits / 275 + 1; contents = bytes 2 (pairs 275 (last_multiple 65725) trits) }

unfoldable pub section8 : List ℕ → List ℕ → Section
section8 trits H = record { entries = length trits / 25 + 1; contents = bytes 1 (pairs 25 (last_multiple 275) trits) }

unfoldable pub section9 : List ℕ → List ℕ → Section
section9 trits H = record { entries = up (node_count trits) 64; contents = bytes 2 (mark_samples trits H) }

-- sections 3 to 9: what sections 1 and 2 give
unfoldable pub given : List ℕ → List ℕ → List Section
given trits H =
    section3 trits H ∷ section4 trits H ∷ section5 trits H ∷ section6 trits H ∷ section7 trits H ∷ section8 trits H ∷ section9 trits H ∷ []

abbrev pub written : List Section → List ℕ
written [] = []
written (s ∷ ss) = le_bytes 4 s.entries ++ (s.contents ++ written ss)

unfoldable pub image : List ℕ → List ℕ → List ℕ
image trits H = written (section1 trits H ∷ section2 trits H ∷ given trits H)

-- ---- what statements say of it

-- the sizes of the nine sections' contents, by L, n, k and h
abbrev pub sizes : ℕ → ℕ → ℕ → ℕ → List ℕ
sizes L n k h =
    up L 5
    ∷ 2 * k
    ∷ 8 * up n 64
    ∷ 4 * (h + 1)
    ∷ 4 * k
    ∷ 4 * (2 * (L / 65725 + 1))
    ∷ 2 * (2 * (L / 275 + 1))
    ∷ 2 * (L / 25 + 1)
    ∷ 2 * up n 64
    ∷ []

-- the bytes of the first k sections: a count of 4 bytes each, and contents, of which zs has the sizes
abbrev pub before : List ℕ → ℕ → ℕ
before zs zero = 0
before zs (suc k) = before zs k + 4 + get_or zs k 0

-- a section's contents, read by its width, are its entries
pub record ReadBack (trits H : List ℕ) : Type 0 where
  pub back2 : from_bytes 2 (section2 trits H).contents ≡ H
  pub back3 : from_bytes 8 (section3 trits H).contents ≡ mark_words trits H
  pub back4 : from_bytes 4 (section4 trits H).contents ≡ starts trits H
  pub back5 : from_bytes 4 (section5 trits H).contents ≡ grouped trits H (node_count trits)
  pub back6 : from_bytes 4 (section6 trits H).contents ≡ pairs 65725 (λ p. 0) trits
  pub back7 : from_bytes 2 (section7 trits H).contents ≡ pairs 275 (last_multiple 65725) trits
  pub back8 : from_bytes 1 (section8 trits H).contents ≡ pairs 25 (last_multiple 275) trits
  pub back9 : from_bytes 2 (section9 trits H).contents ≡ mark_samples trits H

-- section 3 counts the nodes, and each section's contents are as long as its count says
pub record SectionSizes (trits H : List ℕ) : Type 0 where
  pub count_3 : (section3 trits H).entries ≡ node_count trits
  pub size_1 : length (section1 trits H).contents ≡ up (section1 trits H).entries 5
  pub size_2 : length (section2 trits H).contents ≡ 2 * (section2 trits H).entries
  pub size_3 : length (section3 trits H).contents ≡ 8 * up (section3 trits H).entries 64
  pub size_4 : length (section4 trits H).contents ≡ 4 * (section4 trits H).entries
  pub size_5 : length (section5 trits H).contents ≡ 4 * (section5 trits H).entries
  pub size_6 : length (section6 trits H).contents ≡ 8 * (section6 trits H).entries
  pub size_7 : length (section7 trits H).contents ≡ 4 * (section7 trits H).entries
  pub size_8 : length (section8 trits H).contents ≡ 2 * (section8 trits H).entries
  pub size_9 : length (section9 trits H).contents ≡ 2 * (section9 trits H).entries
