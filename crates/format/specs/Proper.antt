-- Document 01, "The image" (a proper image) and "Refusal numbers and their order" (21 to 26). Assumes nothing.
use Rattle.std.specs.Prelude.{ℕ, ◌+◌, ◌-◌, ◌*◌, ◌≤◌, ◌<◌, ◌≡◌, ◌⊎◌, Bool, true, ◌&&◌, List, [], ◌∷◌, eqb, leb, length, get_or, take, drop}
use Rattle.std.proofs.Math.Option.{Option, none, some}
use Rattle.format.specs.Lists.{one_to, every, same, count_in, up, spread, Below}
use Rattle.format.specs.Faults.{fault, ◌then◌}
use Rattle.format.specs.Table.{is_node}
use Rattle.format.specs.Trits.{rank, select, places, untrytes}
use Rattle.format.specs.Image.{le_number, from_bytes, node_count, edge_count, until_zero, shadow_at, Section, given}

-- ---- the rules of a proper image, one by one

-- no byte above 242
unfoldable pub bytes_low : List ℕ → Bool
bytes_low bs = every (λ x. leb x 242) bs

-- zero padding: the trits of the bytes past the first L are 0
unfoldable pub padded : ℕ → List ℕ → Bool
padded L bs = every (eqb 0) (drop L (spread 3 5 bs))

-- no 2 stands before the first zero
unfoldable pub roots_first : List ℕ → Bool
roots_first trits = eqb (count_in 2 (until_zero trits)) 0

-- the ones are one fewer than the zeros and the last trit is 0
unfoldable pub balanced : List ℕ → Bool
balanced trits = eqb (count_in 1 trits + 1) (count_in 0 trits) && eqb (get_or trits (length trits - 1) 3) 0

-- the ones before a place that select gave
abbrev pub ones_before : List ℕ → Option ℕ → ℕ
ones_before trits none = 0
ones_before trits (some p) = rank 1 trits p

-- for each i up to the number of ones, at least i ones precede the i-th zero
unfoldable pub grown : List ℕ → Bool
grown trits = every (λ i. leb i (ones_before trits (select 0 trits i))) (one_to (count_in 1 trits))

-- n and m are within limits
unfoldable pub limits : List ℕ → Bool
limits trits = leb (node_count trits) 30000 && leb (edge_count trits) 65535

-- each entry of H is at least 1 and at most the number of ones before that 2
unfoldable pub shadows_seen : List ℕ → List ℕ → Bool
shadows_seen trits H = every (λ p. is_node (rank 1 trits p) (shadow_at trits H p)) (places 2 trits)

-- ---- the checker

-- the count at the front of b; the contents after it, of so many bytes; and what follows these
abbrev pub count_of : List ℕ → ℕ
count_of b = le_number (take 4 b)

abbrev pub contents_of : ℕ → List ℕ → List ℕ
contents_of size b = take size (drop 4 b)

abbrev pub rest_of : ℕ → List ℕ → List ℕ
rest_of size b = drop size (drop 4 b)

-- one section at the front of b: count missing (21), count wrong, contents missing (21), contents wrong
unfoldable pub section_fault : ℕ → ℕ → ℕ → List ℕ → ℕ
section_fault count_fault size contents_fault b =
    fault 21 (leb 4 (length b)) then count_fault then fault 21 (leb size (length (drop 4 b))) then contents_fault

-- the trits of an image, and what follows section 1
abbrev pub size1 : List ℕ → ℕ
size1 b = up (count_of b) 5

unfoldable pub trits_of : List ℕ → List ℕ
trits_of b = untrytes (count_of b) (contents_of (size1 b) b)

abbrev pub after1 : List ℕ → List ℕ
after1 b = rest_of (size1 b) b

-- section 1: L too large (22) or 0 (23); its own rules (23); n and m are held to 22 after them
unfoldable pub contents_fault1 : ℕ → List ℕ → ℕ
contents_fault1 L bs =
    let trits : List ℕ = untrytes L bs in
    fault 23 (bytes_low bs) then fault 23 (padded L bs) then fault 23 (roots_first trits) then fault 23 (balanced trits) then fault 23 (grown trits)
    then fault 22 (limits trits)

unfoldable pub fault1 : List ℕ → ℕ
fault1 b = section_fault (fault 22 (leb (count_of b) 125536) then fault 23 (leb 1 (count_of b))) (size1 b) (contents_fault1 (count_of b) (contents_of (size1 b) b)) b

-- section 2: one entry per 2, each of them seen before (24)
abbrev pub size2 : List ℕ → ℕ
size2 trits = 2 * count_in 2 trits

unfoldable pub fault2 : List ℕ → List ℕ → ℕ
fault2 trits b =
    section_fault (fault 24 (eqb (count_of b) (count_in 2 trits))) (size2 trits) (fault 24 (shadows_seen trits (from_bytes 2 (contents_of (size2 trits) b)))) b

-- the shadows of an image, and what follows section 2
unfoldable pub shadows_of : List ℕ → List ℕ
shadows_of b = from_bytes 2 (contents_of (size2 (trits_of b)) (after1 b))

unfoldable pub after2 : List ℕ → List ℕ
after2 b = rest_of (size2 (trits_of b)) (after1 b)

-- sections 3 to 9 are what sections 1 and 2 give (25); nothing follows (26)
unfoldable pub given_fault : Section → List ℕ → ℕ
given_fault s b =
    let size : ℕ = length s.contents in
    section_fault (fault 25 (eqb (count_of b) s.entries)) size (fault 25 (same (contents_of size b) s.contents)) b

unfoldable pub check_given : List Section → List ℕ → ℕ
check_given [] b = fault 26 (eqb (length b) 0)
check_given (s ∷ ss) b = given_fault s b then check_given ss (rest_of (length s.contents) b)

-- "The image checker goes section by section"; a proper image gives 0
unfoldable pub check_image : List ℕ → ℕ
check_image b = fault1 b then fault2 (trits_of b) (after1 b) then check_given (given (trits_of b) (shadows_of b)) (after2 b)

-- bytes that the checker accepts
pub record Whole (b : List ℕ) : Type 0 where
  pub bytes : Below 256 b
  pub passes : check_image b ≡ 0

-- ---- what trits and shadows have to keep: the rules of sections 1 and 2

pub record ProperTrits (trits H : List ℕ) : Type 0 where
  pub threes : Below 3 trits
  pub length_low : 1 ≤ length trits
  pub length_high : length trits ≤ 125536
  pub roots_are_first : roots_first trits ≡ true
  pub is_balanced : balanced trits ≡ true
  pub is_grown : grown trits ≡ true
  pub in_limits : limits trits ≡ true
  pub paired : length H ≡ count_in 2 trits
  pub seen : shadows_seen trits H ≡ true

-- what the checker can give: 0, or 21 to 26
abbrev pub ImageCode : ℕ → Type 0
ImageCode x = (x ≡ 0) ⊎ ((21 ≤ x) × (x ≤ 26))

-- the rules of section 1's contents
pub record OwnRules (L : ℕ) (bs : List ℕ) : Type 0 where
  pub is_low : bytes_low bs ≡ true
  pub is_padded : padded L bs ≡ true
  pub roots_are_first : roots_first (untrytes L bs) ≡ true
  pub is_balanced : balanced (untrytes L bs) ≡ true
  pub is_grown : grown (untrytes L bs) ≡ true

-- "n and m are held to 22 after section 1's own rules"
pub record Contents1Gives (L : ℕ) (bs : List ℕ) : Type 0 where
  pub rule_broken : (OwnRules L bs → ⊥) → contents_fault1 L bs ≡ 23
  pub limit_passed : OwnRules L bs → (limits (untrytes L bs) ≡ true → ⊥) → contents_fault1 L bs ≡ 22

-- what one section at the front of b gives: its count is missing, wrong, or right; its contents are missing, or there
pub record SectionGives (given : ℕ) (b : List ℕ) (RightCount : Type 0) (wrong_count size contents : ℕ) : Type 0 where
  pub count_missing : length b < 4 → given ≡ 21
  pub count_wrong : 4 ≤ length b → (RightCount → ⊥) → given ≡ wrong_count
  pub contents_missing : 4 ≤ length b → RightCount → length (drop 4 b) < size → given ≡ 21
  pub contents_there : 4 ≤ length b → RightCount → size ≤ length (drop 4 b) → given ≡ contents

-- what the checker gives: the first fault of the sections, else 26 where bytes are left
pub record CheckerGives (b : List ℕ) : Type 0 where
  pub first : 0 < fault1 b → check_image b ≡ fault1 b
  pub second : fault1 b ≡ 0 → 0 < fault2 (trits_of b) (after1 b) → check_image b ≡ fault2 (trits_of b) (after1 b)
  pub others : fault1 b ≡ 0 → fault2 (trits_of b) (after1 b) ≡ 0 → check_image b ≡ check_given (given (trits_of b) (shadows_of b)) (after2 b)
  -- "for section 1: 22 if too large, 23 if 0"
  pub too_large : 4 ≤ length b → 125536 < count_of b → fault1 b ≡ 22
  pub section_1 : count_of b ≤ 125536 → SectionGives (fault1 b) b (1 ≤ count_of b) 23 (size1 b) (contents_fault1 (count_of b) (contents_of (size1 b) b))
  pub contents_1 : Contents1Gives (count_of b) (contents_of (size1 b) b)
  pub section_2 : (trits : List ℕ)
      → SectionGives (fault2 trits b) b (count_of b ≡ count_in 2 trits) 24 (size2 trits) (fault 24 (shadows_seen trits (from_bytes 2 (contents_of (size2 trits) b))))
  pub sections_3_9 : (s : Section) → let size = length s.contents in
      SectionGives (given_fault s b) b (count_of b ≡ s.entries) 25 size (fault 25 (same (contents_of size b) s.contents))
  pub one_by_one : (s : Section) (ss : List Section) → check_given (s ∷ ss) b ≡ (given_fault s b then check_given ss (rest_of (length s.contents) b))
  pub left_over : (length b ≡ 0 → ⊥) → check_given [] b ≡ 26
