-- What the checker's steps know and answer, section by section. Assumes nothing.
use Rattle.std.specs.Prelude.{ℕ, ◌+◌, ◌≤◌, ◌≡◌, List, ◌∷◌, eqb, length, drop, Result, Ok, Err}
use Rattle.std.specs.Borrow.{Bor}
use Rattle.format.specs.Faults.{fault, ◌then◌}
use Rattle.format.specs.Lists.{count_in, up}
use Rattle.format.specs.Trits.{untrytes}
use Rattle.format.specs.Image.{from_bytes, node_count, root_count, Section, given}
use Rattle.format.specs.Proper.{count_of, contents_of, rest_of, section_fault, size2, fault2, contents_fault1, check_given, check_image}
use Rattle.format.specs.Answers.{refusal_number}
use Rattle.format.specs.declared.Refusal.{Refusal}
use Rattle.trits.specs.declared.Layout.{Layout}
use Rattle.trits.specs.declared.image.Image.{Image}
use Rattle.trits.specs.Layout.{layout_of, laying}
use Rattle.proper.specs.Known.{Marked}

-- the image in the lent bytes b if it is proper, or the number of its first fault
abbrev pub Examined : Bor (List ℕ) → Result Image Refusal → Type 0
Examined b (Ok i) = (check_image b.now ≡ 0) × (i.bytes ≡ b) × (i.lay ≡ layout_of b.now)
Examined b (Err f) = check_image b.now ≡ refusal_number f

-- x is the checker's number, and lay the layout of a proper image
abbrev pub Examines : ℕ → Layout → Result Layout Refusal → Type 0
Examines x lay (Ok l) = (x ≡ 0) × (l ≡ lay)
Examines x lay (Err f) = x ≡ refusal_number f

-- the faults of a section before its contents are looked at: count missing, count wrong, contents missing
unfoldable pub opens : ℕ → ℕ → ℕ → List ℕ → ℕ
opens code entries size b = section_fault (fault code (eqb (count_of b) entries)) size 0 b

-- b has so many bytes of contents behind a count: these, and what follows them
pub record Cut (size : ℕ) (b part rest : List ℕ) : Type 0 where
  pub room : 4 + size ≤ length b
  pub part_is : part ≡ contents_of size b
  pub part_long : length part ≡ size
  pub rest_is : rest ≡ rest_of size b

-- b begins with a section of so many entries and bytes: its contents, and what follows them
pub record Opened (code entries size : ℕ) (b part rest : List ℕ) : Type 0 where
  pub front : 0 ≡ opens code entries size b
  pub cut : Cut size b part rest

-- b begins with section s, and rest follows it
abbrev pub SectionPasses : Section → List ℕ → List ℕ → Type 0
SectionPasses s b rest = (rest ≡ rest_of (length s.contents) b) × ((ss : List Section) → check_given ss rest ≡ check_given (s ∷ ss) b)

-- ---- sections 2 to 9, once section 1 has passed

-- b follows section 1: its shadows, and what the checker gives for it
unfoldable pub shadows2 : List ℕ → List ℕ → List ℕ
shadows2 trits b = from_bytes 2 (contents_of (size2 trits) b)

unfoldable pub check2 : List ℕ → List ℕ → ℕ
check2 trits b = fault2 trits b then check_given (given trits (shadows2 trits b)) (rest_of (size2 trits) b)

-- the sizes of trits: L, n, c and k
pub record Sized (trits : List ℕ) (l n c k : ℕ) : Type 0 where
  pub trits_are : length trits ≡ l
  pub nodes_are : node_count trits ≡ n
  pub roots_are : root_count trits ≡ c
  pub twos_are : count_in 2 trits ≡ k

-- section 1 has passed: its contents and its sizes, L, n, c and k
pub record FirstPassed (bs : List ℕ) (l n c k : ℕ) : Type 0 where
  pub some : 1 ≤ l
  pub few : l ≤ 125536
  pub full : length bs ≡ up l 5
  pub passed : contents_fault1 l bs ≡ 0
  pub sized : Sized (untrytes l bs) l n c k

-- section 3 has passed: its contents, and the layout of the image
pub record Counted (trits H marks : List ℕ) (lay : Layout) : Type 0 where
  pub marked : Marked trits H marks
  pub laid : lay ≡ laying trits H

-- what sections 1 and 2 give, without the first j of them
abbrev pub given_from : ℕ → List ℕ → List ℕ → List Section
given_from j trits H = drop j (given trits H)
