-- Document 01, "Batches of questions": one question and its answer, by the definitions of rank, select and the edges, and not by the
-- sections of an image. Assumes nothing.
use Rattle.std.specs.Prelude.{ℕ, ◌≤◌, ◌<◌, ◌≡◌, ◌⊎◌, Bool, true, false, List, [], ◌∷◌, eqb, leb, ltb, length, get_or}
use Rattle.std.proofs.Math.Option.{Option, none, some}
use Rattle.format.specs.Lists.{numbered, count_in}
use Rattle.format.specs.Table.{Node, is_node}
use Rattle.format.specs.Trits.{rank, select, Selected}
use Rattle.format.specs.Image.{node_count}
use Rattle.format.specs.Edges.{Edge, operand_edges, use_edges}

-- "An answer is three: code, value, sort."
pub record Reply : Type 0 where
  pub code : ℕ
  pub value : ℕ
  pub sort : ℕ

-- a refused question gives its code, 0, 0
abbrev pub refused : ℕ → Reply
refused c = record { code = c; value = 0; sort = 0 }

abbrev pub plain : ℕ → Reply
plain v = record { code = 0; value = v; sort = 0 }

-- the answer, unless a number lies outside
abbrev pub within : ℕ → Bool → Reply → Reply
within c true r = r
within c false r = refused c

-- 33 where there is no such place, no such edge
abbrev pub place_or33 : Option ℕ → Reply
place_or33 none = refused 33
place_or33 (some p) = plain p

abbrev pub operand_or33 : Option Edge → Reply
operand_or33 none = refused 33
operand_or33 (some e) = record { code = 0; value = e.operand; sort = e.sort }

abbrev pub user_or33 : Option Edge → Reply
user_or33 none = refused 33
user_or33 (some e) = record { code = 0; value = e.user; sort = e.sort }

-- one definition for each kind: a is looked at first (32), then b (33)
unfoldable pub trit_answer : List ℕ → ℕ → ℕ → Reply
trit_answer trits a b = within 32 (ltb a (length trits)) (within 33 (eqb b 0) (plain (get_or trits a 0)))

unfoldable pub rank_answer : List ℕ → ℕ → ℕ → Reply
rank_answer trits a b = within 32 (leb a 2) (within 33 (leb b (length trits)) (plain (rank a trits b)))

unfoldable pub select_answer : List ℕ → ℕ → ℕ → Reply
select_answer trits a b = within 32 (leb a 2) (place_or33 (select a trits b))

unfoldable pub operand_count : List ℕ → List ℕ → ℕ → ℕ → Reply
operand_count trits H a b = within 32 (is_node (node_count trits) a) (within 33 (eqb b 0) (plain (length (operand_edges trits H a))))

unfoldable pub operand_answer : List ℕ → List ℕ → ℕ → ℕ → Reply
operand_answer trits H a b = within 32 (is_node (node_count trits) a) (operand_or33 (numbered (operand_edges trits H a) b))

unfoldable pub use_count : List ℕ → List ℕ → ℕ → ℕ → Reply
use_count trits H a b = within 32 (is_node (node_count trits) a) (within 33 (eqb b 0) (plain (length (use_edges trits H a))))

unfoldable pub use_answer : List ℕ → List ℕ → ℕ → ℕ → Reply
use_answer trits H a b = within 32 (is_node (node_count trits) a) (user_or33 (numbered (use_edges trits H a) b))

-- the kind is looked at first (31): kinds 0 to 6, in order
unfoldable pub answer : List ℕ → List ℕ → ℕ → ℕ → ℕ → Reply
answer trits H kind a b =
    get_or
    (trit_answer trits a b
    ∷ rank_answer trits a b
    ∷ select_answer trits a b
    ∷ operand_count trits H a b
    ∷ operand_answer trits H a b
    ∷ use_count trits H a b
    ∷ use_answer trits H a b
    ∷ [])
    kind (refused 31)

-- ---- what statements say of it

-- an answer: code, value, sort
abbrev pub says : ℕ → ℕ → ℕ → Reply
says c v s = record { code = c; value = v; sort = s }

-- a number from 1 that a list of so many does not have
abbrev pub Beyond : ℕ → ℕ → Type 0
Beyond n b = (b ≡ 0) ⊎ (n < b)

-- What kinds 0 to 2 answer, and where 31, 32 and 33 are given, kind by kind (33 of kinds 4 and 6: Demands, operand_past and user_past).
pub record Kinds (trits H : List ℕ) : Type 0 where
  -- "The kind is looked at first, then a, then b"
  pub unknown : (k a b : ℕ) → 6 < k → answer trits H k a b ≡ says 31 0 0
  -- 0: "place below L", b is 0, "the trit"
  pub trit : (a : ℕ) → a < length trits → answer trits H 0 a 0 ≡ says 0 (get_or trits a 0) 0
  pub trit_32 : (a b : ℕ) → length trits ≤ a → answer trits H 0 a b ≡ says 32 0 0
  pub trit_33 : (a b : ℕ) → a < length trits → 0 < b → answer trits H 0 a b ≡ says 33 0 0
  -- 1: "trit 0 to 2", "place up to L", "rank before it"
  pub ranks : (a b : ℕ) → a ≤ 2 → b ≤ length trits → answer trits H 1 a b ≡ says 0 (rank a trits b) 0
  pub rank_32 : (a b : ℕ) → 2 < a → answer trits H 1 a b ≡ says 32 0 0
  pub rank_33 : (a b : ℕ) → a ≤ 2 → length trits < b → answer trits H 1 a b ≡ says 33 0 0
  -- 2: "number from 1", "its place by select"; "33 where the trit has no such occurrence"
  pub selects : (a b p : ℕ) → a ≤ 2 → Selected a trits b p → answer trits H 2 a b ≡ says 0 p 0
  pub select_32 : (a b : ℕ) → 2 < a → answer trits H 2 a b ≡ says 32 0 0
  pub select_33 : (a b : ℕ) → a ≤ 2 → Beyond (count_in a trits) b → answer trits H 2 a b ≡ says 33 0 0
  -- 3 to 6: a is a node; for 3 and 5 b is 0
  pub node_32 : (k a b : ℕ) → 3 ≤ k → k ≤ 6 → Beyond (node_count trits) a → answer trits H k a b ≡ says 32 0 0
  pub count_33 : (a b : ℕ) → Node (node_count trits) a → 0 < b → (answer trits H 3 a b ≡ says 33 0 0) × (answer trits H 5 a b ≡ says 33 0 0)
