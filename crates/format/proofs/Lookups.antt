-- What the index sections answer is what the plain definitions say: operands between two zeros, uses by the marks. Assumes nothing.
use Prim.Native.Nat.{ℕ, zero, suc, ◌+◌, ◌-◌, ◌≤◌, ◌<◌, zero-le, suc-le-suc}
use native.Mathlib.Nat.{suc-add, add-suc, le_of_suc-le-suc, not-suc-le-zero}
use native.Mathlib.Omega.{arith}
use mathlib.Core.Path.{◌≡◌, refl, sym, ap, ap₂, ◌∙◌}
use mathlib.Core.Bool.{Bool}
use mathlib.Core.Option.{Option, none, some}
use mathlib.Core.List.{List, [], ◌∷◌, ◌++◌, map}
use lib.Dec.{ltb}
use lib.ListN.{length, get_or, drop, get_elem?, length-append}
use lib.Seq.{get_or-append-add, get_or-take, get_or-drop}
use borrow.Author.Tests.{lt-ltb}
use Rattle.format.specs.Trits.{nth}
use Rattle.format.specs.Lists.{bit, run, cons_if, count_in, numbered}
use Rattle.format.specs.Image.{node_count, root_count, group, grouped}
use Rattle.format.specs.Proper.{ProperTrits}
use Rattle.format.specs.Edges.{Edge, edge_at, operand_edges, use_edges}
use Rattle.format.proofs.Laws.{length_run, get_or_run, length_cons_if}
use Rattle.format.proofs.Select.{get_elem_none}
use Rattle.format.proofs.Sizes.{length_group}
use Rattle.format.proofs.ProperLaws.{operands_places, uses_places, operand_count_lem, use_count_lem}
use Rattle.format.proofs.Marks.{group_at}

-- ---- operands

get_elem_map : (f : ℕ → Edge) (xs : List ℕ) (j : ℕ) → j < length xs → get_elem? (map f xs) j ≡ some (f (get_or xs j 0))
get_elem_map f [] j h = absurd (not-suc-le-zero h)
get_elem_map f (x ∷ xs) zero h = refl
get_elem_map f (x ∷ xs) (suc j) h = get_elem_map f xs j (le_of_suc-le-suc h)

-- operand number b of node i stands b places after its zero
pub operand_at_lem : (trits H : List ℕ) → ProperTrits trits H → (i b : ℕ) → 1 ≤ i → i ≤ node_count trits → 1 ≤ b → b < nth 0 trits (suc i) - nth 0 trits i
    → numbered (operand_edges trits H i) b ≡ some (edge_at trits H (nth 0 trits i + b))
operand_at_lem trits H p i zero hi li hb lb = absurd (not-suc-le-zero hb)
operand_at_lem trits H p i (suc b) hi li hb lb =
    let z : ℕ = nth 0 trits i in
    let c : ℕ = nth 0 trits (suc i) - suc z in
    ap (λ (es : List Edge). get_elem? es b) (operands_places trits H p i hi li)
    ∙ get_elem_map (edge_at trits H) (run (suc z) c) b (omega (arith, length_run (suc z) c))
    ∙ ap {B = Option Edge} (λ k. some (edge_at trits H k)) (get_or_run (suc z) c b 0 (omega arith) ∙ suc-add z b ∙ sym (add-suc z b))

pub operand_none : (trits H : List ℕ) → ProperTrits trits H → (i b : ℕ) → 1 ≤ i → i ≤ node_count trits → nth 0 trits (suc i) - nth 0 trits i ≤ b
    → numbered (operand_edges trits H i) b ≡ none
operand_none trits H p i zero hi li lb = refl
operand_none trits H p i (suc b) hi li lb = get_elem_none (operand_edges trits H i) b (omega (arith, operand_count_lem trits H p i hi li))

-- ---- uses

-- the real one comes first: node i's own 1, where i is no root
pub use_real : (trits H : List ℕ) → ProperTrits trits H → (i : ℕ) → root_count trits < i → i ≤ node_count trits
    → numbered (use_edges trits H i) 1 ≡ some (edge_at trits H (nth 1 trits i))
use_real trits H p i hi li =
    ap (λ (es : List Edge). get_elem? es 0) (uses_places trits H p i (omega arith) li
    ∙ ap (λ (b : Bool). map (edge_at trits H) (cons_if b (nth 1 trits i) [] ++ group trits H i)) (lt-ltb (root_count trits) i hi))

-- then the shadows: entry j of the group, which stands in section 5 from the node's start on
pub use_shadow : (trits H : List ℕ) → ProperTrits trits H → (i j : ℕ) → i < node_count trits → j < count_in (suc i) H
    → numbered (use_edges trits H (suc i)) (suc (bit (ltb (root_count trits) (suc i)) + j))
    ≡ some (edge_at trits H (get_or (grouped trits H (node_count trits)) (length (grouped trits H i) + j) 0))
use_shadow trits H p i j li lj =
    let real : List ℕ = cons_if (ltb (root_count trits) (suc i)) (nth 1 trits (suc i)) [] in
    let G : List ℕ = group trits H (suc i) in
    let len : length real ≡ bit (ltb (root_count trits) (suc i)) = length_cons_if (ltb (root_count trits) (suc i)) (nth 1 trits (suc i)) in
    let lenG : length G ≡ count_in (suc i) H = length_group trits H p.paired (suc i) in
    let all : List ℕ = grouped trits H (node_count trits) in
    ap₂ (λ (es : List Edge) (x : ℕ). get_elem? es (x + j)) (uses_places trits H p (suc i) (suc-le-suc zero-le) li) (sym len)
    ∙ get_elem_map (edge_at trits H) (real ++ G) (length real + j) (omega (arith, length-append real G))
    ∙ ap {B = Option Edge} (λ x. some (edge_at trits H x))
    (get_or-append-add real G j 0
    ∙ ap (λ (l : List ℕ). get_or l j 0) (sym (group_at trits H (node_count trits) i li))
    ∙ get_or-take (length G) (drop (length (grouped trits H i)) all) j 0 (omega arith)
    ∙ get_or-drop (length (grouped trits H i)) all j 0)

pub use_none : (trits H : List ℕ) → ProperTrits trits H → (i b : ℕ) → 1 ≤ i → i ≤ node_count trits → bit (ltb (root_count trits) i) + count_in i H < b
    → numbered (use_edges trits H i) b ≡ none
use_none trits H p i zero hi li lb = refl
use_none trits H p i (suc b) hi li lb = get_elem_none (use_edges trits H i) b (omega (arith, use_count_lem trits H p i hi li))
