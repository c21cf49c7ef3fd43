-- The outcomes, case by case, in the order in which code meets them; and the words of a table. Assumes nothing.
use Prim.Native.Nat.{ℕ, zero, suc, ◌+◌, ◌*◌, ◌≤◌, ◌<◌}
use native.Mathlib.Nat.{add-zero}
use native.Mathlib.Numerals.{one-add}
use native.Mathlib.Omega.{arith}
use mathlib.Core.Logic.{◌⊎◌, inl, inr}
use mathlib.Core.Path.{◌≡◌, refl, sym, ap, ap₂, ◌∙◌, subst}
use mathlib.Core.Bool.{Bool, true, false, ◌&&◌}
use mathlib.Core.List.{List, [], ◌∷◌}
use lib.Dec.{T, leb, lit<}
use lib.ListN.{length, length-append, drop, length-drop, replicate, length-replicate}
use borrow.Author.Tests.{le-leb, leb-true, lt-leb}
use Rattle.format.specs.Lists.{All, one_to, over, sum_of, numbered}
use Rattle.format.specs.Table.{Graph, nodes, edges, Node, counted, list_words, words, is_node, Read, faulty, graph, read_table, WellFormed, WithinLimits}
use Rattle.format.specs.Level.{level_order, reached}
use Rattle.format.specs.Image.{node_count}
use Rattle.format.specs.Faults.{fault, ◌then◌}
use Rattle.format.specs.Proper.{check_image, trits_of, shadows_of}
use Rattle.format.specs.Edges.{operand_edges, use_edges}
use Rattle.format.specs.Unpack.{unpack, unpack_settled, unpack_outcome}
use Rattle.format.specs.Question.{plain, within, operand_or33, user_or33, answer, operand_count, operand_answer, use_count, use_answer}
use Rattle.format.specs.Answers.{done, stops}
use Rattle.format.specs.Packing.{image_of, Accepted, PackOutcome, RoomEnough, cleared, pack_read, pack_outcome, pack_fault, pack_settled}
use Rattle.format.proofs.Laws.{both_true, true_both, run_snoc, last_false}
use Rattle.format.proofs.Places.{all_append, all_imp, sum_append}
use Rattle.format.proofs.Sizes.{total}
use Rattle.format.proofs.Order.{fits_length}
use Rattle.format.proofs.FaultLaws.{then_zero, fault_zero}
use Rattle.format.proofs.TableFaults.{read_code}

-- ---- packing

module _ (table order work buffer : List ℕ) where
  -- 1 to 6
  pub pack_faulty : (f : ℕ) → read_table table ≡ faulty f → pack_outcome table order work buffer ≡ record { returned = stops f; order = order; work = work; image = buffer }
  unfolding pack_outcome
  pack_faulty f e = ap (λ (r : Read). pack_read r order work buffer) e

  module _ (g : Graph) (e : read_table table ≡ graph g) where
    -- 7, 8, 9 or 0
    pub pack_settles : (f : ℕ) → pack_fault g order work buffer ≡ f → pack_outcome table order work buffer ≡ pack_settled f g order work buffer
    unfolding pack_outcome
    pack_settles f h = ap (λ (r : Read). pack_read r order work buffer) e ∙ ap (λ (x : ℕ). pack_settled x g order work buffer) h

    pub pack_7 : (length work < 3 * nodes g) ⊎ (length order < nodes g)
        → pack_outcome table order work buffer ≡ record { returned = stops 7; order = order; work = work; image = buffer }
    unfolding pack_fault
    pack_7 h = pack_settles 7 (ap (λ (t : Bool). fault 7 t then fault 8 (reached g) then fault 9 (leb (length (image_of g)) (length buffer))) (short h))
      where
        short : (length work < 3 * nodes g) ⊎ (length order < nodes g) → (leb (3 * nodes g) (length work) && leb (nodes g) (length order)) ≡ false
        short (inl l) = ap (λ (t : Bool). t && leb (nodes g) (length order)) (lt-leb (3 * nodes g) (length work) l)
        short (inr l) = last_false (leb (3 * nodes g) (length work)) (leb (nodes g) (length order)) (lt-leb (nodes g) (length order) l)

    module _ (w : 3 * nodes g ≤ length work) (o : nodes g ≤ length order) where
      roomy : (leb (3 * nodes g) (length work) && leb (nodes g) (length order)) ≡ true
      roomy = true_both (leb (3 * nodes g) (length work)) (leb (nodes g) (length order)) (le-leb (3 * nodes g) (length work) w) (le-leb (nodes g) (length order) o)

      pub pack_8 : reached g ≡ false → pack_outcome table order work buffer ≡ record { returned = stops 8; order = order; work = cleared g work; image = buffer }
      unfolding pack_fault
      pack_8 h = pack_settles 8 (simp (roomy, h))

      pub pack_9 : reached g ≡ true → length buffer < length (image_of g)
          → pack_outcome table order work buffer ≡ record { returned = stops 9; order = order; work = cleared g work; image = buffer }
      unfolding pack_fault
      pack_9 h l = pack_settles 9 (simp (roomy, h, lt-leb (length (image_of g)) (length buffer) l))

      pub pack_done : reached g ≡ true → length (image_of g) ≤ length buffer → pack_outcome table order work buffer
          ≡ record { returned = done (length (image_of g)); order = over (level_order g) order; work = cleared g work; image = over (image_of g) buffer }
      unfolding pack_fault
      pack_done h l = pack_settles 0 (simp (roomy, h, le-leb (length (image_of g)) (length buffer) l))

pub true_of : (b : Bool) → T b → b ≡ true
true_of true t = refl
true_of false t = absurd t

-- an accepted table and room enough
pub pack_accepted : (table order work buffer : List ℕ) (g : Graph) → Accepted table g → 3 * nodes g ≤ length work → nodes g ≤ length order
    → length (image_of g) ≤ length buffer → pack_outcome table order work buffer
    ≡ record { returned = done (length (image_of g)); order = over (level_order g) order; work = cleared g work; image = over (image_of g) buffer }
pack_accepted table order work buffer g a w o l = pack_done table order work buffer g a.read w o (true_of (reached g) a.reaches) l

-- ---- unpacking

module _ (image buffer : List ℕ) where
  abbrev table_of : List ℕ
  table_of = words (unpack (trits_of image) (shadows_of image))

  pub unpack_improper : (c : ℕ) → check_image image ≡ suc c → unpack_outcome image buffer ≡ record { returned = stops (suc c); table = buffer }
  unfolding unpack_outcome
  unpack_improper c e = ap (λ (x : ℕ). unpack_settled (x then fault 51 (leb (length table_of) (length buffer))) table_of buffer) e

  pub unpack_51 : check_image image ≡ 0 → length buffer < length table_of → unpack_outcome image buffer ≡ record { returned = stops 51; table = buffer }
  unfolding unpack_outcome
  unpack_51 e l =
      ap (λ (x : ℕ). unpack_settled (x then fault 51 (leb (length table_of) (length buffer))) table_of buffer) e
      ∙ ap (λ (b : Bool). unpack_settled (fault 51 b) table_of buffer) (lt-leb (length table_of) (length buffer) l)

  pub unpack_done : check_image image ≡ 0 → length table_of ≤ length buffer
      → unpack_outcome image buffer ≡ record { returned = done (length table_of); table = over table_of buffer }
  unfolding unpack_outcome
  unpack_done e l =
      ap (λ (x : ℕ). unpack_settled (x then fault 51 (leb (length table_of) (length buffer))) table_of buffer) e
      ∙ ap (λ (b : Bool). unpack_settled (fault 51 b) table_of buffer) (le-leb (length table_of) (length buffer) l)

  -- success: a proper image, and room for its table
  pub unpack_fits : (unpack_outcome image buffer).returned.code ≡ 0 → (check_image image ≡ 0) × (length table_of ≤ length buffer)
  unfolding unpack_outcome
  unpack_fits h =
      let f = leb (length table_of) (length buffer) in
      let z = then_zero (check_image image) (fault 51 f) (go (check_image image then fault 51 f) h) in
      (z.0, leb-true (length table_of) (length buffer) (fault_zero 51 f (lit< tt) z.1))
    where
      go : (x : ℕ) → (unpack_settled x table_of buffer).returned.code ≡ 0 → x ≡ 0
      go zero h = refl
      go (suc x) h = h

-- ---- the words of a table

pub length_runs : (os : List (List ℕ)) → length (list_words os) ≡ length os + sum_of length os
unfolding list_words sum_of
length_runs [] = refl
length_runs (xs ∷ os) = ap suc (length-append xs (list_words os)) ∙ omega (arith, length_runs os)

-- "The length is exactly 2 + n + m + c words."
pub length_words : (g : Graph) → length (words g) ≡ 2 + nodes g + edges g + length g.roots
unfolding words
length_words g = ap suc (length-append (list_words g.operands) (counted g.roots)) ∙ omega (arith, length_runs g.operands)

runs_fit : (n : ℕ) (os : List (List ℕ)) → n ≤ 30000 → sum_of length os ≤ 65535 → All (All (Node n)) os → All (λ w. w < 65536) (list_words os)
unfolding list_words sum_of
runs_fit n [] h m a = tt
runs_fit n (xs ∷ os) h m a =
    (omega arith, all_append (λ w. w < 65536) xs (list_words os) (all_imp (Node n) (λ w. w < 65536) xs (λ x b. omega arith) a.0) (runs_fit n os h (omega arith) a.1))

-- so each fits 16 bits
pub words_fit : (g : Graph) → WellFormed g → WithinLimits g → All (λ w. w < 65536) (words g)
unfolding words
words_fit g f l =
    let c : length g.roots ≤ nodes g = fits_length (nodes g) g.roots f.roots_nodup f.roots_inside in
    let n : nodes g ≤ 30000 = l.nodes_fit in (
      omega arith,
      all_append (λ w. w < 65536) (list_words g.operands) (counted g.roots) (runs_fit (nodes g) g.operands n l.edges_fit f.inside)
          (omega arith, all_imp (Node (nodes g)) (λ w. w < 65536) g.roots (λ x b. omega arith) f.roots_inside),
    )

-- ---- kinds 3 to 6, for a node

module _ (ts hs : List ℕ) (i : ℕ) (low : 1 ≤ i) (high : i ≤ node_count ts) where
  node_yes : is_node (node_count ts) i ≡ true
  node_yes = true_both (leb 1 i) (leb i (node_count ts)) (le-leb 1 i low) (le-leb i (node_count ts) high)

  pub kind_3 : answer ts hs 3 i 0 ≡ plain (length (operand_edges ts hs i))
  unfolding answer operand_count
  kind_3 = ap (λ (t : Bool). within 32 t (plain (length (operand_edges ts hs i)))) node_yes

  pub kind_4 : (b : ℕ) → answer ts hs 4 i b ≡ operand_or33 (numbered (operand_edges ts hs i) b)
  unfolding answer operand_answer
  kind_4 b = ap (λ (t : Bool). within 32 t (operand_or33 (numbered (operand_edges ts hs i) b))) node_yes

  pub kind_5 : answer ts hs 5 i 0 ≡ plain (length (use_edges ts hs i))
  unfolding answer use_count
  kind_5 = ap (λ (t : Bool). within 32 t (plain (length (use_edges ts hs i)))) node_yes

  pub kind_6 : (b : ℕ) → answer ts hs 6 i b ≡ user_or33 (numbered (use_edges ts hs i) b)
  unfolding answer use_answer
  kind_6 b = ap (λ (t : Bool). within 32 t (user_or33 (numbered (use_edges ts hs i) b))) node_yes

-- ---- sums over nodes 1 to n

pub sum_total : (f : ℕ → ℕ) (n : ℕ) → sum_of f (one_to n) ≡ total f n
unfolding sum_of
sum_total f zero = refl
sum_total f (suc n) =
    ap (sum_of f) (run_snoc 1 n) ∙ sum_append f (one_to n) ((1 + n) ∷ [])
    ∙ ap₂ (λ (x y : ℕ). x + y) (sum_total f n) (add-zero (f (1 + n)) ∙ ap f (one-add n))

pub sum_same : (f g : ℕ → ℕ) (xs : List ℕ) → All (λ x. f x ≡ g x) xs → sum_of f xs ≡ sum_of g xs
unfolding sum_of
sum_same f g [] a = refl
sum_same f g (x ∷ xs) a = ap₂ (λ (x y : ℕ). x + y) a.0 (sum_same f g xs a.1)

-- ---- success: the table is accepted, and there is room

pub T_of : (b : Bool) → b ≡ true → T b
T_of true e = tt
T_of false e = absurd (subst T (sym e) tt)

-- what holds of each case holds of the outcome
pub pack_cases : (table order work buffer : List ℕ) (P : PackOutcome → Type 0)
    → ((f : ℕ) → read_table table ≡ faulty f → 1 ≤ f → f ≤ 6 → P (record { returned = stops f; order = order; work = work; image = buffer }))
    → ((g : Graph) → read_table table ≡ graph g → P (record { returned = stops 7; order = order; work = work; image = buffer }))
    → ((g : Graph) → read_table table ≡ graph g → 3 * nodes g ≤ length work → P (record { returned = stops 8; order = order; work = cleared g work; image = buffer }))
    → ((g : Graph) → read_table table ≡ graph g → 3 * nodes g ≤ length work → P (record { returned = stops 9; order = order; work = cleared g work; image = buffer }))
    → ((r : RoomEnough table order work buffer)
    → P (record { returned = done (length (image_of r.of)); order = over (level_order r.of) order; work = cleared r.of work; image = over (image_of r.of) buffer }))
    → P (pack_outcome table order work buffer)
unfolding pack_outcome pack_fault
pack_cases table order work buffer P p1 p7 p8 p9 p0 = go (read_table table) refl
  where
    room_of : (g : Graph) → (leb (3 * nodes g) (length work) && leb (nodes g) (length order)) ≡ true → (3 * nodes g ≤ length work) × (nodes g ≤ length order)
    room_of g x =
        let r = both_true (leb (3 * nodes g) (length work)) (leb (nodes g) (length order)) x in
        (leb-true (3 * nodes g) (length work) r.0, leb-true (nodes g) (length order) r.1)

    sort : (g : Graph) → read_table table ≡ graph g → (b c d : Bool) → (leb (3 * nodes g) (length work) && leb (nodes g) (length order)) ≡ b → reached g ≡ c
        → leb (length (image_of g)) (length buffer) ≡ d → P (pack_settled (fault 7 b then fault 8 c then fault 9 d) g order work buffer)
    sort g e true true true x y z =
        p0 (record {
          of = g;
          is = record { read = e; reaches = T_of (reached g) y };
          work_room = (room_of g x).0;
          order_room = (room_of g x).1;
          image_room = leb-true (length (image_of g)) (length buffer) z;
        })
    sort g e true true false x y z = p9 g e (room_of g x).0
    sort g e true false d x y z = p8 g e (room_of g x).0
    sort g e false c d x y z = p7 g e

    go : (r : Read) → read_table table ≡ r → P (pack_read r order work buffer)
    go (faulty f) e = let c = read_code table f e in p1 f e c.0 c.1
    go (graph g) e = sort g e (leb (3 * nodes g) (length work) && leb (nodes g) (length order)) (reached g) (leb (length (image_of g)) (length buffer)) refl refl refl

pub pack_room : (table order work buffer : List ℕ) → (pack_outcome table order work buffer).returned.code ≡ 0 → RoomEnough table order work buffer
pack_room table order work buffer =
    pack_cases table order work buffer (λ o. o.returned.code ≡ 0 → RoomEnough table order work buffer)
    (λ f e l u h. absurd (omega arith)) (λ g e h. absurd (omega arith)) (λ g e w h. absurd (omega arith)) (λ g e w h. absurd (omega arith)) (λ r h. r)

-- ---- buffers keep their lengths

pub length_over : (xs buffer : List ℕ) → length xs ≤ length buffer → length (over xs buffer) ≡ length buffer
length_over xs buffer h = length-append xs (drop (length xs) buffer) ∙ omega (arith, length-drop (length xs) buffer)

pub length_cleared : (g : Graph) (work : List ℕ) → 3 * nodes g ≤ length work → length (cleared g work) ≡ length work
length_cleared g work h = length_over (replicate (3 * nodes g) 0) work (omega (arith, length-replicate {A = ℕ} (3 * nodes g) 0))
