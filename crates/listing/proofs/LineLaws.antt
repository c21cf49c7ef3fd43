-- The words of each line, as the functions write them. Assumes nothing.
use Prim.Native.Nat.{ℕ, zero, suc, ◌+◌, ◌-◌, ◌≤◌}
use native.Mathlib.Omega.{arith}
use mathlib.Core.Path.{◌≡◌, refl, sym, ap, ◌∙◌}
use mathlib.Core.Bool.{Bool, true, false}
use mathlib.Core.Option.{Option, some}
use mathlib.Core.List.{List, [], ◌∷◌, ◌++◌, map, append_assoc, append-nil}
use lib.ListN.{length, get_elem?}
use lib.Dec.{eqb}
use Rattle.format.specs.Lists.{run, one_to, join, numbered}
use Rattle.format.specs.Image.{node_count, edge_count}
use Rattle.format.specs.Proper.{trits_of, shadows_of}
use Rattle.format.specs.Edges.{Edge, operand_edges, use_edges}
use Rattle.format.specs.Question.{Reply, plain, operand_or33, user_or33, answer}
use Rattle.format.specs.Listing.{text, decimal, newline, operand_text, user_text, node_line, count_line, listing}
use Rattle.format.proofs.Laws.{count_three}
use Rattle.format.proofs.CheckLaws.{image_passed}
use Rattle.format.proofs.Sums.{edges_shadows}
use Rattle.format.proofs.Outcomes.{kind_3, kind_4, kind_5, kind_6}
use Rattle.trits.specs.declared.Layout.{Layout}
use Rattle.trits.specs.Layout.{Laid, layout_of}
use Rattle.listing.specs.Wrote.{Room, field, three}
use Rattle.listing.specs.Neighbours.{star, neighbour_text, neighbour_at, neighbours}
use Rattle.listing.proofs.TextLaws.{Left, begin, begin_two, parts_from, parts_all}

-- ---- a neighbour

pub begin_neighbour : (r : Reply) {v : ℕ} {words : List ℕ} {at : ℕ} → v ≡ r.value → Room words at (neighbour_text r)
    → Left words at (neighbour_text r) words at (field (text " ") v ∷ star r.sort ∷ [])
unfolding neighbour_text
begin_neighbour r {v} e room = begin (field (text " ") v ∷ star r.sort ∷ []) (rw (e, append-nil)) room

-- a star is left where the neighbour is a shadow, and else nothing
module _ {was : List ℕ} {at : ℕ} {whole now : List ℕ} {end : ℕ} (s : ℕ) {shadow : Bool} (e : shadow ≡ eqb s 2) (l : Left was at whole now end (star s ∷ [])) where
  pub shadow_left : shadow ≡ true → Left was at whole now end (text "*" ∷ [])
  shadow_left h = rw (sym e ∙ h) at l

  pub real_left : shadow ≡ false → Left was at whole now end []
  real_left h =
      let m : Left was at whole now end ([] ∷ []) = rw (sym e ∙ h) at l in
      record { done = m.done; is = m.is; room = m.room; wrote = m.wrote }

-- ---- the neighbours of a node

pub begin_neighbours : (image : List ℕ) (kind each i : ℕ) {count : ℕ} {words : List ℕ} {at : ℕ} → count ≡ (answer (trits_of image) (shadows_of image) kind i 0).value
    → Room words at (neighbours image kind each i) → Left words at (neighbours image kind each i) words at (parts_from (neighbour_at image each i) count 0)
unfolding neighbours
begin_neighbours image kind each i {count} e r = begin (parts_from (neighbour_at image each i) count 0) (rw (← e) (parts_all (neighbour_at image each i) count)) r

shift : {A : Type 0} (g : ℕ → A) (a n : ℕ) → map g (run (suc a) n) ≡ map (λ (j : ℕ). g (suc j)) (run a n)
shift g a zero = refl
shift {A} g a (suc n) = ap (λ (l : List A). g (suc a) ∷ l) (shift g (suc a) n)

each_element : {A : Type 0} (f : Option A → List ℕ) (es : List A) → map (λ (j : ℕ). f (get_elem? es j)) (run 0 (length es)) ≡ map (λ (e : A). f (some e)) es
each_element f [] = refl
each_element f (e ∷ es) = ap (λ (l : List (List ℕ)). f (some e) ∷ l) (shift (λ (j : ℕ). f (get_elem? (e ∷ es) j)) 0 (length es) ∙ each_element f es)

-- what the questions of two kinds say of a node's edges
neighbours_are : (image : List ℕ) (kind each i : ℕ) (es : List Edge) (or33 : Option Edge → Reply)
    → answer (trits_of image) (shadows_of image) kind i 0 ≡ plain (length es)
    → ((b : ℕ) → answer (trits_of image) (shadows_of image) each i b ≡ or33 (numbered es b))
    → neighbours image kind each i ≡ join (map (λ (e : Edge). neighbour_text (or33 (some e))) es)
unfolding neighbours
neighbours_are image kind each i es or33 e given =
    (λ t. join (map (λ (b : ℕ). neighbour_text (given b t)) (one_to (e t).value)))
    ∙ ap join (shift (λ (b : ℕ). neighbour_text (or33 (numbered es b))) 0 (length es) ∙ each_element (λ (o : Option Edge). neighbour_text (or33 o)) es)

module _ (image : List ℕ) (i : ℕ) (low : 1 ≤ i) (high : i ≤ node_count (trits_of image)) where
  abbrev ts : List ℕ
  ts = trits_of image

  abbrev hs : List ℕ
  hs = shadows_of image

  operands_are : neighbours image 3 4 i ≡ join (map operand_text (operand_edges ts hs i))
  unfolding neighbour_text operand_text
  operands_are = neighbours_are image 3 4 i (operand_edges ts hs i) operand_or33 (kind_3 ts hs i low high) (kind_4 ts hs i low high)

  users_are : neighbours image 5 6 i ≡ join (map user_text (use_edges ts hs i))
  unfolding neighbour_text user_text
  users_are = neighbours_are image 5 6 i (use_edges ts hs i) user_or33 (kind_5 ts hs i low high) (kind_6 ts hs i low high)

  -- the line of a node
  pub begin_node : {words : List ℕ} {at : ℕ} → Room words at (node_line ts hs i)
      → Left words at (node_line ts hs i) words at (decimal i ∷ (text ":" ++ neighbours image 3 4 i) ∷ (text " |" ++ neighbours image 5 6 i) ∷ newline ∷ [])
  unfolding node_line
  begin_node r = begin (decimal i ∷ (text ":" ++ neighbours image 3 4 i) ∷ (text " |" ++ neighbours image 5 6 i) ∷ newline ∷ []) (rw (operands_are, users_are)) r

-- ---- the lines of all nodes

pub nodes_are : (image : List ℕ) {lay : Layout} → lay ≡ layout_of image → lay.nodes ≡ node_count (trits_of image)
unfolding layout_of
nodes_are image e = ap (λ (x : Layout). x.nodes) e

pub begin_nodes : (image : List ℕ) {lay : Layout} {words : List ℕ} {at : ℕ} → lay ≡ layout_of image → let line = node_line (trits_of image) (shadows_of image) in
    let all = join (map line (one_to (node_count (trits_of image)))) in
    Room words at all → Left words at all words at (parts_from line lay.nodes 0)
begin_nodes image {lay} e r =
    let line = node_line (trits_of image) (shadows_of image) in
    begin (parts_from line lay.nodes 0) (rw (← nodes_are image e) (parts_all line lay.nodes)) r

-- ---- the counts

by_three : (a x b y c z d u e v f w g : List ℕ)
    → join (a ∷ x ∷ b ∷ y ∷ c ∷ z ∷ d ∷ u ∷ e ∷ v ∷ f ∷ w ∷ g ∷ [])
    ≡ join (join ((a ++ x) ∷ (b ++ y) ∷ (c ++ z) ∷ []) ∷ join ((d ++ u) ∷ (e ++ v) ∷ (f ++ w) ∷ []) ∷ g ∷ [])
by_three a x b y c z d u e v f w g = simp (append_assoc, append-nil)

module _ {image : List ℕ} {lay : Layout} (l : Laid image lay) where
  pub counts_small : lay.nodes + lay.shadows ≤ 125536
  unfolding layout_of node_count
  counts_small =
      let p = (image_passed image l.whole.bytes l.whole.passes).proper in
      omega (
        arith,
        count_three (trits_of image) p.threes,
        p.length_high,
        p.paired,
        ap (λ (x : Layout). x.nodes) l.is,
        ap (λ (x : Layout). x.shadows) l.is,
      )

  pub edges_are : edge_count (trits_of image) + lay.roots ≡ lay.nodes + lay.shadows
  unfolding layout_of
  edges_are =
      omega (
        arith,
        edges_shadows (trits_of image) (shadows_of image) (image_passed image l.whole.bytes l.whole.passes).proper,
        ap (λ (x : Layout). x.nodes) l.is,
        ap (λ (x : Layout). x.shadows) l.is,
        ap (λ (x : Layout). x.roots) l.is,
      )

  pub begin_counts : {edges bytes : ℕ} {words : List ℕ} {at : ℕ} → edges ≡ lay.nodes + lay.shadows - lay.roots → bytes ≡ length image
      → Room words at (count_line (trits_of image) (shadows_of image)) → Left words at (count_line (trits_of image) (shadows_of image)) words at (
      three (text "nodes ") lay.nodes (text " edges ") edges (text " roots ") lay.roots
      ∷ three (text " trits ") lay.trits (text " shadows ") lay.shadows (text " bytes ") bytes
      ∷ newline ∷ [])
  unfolding count_line layout_of
  begin_counts {edges} {bytes} e b r =
      let q = sym l.is in
      let m : edge_count (trits_of image) ≡ edges = omega (arith, edges_are) in
      let p = ap length (sym (image_passed image l.whole.bytes l.whole.passes).same) ∙ sym b in
      begin _ ((λ t. join (
      text "nodes " ∷ decimal (q t).nodes
      ∷ text " edges " ∷ decimal (m t)
      ∷ text " roots " ∷ decimal (q t).roots
      ∷ text " trits " ∷ decimal (q t).trits
      ∷ text " shadows " ∷ decimal (q t).shadows
      ∷ text " bytes " ∷ decimal (p t)
      ∷ newline ∷ []))
      ∙ by_three (text "nodes ") (decimal lay.nodes) (text " edges ") (decimal edges) (text " roots ") (decimal lay.roots)
      (text " trits ") (decimal lay.trits) (text " shadows ") (decimal lay.shadows) (text " bytes ") (decimal bytes) newline) r

-- ---- the listing

pub begin_listing : (trits H : List ℕ) {words : List ℕ} {at : ℕ} → Room words at (listing trits H)
    → Left words at (listing trits H) words at (count_line trits H ∷ join (map (node_line trits H) (one_to (node_count trits))) ∷ [])
unfolding listing
begin_listing trits H r = begin_two (count_line trits H) (join (map (node_line trits H) (one_to (node_count trits)))) r
