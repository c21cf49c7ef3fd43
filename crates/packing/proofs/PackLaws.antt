-- From what these functions ensure to what packing says of a table and of the buffers. Assumes nothing.
use Rattle.std.specs.Prelude.{Result, Ok, Err}
use mathlib.Core.Path.{◌≡◌, refl, sym, ap, ◌∙◌, subst}
use mathlib.Core.Logic.{◌⊎◌, inl, inr}
use mathlib.Core.Bool.{true}
use mathlib.Core.List.{List, ◌++◌}
use Prim.Native.Nat.{ℕ, ◌+◌, ◌-◌, ◌*◌, ◌/◌, ◌≤◌, ◌<◌, zero-le}
use native.Mathlib.Omega.{arith}
use lib.Dec.{T}
use lib.ListN.{length, get_or, drop, replicate, length-drop, length-replicate}
use lib.Seq.{ext_get_or, get_or-drop, take_all}
use borrow.Author.Tests.{eq-eqb, ne_eqb}
use Rattle.format.specs.Lists.{over, one_to, count_in}
use Rattle.format.specs.Table.{Graph, nodes, edges, Read, faulty, graph, read_table}
use Rattle.format.specs.Level.{walk, level_order, reached}
use Rattle.format.specs.Image.{node_count, marked, marked_nodes}
use Rattle.format.specs.Packing.{image_of, cleared, pack_outcome, pack_leaves}
use Rattle.format.specs.declared.Refusal.{Refusal}
use Rattle.format.specs.declared.Refusal.TheVariants.{WorkTooShort, NodeUnreached, ImageTooShort}
use Rattle.format.proofs.Laws.{length_run, length_keep}
use Rattle.format.proofs.Order.{Packable, counts, fits_length}
use Rattle.format.proofs.Sizes.{image_length, length_image}
use Rattle.format.proofs.CheckLaws.{shadow_nodes}
use Rattle.format.proofs.Accepting.{proper_table}
use Rattle.format.proofs.Outcomes.{length_runs, pack_7, pack_8, pack_9, pack_done}
use Rattle.samples.specs.Places.{group_ends}
use Rattle.samples.proofs.PlaceLaws.{length_ends}
use Rattle.trits.specs.declared.Layout.{Layout}
use Rattle.trits.specs.Layout.{layout}
use Rattle.packing.specs.declared.table.Sizes.{Sizes}
use Rattle.packing.specs.Sizes.{sizes_of}
use Rattle.packing.specs.Work.{graph_or, graph_of, Sized, start_of, Kept, WorkAt}
use Rattle.packing.specs.Walked.{Walked}
use Rattle.packing.specs.Packed.{graph_layout, Planned, Measured, Ordered, Uncleared}
use Rattle.format.proofs.Over.{over_all, over_behind}
use Rattle.packing.proofs.RunLaws.{formed, limits}

-- ---- a table

-- a table with a fault
pub refused : (t : List ℕ) (f : ℕ) → inr f ≡ sizes_of (read_table t) → read_table t ≡ faulty f
refused t f e = go (read_table t) e
  where
    go : (r : Read) → inr f ≡ sizes_of r → r ≡ faulty f
    go (faulty x) e = cc
    go (graph g) e = absurd (let z : ◌≡◌ {A = ℕ} 0 1 = cc in omega arith)

-- a table whose sizes were read
pub scanned : {t : List ℕ} {z : Sizes} → inl z ≡ sizes_of (read_table t) → Measured t z
unfolding graph_of
scanned {t} {z} e = go (read_table t) refl e
  where
    go : (r : Read) → read_table t ≡ r → inl z ≡ sizes_of r → Measured t z
    go (faulty f) q e = absurd (let z : ◌≡◌ {A = ℕ} 0 1 = cc in omega arith)
    go (graph g) q e =
        let is : graph_or (read_table t) ≡ g = ap graph_or q in
        let p : z ≡ record { nodes = nodes g; edges = edges g; roots = length g.roots } = cc in
        record { sized = record { read = q ∙ ap graph (sym is); many = rw is (λ i. (sym p i).nodes) }; edges_are = rw is (λ i. (p i).edges); roots_are = rw is (λ i. (p i).roots) }

-- the count of roots stands after n, n counts and m operands
pub roots_at : {t : List ℕ} {n : ℕ} → Sized t n → start_of (graph_of t) n ≡ 1 + n + edges (graph_of t)
unfolding start_of
roots_at {t} {n} s = let os = (graph_of t).operands in rw (take_all n os (omega (arith, s.many))) (omega (arith, length_runs os, s.many))

-- a buffer that changed only in its first b words, cleared
cleared_same : (b : ℕ) (l l' : List ℕ) → length l' ≡ length l → Kept 0 b l l' → over (replicate b 0) l' ≡ over (replicate b 0) l
cleared_same b l l' e k =
    rw (length-replicate {A = ℕ} b 0)
    (ap (λ (x : List ℕ). replicate b 0 ++ x)
    (ext_get_or 0 (drop b l') (drop b l) (omega (arith, length-drop b l, length-drop b l'))
    (λ i h. get_or-drop b l' i 0 ∙ k (b + i) (λ y z. omega arith) ∙ sym (get_or-drop b l i 0))))

-- ---- what packing leaves: first with work as the walk or `put_image` left it, then with work cleared

module _ {t : List ℕ} {z : Sizes} (s : Measured t z) where
  pub outcome_7 : (order work image : List ℕ) → (length work < 3 * z.nodes) ⊎ (length order < z.nodes) → pack_outcome t order work image ≡ pack_leaves (Err WorkTooShort) order work image
  outcome_7 order work image h = pack_7 t order work image (graph_of t) s.sized.read (rw s.sized.many h)

  clears : (old work : List ℕ) → length work ≡ length old → Kept 0 (3 * z.nodes) old work → cleared (graph_of t) old ≡ over (replicate (3 * z.nodes) 0) work
  clears old work e k = rw s.sized.many (sym (cleared_same (3 * z.nodes) old work e k))

  pub uncleared_8 : {tail : ℕ} {order work image : List ℕ} → WorkAt t z.nodes (walk (graph_of t)) tail work → tail < z.nodes → z.nodes ≤ length order
      → Uncleared t z.nodes order work image (Err NodeUnreached) order work image
  unfolding reached level_order
  uncleared_8 {order = order} {work = work} {image = image} w l o = record {
    outcome = λ old e k.
        let many = s.sized.many in
        pack_8 t order old image (graph_of t) s.sized.read (omega (arith, w.held.room)) (omega arith)
        (ne_eqb (length (walk (graph_of t)).queue) (nodes (graph_of t)) (λ q. omega (arith, w.held.tail_is)))
        ∙ ap (λ (x : List ℕ). pack_leaves (Err NodeUnreached) order x image) (clears old work e k);
  }

pub now_cleared : {t : List ℕ} {n : ℕ} {order work image : List ℕ} {r : Result ℕ Refusal} {order' work' image' x : List ℕ} → Uncleared t n order work image r order' work' image'
    → (old : List ℕ) → length work ≡ length old → Kept 0 (3 * n) old work → x ≡ over (replicate (3 * n) 0) work'
    → pack_outcome t order old image ≡ pack_leaves r order' x image'
now_cleared {r = r} {order' = order'} {image' = image'} u old e k q = u.outcome old e k ∙ ap (λ (y : List ℕ). pack_leaves r order' y image') (sym q)

-- ---- the walk has reached every node

pub all_walked : {t : List ℕ} {n tail : ℕ} {work : List ℕ} → WorkAt t n (walk (graph_of t)) tail work → n ≤ tail → Walked t n work
all_walked {t} {n} {work = work} w h = subst (λ (k : ℕ). WorkAt t n (walk (graph_of t)) k work) (omega (arith, w.held.fits)) w

-- n, m and c are small, and count the trits, the shadows and the ones
pub record Totals (t : List ℕ) (n m c : ℕ) : Type 0 where
  pub nodes_few : n ≤ 30000
  pub edges_few : m ≤ 65535
  pub roots_few : c ≤ n
  pub trits : n + (m + c) + 1 ≡ length (walk (graph_of t)).trits
  pub shadows : m + c ≡ length (walk (graph_of t)).shadows + n
  pub ones : node_count (walk (graph_of t)).trits ≡ n
  pub marked_few : length (marked_nodes (walk (graph_of t)).trits (walk (graph_of t)).shadows) ≤ n

module _ {t order work : List ℕ} {z : Sizes} (o : Ordered t order work z) where
  abbrev n : ℕ
  n = z.nodes

  abbrev m : ℕ
  m = z.edges

  abbrev c : ℕ
  c = z.roots

  abbrev g : Graph
  g = graph_of t

  abbrev s : Measured t z
  s = o.measured

  packs : Packable g
  unfolding level_order
  packs = record { formed = formed s.sized; all_reached = sym o.walked.held.tail_is ∙ sym s.sized.many }

  reaches : reached g ≡ true
  unfolding reached
  reaches = eq-eqb (length (level_order g)) (nodes g) packs.all_reached

  pub totals : Totals t n m c
  unfolding node_count marked_nodes
  totals =
      let k = counts g packs in
      let f = formed s.sized in
      let l = limits s.sized in
      let many = s.sized.many in
      let ones : count_in 1 (walk g).trits ≡ n = k.ones ∙ many in
      record {
        nodes_few = omega (arith, l.nodes_fit);
        edges_few = omega (arith, l.edges_fit, s.edges_are);
        roots_few = omega (arith, fits_length (nodes g) g.roots f.roots_nodup f.roots_inside, s.roots_are);
        trits = omega (arith, k.size, s.edges_are, s.roots_are);
        shadows = omega (arith, k.twos, k.shadows, s.edges_are, s.roots_are);
        ones = ones;
        marked_few = omega (arith, length_keep (marked (walk g).shadows) (one_to (count_in 1 (walk g).trits)), length_run 1 (count_in 1 (walk g).trits));
      }

  -- the layout, by the numbers that code has
  pub laid_out : {lay : Layout} {k : ℕ} → lay ≡ layout (n + (m + c) + 1) n c (m + c - n) k → k ≡ length (marked_nodes (walk g).trits (walk g).shadows) → lay ≡ graph_layout g
  unfolding graph_layout
  laid_out e q =
      let a : m + c - n ≡ length (walk g).shadows = omega (arith, totals.shadows) in
      e ∙ (λ i. layout (totals.trits i) (sym s.sized.many i) (s.roots_are i) (a i) (q i))

  module _ {lay : Layout} (laid : lay ≡ graph_layout g) where
    abbrev size : ℕ
    size = lay.at9 + 2 * ((n + 63) / 64)

    image_size : size ≡ length (image_of g)
    unfolding graph_layout image_of image_length
    image_size =
        let p = proper_table t g (record { read = s.sized.read; reaches = subst T (sym reaches) tt }) in
        let ts = (walk g).trits in
        let H = (walk g).shadows in
        omega (arith, ap (λ (l : Layout). l.at9) laid, length_image ts H p.paired (shadow_nodes ts H p.paired p.seen), totals.ones, s.sized.many)

    pub size_small : size ≤ 1000000
    unfolding graph_layout
    size_small = let f = totals in omega (arith, ap (λ (l : Layout). l.at9) laid, s.sized.many)

    pub uncleared_9 : {image : List ℕ} → length image < size → Uncleared t n order work image (Err ImageTooShort) order work image
    uncleared_9 {image} l = record {
      outcome = λ old e k.
          let many = s.sized.many in
          pack_9 t order old image g s.sized.read (omega (arith, o.walked.held.room)) (omega (arith, o.order_room)) reaches (omega (arith, image_size))
          ∙ ap (λ (x : List ℕ). pack_leaves (Err ImageTooShort) order x image) (clears s old work e k);
    }

    laid_nodes : lay.nodes ≡ n
    unfolding graph_layout
    laid_nodes = ap (λ (l : Layout). l.nodes) laid ∙ s.sized.many

    module _ {image : List ℕ} (l : size ≤ length image) where
      pub planned : Planned t work lay image
      planned = record { walked = subst (λ (k : ℕ). Walked t k work) (sym laid_nodes) o.walked; laid = laid; room = omega (arith, image_size) }

      pub uncleared_done : {order' work' image' : List ℕ} → order' ≡ over (walk g).queue order → length work' ≡ length work → work' ≡ over (group_ends (walk g).trits (walk g).shadows) work
          → image' ≡ over (image_of g) image → Uncleared t n order work image (Ok size) order' work' image'
      unfolding level_order
      uncleared_done {work' = work'} a b d f = record {
        outcome = λ old e k.
            let many = s.sized.many in
            let ends = over_all (group_ends (walk g).trits (walk g).shadows) n work (length_ends _ _ ∙ totals.ones) (omega (arith, o.walked.held.room)) in
            let kept : Kept 0 (3 * n) old work' = λ i z. ap (λ (x : List ℕ). get_or x i 0) d ∙ over_behind ends i (omega (arith, z zero-le)) ∙ k i z in
            pack_done t order old image g s.sized.read (omega (arith, o.walked.held.room)) (omega (arith, o.order_room)) reaches (omega (arith, image_size))
            ∙ (λ i. pack_leaves (Ok (sym image_size i)) (sym a i) (clears s old work' (b ∙ e) kept i) (sym f i));
      }
