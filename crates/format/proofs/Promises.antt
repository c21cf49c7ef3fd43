-- What the entries leave, as the demands state it: packing case by case; the checker, unpacking and packing again over the same bytes; one derivation under
-- two numberings. Assumes nothing.
use Prim.Native.Nat.{ℕ, zero, suc, ◌*◌, ◌≤◌, ◌<◌}
use native.Mathlib.Omega.{arith}
use mathlib.Core.Path.{◌≡◌, refl, sym, ap, ap₂, ◌∙◌, subst}
use mathlib.Core.Logic.{◌↔◌}
use mathlib.Core.Bool.{Bool, true, false}
use mathlib.Core.List.{List}
use lib.Dec.{T, lit<}
use lib.ListN.{length, take, drop, replicate, length-replicate, get_or-replicate}
use lib.Seq.{take_at}
use native.Mathlib.Decide.{dec_le}
use Rattle.format.specs.Lists.{All, Below, over}
use Rattle.format.specs.Table.{Graph, graph, nodes, Node, words, read_table, WellFormed, WithinLimits}
use Rattle.format.specs.Level.{walk, level_order, reached, Reach}
use Rattle.format.specs.Image.{node_count, image}
use Rattle.format.specs.Proper.{check_image, trits_of, shadows_of, ProperTrits}
use Rattle.format.specs.Renumbering.{renumbered, Renumbering}
use Rattle.format.specs.Unpack.{UnpackOutcome, unpack, unpack_outcome}
use Rattle.format.specs.Packing.{image_of, Accepted, PackOutcome, RoomEnough, bytes_of, cleared, pack_outcome, BuffersKept}
use Rattle.format.specs.Answers.{done, stops, Numbers}
use Rattle.format.proofs.Accepting.{reads_as, all_each, proper_table, packable, scanned_accepted, scanned_image}
use Rattle.format.proofs.Reached.{reached_all}
use Rattle.format.proofs.Outcomes.{pack_8, pack_9, pack_accepted, true_of, words_fit, unpack_fits, unpack_done, pack_room, pack_cases, length_cleared, length_over, unpack_51, unpack_improper}
use Rattle.format.proofs.Widths.{image_low}
use Rattle.format.proofs.ImageReads.{each_append}
use Rattle.format.proofs.CheckLaws.{image_passes, image_passed, trits_of_image, shadows_of_image}
use Rattle.format.proofs.Neighbours.{unpack_scanned, unpack_accepted, unpack_image, unpack_nodes}
use Rattle.format.proofs.Trip.{same_code, unpacked}
use Rattle.format.proofs.Reading.{read_words, words_read}
use Rattle.format.proofs.Places.{all_imp}
use Rattle.format.proofs.Digits.{below_drop}
use Rattle.format.proofs.Order.{order_inside}
use Rattle.format.proofs.Facts.{image_injective}

-- ---- packing

-- what *accepted* means
pub accepted_exactly : (table : List ℕ) (g : Graph)
    → Accepted table g ↔ ((table ≡ words g) × WellFormed g × WithinLimits g × ((v : ℕ) → Node (nodes g) v → Reach g v))
accepted_exactly table g = (
  (λ a. let r = reads_as table g a in (r.0, r.1, r.2, (reached_all g r.1).0 a.reaches)),
  (λ r. record { read = ap read_table r.0 ∙ read_words g r.1 r.2; reaches = (reached_all g r.1).1 r.3 }),
)

module _ (table order work buffer : List ℕ) (g : Graph) (e : read_table table ≡ graph g) (w : 3 * nodes g ≤ length work) (o : nodes g ≤ length order) where
  reaching : T (reached g) ↔ ((v : ℕ) → Node (nodes g) v → Reach g v)
  reaching = reached_all g (words_read table g e).1

  -- a node that no root reaches
  pub packing_8 : (((v : ℕ) → Node (nodes g) v → Reach g v) → ⊥)
      → pack_outcome table order work buffer ≡ record { returned = stops 8; order = order; work = cleared g work; image = buffer }
  packing_8 h = pack_8 table order work buffer g e w o (go (reached g) refl)
    where
      go : (b : Bool) → reached g ≡ b → reached g ≡ false
      go true r = absurd (h (reaching.0 (subst T (sym r) tt)))
      go false r = r

  module _ (h : (v : ℕ) → Node (nodes g) v → Reach g v) where
    pub packing_9 : length buffer < length (image_of g)
        → pack_outcome table order work buffer ≡ record { returned = stops 9; order = order; work = cleared g work; image = buffer }
    packing_9 l = pack_9 table order work buffer g e w o (true_of (reached g) (reaching.1 h)) l

    pub packing_done : length (image_of g) ≤ length buffer → pack_outcome table order work buffer
        ≡ record { returned = done (length (image_of g)); order = over (level_order g) order; work = cleared g work; image = over (image_of g) buffer }
    packing_done l = pack_accepted table order work buffer g (record { read = e; reaches = reaching.1 h }) w o l

-- what is lent fits its widths, and so does what is left
order_words : (table : List ℕ) (g : Graph) → Accepted table g → Below 65536 (level_order g)
order_words table g a =
    all_each (λ w. w < 65536) (level_order g)
    (all_imp (Node (nodes g)) (λ w. w < 65536) (level_order g) (λ w h. omega (arith, (reads_as table g a).2.nodes_fit)) (order_inside g (packable table g a)))

image_bytes : (table : List ℕ) (g : Graph) → Accepted table g → Below 256 (image_of g)
unfolding image_of
image_bytes table g a = image_low (walk g).trits (walk g).shadows (proper_table table g a)

below_over : (b : ℕ) (xs buffer : List ℕ) → Below b xs → Below b buffer → Below b (over xs buffer)
below_over b xs buffer h k = each_append (λ x. x < b) xs (drop (length xs) buffer) h (below_drop b (length xs) buffer k)

below_cleared : (b : ℕ) (g : Graph) (work : List ℕ) → 0 < b → Below b work → Below b (cleared g work)
below_cleared b g work p h = below_over b (replicate (3 * nodes g) 0) work (zeros (3 * nodes g)) h
  where
    zeros : (n : ℕ) → Below b (replicate n 0)
    zeros n i l = subst (λ (x : ℕ). x < b) (sym (get_or-replicate n i 0 0 (subst (λ (k : ℕ). i < k) (length-replicate {A = ℕ} n 0) l))) p

pub packing_kept : (table order work buffer : List ℕ) → BuffersKept order work buffer (pack_outcome table order work buffer)
packing_kept table order work buffer =
    let K : PackOutcome → Type 0 = BuffersKept order work buffer in
    let early : (n : Numbers) → K (record { returned = n; order = order; work = work; image = buffer }) =
    λ n. record { order_length = refl; work_length = refl; image_length = refl; order_fits = λ h. h; work_fits = λ h. h; image_fits = λ h. h } in
    let late : (n : Numbers) (g : Graph) → 3 * nodes g ≤ length work → K (record { returned = n; order = order; work = cleared g work; image = buffer }) = λ n g w.
    record {
      order_length = refl;
      work_length = length_cleared g work w;
      image_length = refl;
      order_fits = λ h. h;
      work_fits = below_cleared 4294967296 g work (lit< tt);
      image_fits = λ h. h;
    } in
    pack_cases table order work buffer K (λ f e l u. early (stops f)) (λ g e. early (stops 7)) (λ g e. late (stops 8) g) (λ g e. late (stops 9) g)
    (λ r. record {
      order_length = length_over (level_order r.of) order (omega (arith, (packable table r.of r.is).all_reached, r.order_room));
      work_length = length_cleared r.of work r.work_room;
      image_length = length_over (image_of r.of) buffer r.image_room;
      order_fits = below_over 65536 (level_order r.of) order (order_words table r.of r.is);
      work_fits = below_cleared 4294967296 r.of work (lit< tt);
      image_fits = below_over 256 (image_of r.of) buffer (image_bytes table r.of r.is);
    })

-- ---- the checker, unpacking, and packing again

pub checker_passes : (table : List ℕ) (g : Graph) → Accepted table g → check_image (image_of g) ≡ 0
unfolding image_of
checker_passes table g a = image_passes (walk g).trits (walk g).shadows (proper_table table g a)

pub proper_exactly : (b : List ℕ) → Below 256 b → (check_image b ≡ 0) ↔ ((trits : List ℕ) × (H : List ℕ) × ProperTrits trits H × (b ≡ image trits H))
proper_exactly b low = (
  (λ e. let s = image_passed b low e in (trits_of b, shadows_of b, s.proper, s.same)),
  (λ t. ap check_image t.3 ∙ image_passes t.0 t.1 t.2),
)

pub checker_exact : (b : List ℕ) → Below 256 b → (check_image b ≡ 0) ↔ ((table : List ℕ) × (g : Graph) × Accepted table g × (image_of g ≡ b))
checker_exact b low = (
  (λ e.
      let s = image_passed b low e in
      let g : Graph = unpack (trits_of b) (shadows_of b) in
      (words g, g, unpack_accepted (trits_of b) (shadows_of b) s.proper, unpack_image (trits_of b) (shadows_of b) s.proper ∙ sym s.same)),
  (λ t. subst (λ (x : List ℕ). check_image x ≡ 0) t.3 (checker_passes t.0 t.1 t.2)),
)

pub trits_back : (table : List ℕ) (g : Graph) → Accepted table g → (trits_of (image_of g) ≡ (walk g).trits) × (shadows_of (image_of g) ≡ (walk g).shadows)
unfolding image_of
trits_back table g a =
    let p = proper_table table g a in
    (trits_of_image (walk g).trits (walk g).shadows p, shadows_of_image (walk g).trits (walk g).shadows p)

pub unpacking : (table buffer : List ℕ) (g : Graph) → Accepted table g → length (words (renumbered g (level_order g))) ≤ length buffer
    → unpack_outcome (image_of g) buffer
    ≡ record { returned = done (length (words (renumbered g (level_order g)))); table = over (words (renumbered g (level_order g))) buffer }
unpacking table buffer g a h =
    let t = trits_back table g a in
    let e : words (unpack (trits_of (image_of g)) (shadows_of (image_of g))) ≡ words (renumbered g (level_order g)) =
    ap₂ (λ (x y : List ℕ). words (unpack x y)) t.0 t.1 ∙ ap words (unpack_scanned (walk g).trits (walk g).shadows (proper_table table g a) ∙ unpacked g (packable table g a)) in
    unpack_done (image_of g) buffer (checker_passes table g a) (subst (λ (x : List ℕ). length x ≤ length buffer) (sym e) h)
    ∙ ap (λ (x : List ℕ). record { returned = done (length x); table = over x buffer }) e

pub unpacked_again : (table : List ℕ) (g : Graph) → Accepted table g
    → Accepted (words (renumbered g (level_order g))) (renumbered g (level_order g)) × (image_of (renumbered g (level_order g)) ≡ image_of g)
unfolding image_of
unpacked_again table g a =
    let p = proper_table table g a in
    subst (λ (x : Graph). Accepted (words x) x × (image_of x ≡ image_of g)) (unpacked g (packable table g a))
    (scanned_accepted (walk g).trits (walk g).shadows p, scanned_image (walk g).trits (walk g).shadows p)

bytes_image : (table order work buffer : List ℕ) (r : RoomEnough table order work buffer) → bytes_of (pack_outcome table order work buffer) ≡ image_of r.of
bytes_image table order work buffer r =
    let b : List ℕ = image_of r.of in
    ap bytes_of (pack_accepted table order work buffer r.of r.is r.work_room r.order_room r.image_room) ∙ take_at b (drop (length b) buffer) (length b) refl

pub checker_bytes : (b : List ℕ) → Below 256 b → (check_image b ≡ 0)
    ↔ ((table : List ℕ) × (order : List ℕ) × (work : List ℕ) × (buffer : List ℕ) × All (λ w. w < 65536) table
    × ((pack_outcome table order work buffer).returned.code ≡ 0) × (bytes_of (pack_outcome table order work buffer) ≡ b))
checker_bytes b low = (
  (λ e.
      let t = (checker_exact b low).0 e in
      let g : Graph = t.1 in
      let f = reads_as t.0 g t.2 in
      let r : RoomEnough t.0 (replicate (nodes g) 0) (replicate (3 * nodes g) 0) b = record {
        of = g;
        is = t.2;
        work_room = omega (arith, length-replicate {A = ℕ} (3 * nodes g) 0);
        order_room = omega (arith, length-replicate {A = ℕ} (nodes g) 0);
        image_room = omega (arith, ap length t.3);
      } in (
        t.0,
        replicate (nodes g) 0,
        replicate (3 * nodes g) 0,
        b,
        subst (All (λ w. w < 65536)) (sym f.0) (words_fit g f.1 f.2),
        ap (λ (o : PackOutcome). o.returned.code) (pack_accepted _ _ _ _ g t.2 r.work_room r.order_room r.image_room),
        bytes_image _ _ _ _ r ∙ t.3,
      )),
  (λ t.
      let r = pack_room t.0 t.1 t.2 t.3 t.5 in
      subst (λ (x : List ℕ). check_image x ≡ 0) (sym (bytes_image t.0 t.1 t.2 t.3 r) ∙ t.6) (checker_passes t.0 r.of r.is)),
)

pub round_trip : (b buffer order work image : List ℕ) → Below 256 b → (unpack_outcome b buffer).returned.code ≡ 0
    → 3 * node_count (trits_of b) ≤ length work → node_count (trits_of b) ≤ length order → length b ≤ length image
    → let o = unpack_outcome b buffer in let p = pack_outcome (take o.returned.value o.table) order work image in
    (p.returned ≡ done (length b)) × (bytes_of p ≡ b)
round_trip b buffer order work image low h w n l =
    let s = image_passed b low (unpack_fits b buffer h).0 in
    let g : Graph = unpack (trits_of b) (shadows_of b) in
    let ws : List ℕ = words g in
    let e : image_of g ≡ b = unpack_image (trits_of b) (shadows_of b) s.proper ∙ sym s.same in
    let c : nodes g ≡ node_count (trits_of b) = unpack_nodes (trits_of b) (shadows_of b) s.proper in
    let r : RoomEnough ws order work image = record {
      of = g;
      is = unpack_accepted (trits_of b) (shadows_of b) s.proper;
      work_room = omega (arith, c);
      order_room = omega (arith, c);
      image_room = omega (arith, ap length e);
    } in
    let left : take (unpack_outcome b buffer).returned.value (unpack_outcome b buffer).table ≡ ws =
    ap (λ (o : UnpackOutcome). take o.returned.value o.table) (unpack_done b buffer (unpack_fits b buffer h).0 (unpack_fits b buffer h).1)
    ∙ take_at ws (drop (length ws) buffer) (length ws) refl in
    subst (λ (t : List ℕ). ((pack_outcome t order work image).returned ≡ done (length b)) × (bytes_of (pack_outcome t order work image) ≡ b)) (sym left) (
      ap (λ (o : PackOutcome). o.returned) (pack_accepted ws order work image g r.is r.work_room r.order_room r.image_room) ∙ ap (λ (x : List ℕ). done (length x)) e,
      bytes_image ws order work image r ∙ e,
    )

pub demand_3 : (us vs : List ℕ) (g h : Graph) → Accepted us g → Accepted vs h → (image_of g ≡ image_of h) ↔ Renumbering g h
unfolding image_of
demand_3 us vs g h a b =
    let c = same_code g h (packable us g a) (packable vs h b) in (
      (λ e. c.0 (image_injective (walk g).trits (walk g).shadows (walk h).trits (walk h).shadows (proper_table us g a) (proper_table vs h b) e)),
      (λ s. ap₂ image (c.1 s).0 (c.1 s).1),
    )

pub demand_3_bytes : (us o w b vs o' w' b' : List ℕ) (r : RoomEnough us o w b) (s : RoomEnough vs o' w' b')
    → (bytes_of (pack_outcome us o w b) ≡ bytes_of (pack_outcome vs o' w' b')) ↔ Renumbering r.of s.of
demand_3_bytes us o w b vs o' w' b' r s =
    let d = demand_3 us vs r.of s.of r.is s.is in
    let x = bytes_image us o w b r in
    let y = bytes_image vs o' w' b' s in
    ((λ e. d.0 (sym x ∙ e ∙ y)), (λ n. x ∙ d.1 n ∙ sym y))

-- the buffer of the unpacked table keeps its length, and its words fit 16 bits
abbrev KeptTable : List ℕ → UnpackOutcome → Type 0
KeptTable buffer o = (length o.table ≡ length buffer) × (Below 65536 buffer → Below 65536 o.table)

pub unpacking_kept : (b buffer : List ℕ) → Below 256 b → KeptTable buffer (unpack_outcome b buffer)
unpacking_kept b buffer low = go (check_image b) refl
  where
    fits : check_image b ≡ 0 → Below 65536 (words (unpack (trits_of b) (shadows_of b)))
    fits e =
        let g : Graph = unpack (trits_of b) (shadows_of b) in
        let r = reads_as _ _ (unpack_accepted (trits_of b) (shadows_of b) (image_passed b low e).proper) in
        all_each (λ w. w < 65536) (words g) (words_fit g r.1 r.2)

    go : (x : ℕ) → check_image b ≡ x → KeptTable buffer (unpack_outcome b buffer)
    go zero e =
        let ws : List ℕ = words (unpack (trits_of b) (shadows_of b)) in
        elim (dec_le (length ws) (length buffer)) [
          | yes l ↦ subst (KeptTable buffer) (sym (unpack_done b buffer e l)) (length_over ws buffer l, below_over 65536 ws buffer (fits e))
          | no l ↦ subst (KeptTable buffer) (sym (unpack_51 b buffer e (omega arith))) (refl, λ h. h)
        ]
    go (suc c) e = subst (KeptTable buffer) (sym (unpack_improper b buffer c e)) (refl, λ h. h)
