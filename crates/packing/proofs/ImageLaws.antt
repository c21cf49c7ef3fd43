-- Sections put one behind the other or one ahead of the other are put at once; where they lie by the layout; and that sections 1 and 2 stay while the
-- others are put behind them. Assumes nothing.
use Prim.Native.Nat.{ℕ, suc, ◌+◌, ◌-◌, ◌*◌, ◌≤◌}
use native.Mathlib.Nat.{zero-add}
use native.Mathlib.Omega.{arith}
use mathlib.Core.Path.{◌≡◌, refl, sym, ap, ap₂, ◌∙◌, subst}
use mathlib.Core.List.{List, [], ◌∷◌, ◌++◌, append-nil, append_assoc, map}
use lib.Dec.{T, eqb, eqb_refl}
use lib.ListN.{length, get_or, take, drop, length-append, take-append-drop}
use lib.Seq.{drop-drop, drop_at, take_at, take-append-le, take-take, length-take-le}
use Rattle.format.specs.Lists.{over, up, count_in}
use Rattle.format.specs.Table.{Graph}
use Rattle.format.specs.Level.{walk, level_order, reached, Counts}
use Rattle.format.specs.Trits.{trytes}
use Rattle.format.specs.Image.{le_bytes, bytes, node_count, marked_nodes, Section, section1, section2, section3, section4, section5, section6, section7, section8, section9, given, written, image, sizes}
use Rattle.format.specs.Packing.{Accepted, image_of}
use Rattle.format.specs.Proper.{ProperTrits}
use Rattle.format.proofs.Laws.{length_each, get_or_each}
use Rattle.format.proofs.Digits.{length_digits}
use Rattle.format.proofs.Sizes.{size, length_bytes, length_written}
use Rattle.format.proofs.CheckLaws.{shadow_nodes, limits_nodes}
use Rattle.format.proofs.ImageReads.{size_of, section_of, uniforms, image_sectioned}
use Rattle.format.proofs.Order.{counts}
use Rattle.format.proofs.Accepting.{proper_table, packable}
use Rattle.little.specs.Put.{put_at}
use Rattle.little.proofs.Laws.{put_more, put_before, length_put}
use Rattle.marks.specs.Uses.{Uses, FirstIndices}
use Rattle.samples.specs.Lent.{TritsAt, ShadowsAt}
use Rattle.samples.specs.Places.{Ready, group_ends}
use Rattle.samples.specs.Samples.{far, middle, near, sample_section, Plan}
use Rattle.samples.proofs.PlaceLaws.{length_ends}
use Rattle.samples.proofs.SampleLaws.{paced, far_section}
use Rattle.trits.specs.declared.Layout.{Layout}
use Rattle.trits.specs.Layout.{layout}
use Rattle.packing.specs.Work.{graph_of, start_of, uses_of}
use Rattle.packing.specs.Packed.{graph_layout, Planned, LaidOut, front, Started}
use Rattle.packing.proofs.PackLaws.{roots_at}

-- ---- puts

-- the sections ss are put, the contents of the first from place `at` on, which gives r
pub record Puts (at : ℕ) (ss : List Section) (l r : List ℕ) : Type 0 where
  pub counted : 4 ≤ at
  pub inside : at + size ss ≤ length l + 4
  pub is : r ≡ put_at l (at - 4) (written ss)

puts_size : {at : ℕ} {ss : List Section} {l r : List ℕ} → Puts at ss l r → length r ≡ length l
puts_size {at} {ss} {l} p = ap length p.is ∙ length_put (at - 4) l (written ss) (omega (arith, p, length_written ss))

puts_first : {at : ℕ} {ss : List Section} {l r : List ℕ} → Puts at ss l r → at ≡ 4 → r ≡ put_at l 0 (written ss)
puts_first {ss = ss} {l = l} {r = r} p e = subst (λ (k : ℕ). r ≡ put_at l (k - 4) (written ss)) e p.is

-- a count, and behind it contents: a section
pub put_section : (at x : ℕ) (l : List ℕ) (s : Section) {m r : List ℕ} → 4 ≤ at → at + length s.contents ≤ length l → x ≡ s.entries → m ≡ put_at l (at - 4) (le_bytes 4 x)
    → r ≡ put_at m at s.contents → Puts at (s ∷ []) l r
put_section at x l s h h' ex e e' = record {
  counted = h;
  inside = omega arith;
  is = rw (append-nil s.contents) (put_more (at - 4) at l (le_bytes 4 s.entries) s.contents (omega arith) (rw length_digits (omega arith)) (rw (← ex) e) e');
}

-- m after its part from `at` up to `end` was lent and came back as vs
abbrev pub lent : ℕ → ℕ → List ℕ → List ℕ → List ℕ
lent at end m vs = take at m ++ (vs ++ drop (end - at) (drop at m))

-- the contents in a part that was lent
put_part : (at end x : ℕ) (l : List ℕ) (s : Section) {m vs : List ℕ} → 4 ≤ at → end ≡ at + length s.contents → end ≤ length l → x ≡ s.entries → m ≡ put_at l (at - 4) (le_bytes 4 x)
    → vs ≡ s.contents → Puts at (s ∷ []) l (lent at end m vs)
put_part at end x l s h ee h' ex em is =
    let k : end - at ≡ length s.contents = omega arith in
    put_section at x l s h (omega arith) ex em (rw (is, k, drop-drop, append_assoc))

written_append : (ss ts : List Section) → written (ss ++ ts) ≡ written ss ++ written ts
written_append [] ts = refl
written_append (s ∷ ss) ts = rw (written_append ss ts) (simp append_assoc)

size_append : (ss ts : List Section) → size (ss ++ ts) ≡ size ss + size ts
size_append [] ts = sym (zero-add (size ts))
size_append (s ∷ ss) ts = omega (arith, size_append ss ts)

-- sections put behind sections, or ahead of them: all are put at once
module _ {at to : ℕ} {ss ts : List Section} {l m r : List ℕ} where
  pub puts_behind : Puts at ss l m → Puts to ts m r → to ≡ at + size ss → Puts at (ss ++ ts) l r
  puts_behind p q seam = record {
    counted = p.counted;
    inside = omega (arith, size_append ss ts, q.inside, puts_size p);
    is = rw (written_append ss ts) (put_more (at - 4) (to - 4) l (written ss) (written ts) (omega (arith, p)) (omega (arith, p, length_written ss)) p.is q.is);
  }

  puts_ahead : Puts to ts l m → Puts at ss m r → to ≡ at + size ss → Puts at (ss ++ ts) l r
  puts_ahead p q seam =
      let vs : List ℕ = written ss in
      let ws : List ℕ = written ts in
      let b : ℕ = to - 4 in
      let n : b ≡ at - 4 + length vs = omega (arith, q.counted, length_written ss) in
      let f : length (take b l) ≡ b = length-take-le b l (omega (arith, p)) in
      let is : m ≡ take b l ++ (ws ++ drop (b + length ws) l) = p.is ∙ append_assoc (take b l) ws _ in
      let a : take (at - 4) m ≡ take (at - 4) l = rw is (take-append-le (at - 4) (take b l) _ (omega arith) ∙ take-take (at - 4) b l (omega arith)) in
      let d : drop (at - 4 + length vs) m ≡ ws ++ drop (b + length ws) l = rw (← n, is) (drop_at (take b l) _ b f) in
      let k : at - 4 + length (vs ++ ws) ≡ b + length ws = omega (arith, length-append vs ws) in
      record { counted = q.counted; inside = omega (arith, size_append ss ts, p.inside); is = q.is ∙ rw (written_append ss ts, a, d, k) (simp append_assoc) }

-- ---- the layout

pub record Sizes (trits H : List ℕ) (lay : Layout) : Type 0 where
  pub trits_are : lay.trits ≡ length trits
  pub nodes_are : lay.nodes ≡ node_count trits
  pub shadows_are : lay.shadows ≡ length H
  pub marked_are : lay.marked ≡ length (marked_nodes trits H)
  pub size_is : (k : ℕ) → get_or (map size_of (section1 trits H ∷ map section_of (uniforms trits H))) k 0 ≡ get_or (sizes lay.trits lay.nodes lay.shadows lay.marked) k 0

-- where the contents start, one section behind the other, up to the end
pub record Offsets (trits H : List ℕ) (lay : Layout) (room : ℕ) : Type 0 where
  pub at1_is : lay.at1 ≡ 4
  pub at2_is : lay.at2 ≡ lay.at1 + length (section1 trits H).contents + 4
  pub at3_is : lay.at3 ≡ lay.at2 + length (section2 trits H).contents + 4
  pub at4_is : lay.at4 ≡ lay.at3 + length (section3 trits H).contents + 4
  pub at5_is : lay.at5 ≡ lay.at4 + length (section4 trits H).contents + 4
  pub at6_is : lay.at6 ≡ lay.at5 + length (section5 trits H).contents + 4
  pub at7_is : lay.at7 ≡ lay.at6 + length (section6 trits H).contents + 4
  pub at8_is : lay.at8 ≡ lay.at7 + length (section7 trits H).contents + 4
  pub at9_is : lay.at9 ≡ lay.at8 + length (section8 trits H).contents + 4
  pub ends : lay.at9 + length (section9 trits H).contents ≤ room

-- each section's contents start in the buffer, behind their count
pub record Within (lay : Layout) (room : ℕ) : Type 0 where
  pub one : 4 ≤ lay.at1
  pub two : lay.at1 + 4 ≤ lay.at2
  pub three : lay.at2 + 4 ≤ lay.at3
  pub four : lay.at3 + 4 ≤ lay.at4
  pub five : lay.at4 + 4 ≤ lay.at5
  pub nine : lay.at5 ≤ lay.at9
  pub ends : lay.at9 + 2 * up lay.nodes 64 ≤ room

-- of the layout itself
module _ (trits H : List ℕ) (c : ℕ) (p : ProperTrits trits H) where
  abbrev own : Layout
  own = layout (length trits) (node_count trits) c (length H) (length (marked_nodes trits H))

  sizes_of_lem : Sizes trits H own
  sizes_of_lem = record { trits_are = refl; nodes_are = refl; shadows_are = refl; marked_are = refl; size_is = λ k. ap (λ (l : List ℕ). get_or l k 0) (image_sectioned trits H p).sized }

  offsets_of : (room : ℕ) → length (image trits H) ≤ room → Offsets trits H own room
  unfolding image given
  offsets_of room fits =
      let z = sizes_of_lem.size_is in
      let w = length_written (section1 trits H ∷ section2 trits H ∷ given trits H) in
      record {
        at1_is = refl;
        at2_is = omega (arith, z 0);
        at3_is = omega (arith, z 1);
        at4_is = omega (arith, z 2);
        at5_is = omega (arith, z 3);
        at6_is = omega (arith, z 4);
        at7_is = omega (arith, z 5);
        at8_is = omega (arith, z 6);
        at9_is = omega (arith, z 7);
        ends = omega (arith, z 0, z 1, z 2, z 3, z 4, z 5, z 6, z 7);
      }

module _ {trits H : List ℕ} {lay : Layout} {l : List ℕ} (d : LaidOut trits H lay l) where
  pub sized : Sizes trits H lay
  sized = subst (Sizes trits H) (sym d.is) (sizes_of_lem trits H lay.roots d.proper)

  pub few_nodes : lay.nodes ≤ 30000
  few_nodes = omega (arith, sized.nodes_are, limits_nodes trits d.proper.in_limits)

  pub offsets : Offsets trits H lay (length l)
  offsets = subst (λ (x : Layout). Offsets trits H x (length l)) (sym d.is) (offsets_of trits H lay.roots d.proper (length l) d.room)

  pub within : Within lay (length l)
  within =
      let o = offsets in
      record { one = omega arith; two = omega arith; three = omega arith; four = omega arith; five = omega arith; nine = omega arith; ends = omega (arith, sized.size_is 8) }

  -- ---- what each function puts

  pub walk_put : {a b us vs : List ℕ} → a ≡ put_at l (lay.at1 - 4) (le_bytes 4 lay.trits) → us ≡ (section1 trits H).contents
      → b ≡ put_at (lent lay.at1 (lay.at2 - 4) a us) (lay.at2 - 4) (le_bytes 4 lay.shadows) → vs ≡ (section2 trits H).contents
      → lent lay.at2 (lay.at3 - 4) b vs ≡ put_at l 0 (front trits H)
  unfolding section1 section2
  walk_put ea eu eb ev =
      let o = offsets in
      let one = put_part lay.at1 (lay.at2 - 4) lay.trits l (section1 trits H) (omega arith) (omega arith) (omega arith) sized.trits_are ea eu in
      let two = put_part lay.at2 (lay.at3 - 4) lay.shadows _ (section2 trits H) (omega arith) (omega arith) (omega (arith, puts_size one)) sized.shadows_are eb ev in
      puts_first (puts_behind one two (omega arith)) o.at1_is

  pub marks_put : {a b c us vs ws : List ℕ} {w : ℕ} → w ≡ up lay.nodes 64 → a ≡ put_at l (lay.at3 - 4) (le_bytes 4 lay.nodes) → us ≡ (section3 trits H).contents
      → b ≡ put_at (lent lay.at3 (lay.at4 - 4) a us) (lay.at4 - 4) (le_bytes 4 (lay.marked + 1)) → vs ≡ (section4 trits H).contents
      → c ≡ put_at (lent lay.at4 (lay.at5 - 4) b vs) (lay.at9 - 4) (le_bytes 4 w) → ws ≡ (section9 trits H).contents
      → lent lay.at9 (lay.at9 + 2 * w) c ws ≡ put_at (put_at l (lay.at3 - 4) (written (section3 trits H ∷ section4 trits H ∷ []))) (lay.at9 - 4) (written (section9 trits H ∷ []))
  unfolding section3 section4 section9
  marks_put {w = w} f ea eu eb ev ec ew =
      let o = offsets in
      let z = sized.size_is 8 in
      let three = put_part lay.at3 (lay.at4 - 4) lay.nodes l (section3 trits H) (omega arith) (omega arith) (omega arith) sized.nodes_are ea eu in
      let four = put_part lay.at4 (lay.at5 - 4) (lay.marked + 1) _ (section4 trits H) (omega arith) (omega arith) (omega (arith, puts_size three)) (omega (arith, sized.marked_are)) eb ev in
      let both = puts_behind three four (omega arith) in
      let nine = put_part lay.at9 (lay.at9 + 2 * w) w _ (section9 trits H) (omega arith) (omega arith) (omega (arith, puts_size both)) (omega (arith, sized.nodes_are)) ec ew in
      rw both.is at nine.is

  pub plan6 : Plan 65725 2 4 lay.trits lay.at6 l
  plan6 = record { paced = paced far; room = omega (arith, offsets, sized.size_is 5) }

  pub plan7 : Plan 275 239 2 lay.trits lay.at7 l
  plan7 = record { paced = paced middle; room = omega (arith, offsets, sized.size_is 6) }

  pub plan8 : Plan 25 11 1 lay.trits lay.at8 l
  plan8 = record { paced = paced near; room = omega (arith, offsets, sized.size_is 7) }

  -- section 6 counts from place 0
  pub samples_put : {a b r : List ℕ} → a ≡ put_at l (lay.at6 - 4) (written (sample_section 65725 2 4 trits ∷ [])) → b ≡ put_at a (lay.at7 - 4) (written (section7 trits H ∷ []))
      → r ≡ put_at b (lay.at8 - 4) (written (section8 trits H ∷ [])) → r ≡ put_at l (lay.at6 - 4) (written (section6 trits H ∷ section7 trits H ∷ section8 trits H ∷ []))
  unfolding section6
  samples_put {a} {b} {r} ea eb er =
      let o = offsets in
      let six : Puts lay.at6 (section6 trits H ∷ []) l a =
      record { counted = omega arith; inside = omega arith; is = ea ∙ ap (λ (s : Section). put_at l (lay.at6 - 4) (written (s ∷ []))) (far_section trits H d.proper.length_high) } in
      let seven : Puts lay.at7 (section7 trits H ∷ []) a b = record { counted = omega arith; inside = omega (arith, puts_size six); is = eb } in
      let eight : Puts lay.at8 (section8 trits H ∷ []) b r = record { counted = omega arith; inside = omega (arith, puts_size six, puts_size seven); is = er } in
      (puts_behind (puts_behind six seven (omega arith)) eight (omega arith)).is

  -- ---- all sections

  pub all_put : {a b c r : List ℕ} → a ≡ put_at l 0 (front trits H)
      → b ≡ put_at (put_at a (lay.at3 - 4) (written (section3 trits H ∷ section4 trits H ∷ []))) (lay.at9 - 4) (written (section9 trits H ∷ []))
      → c ≡ put_at b (lay.at6 - 4) (written (section6 trits H ∷ section7 trits H ∷ section8 trits H ∷ [])) → r ≡ put_at c (lay.at5 - 4) (written (section5 trits H ∷ []))
      → r ≡ over (image trits H) l
  unfolding image given
  all_put {a} {b} {c} {r} ea eb ec er =
      let o = offsets in
      let m : List ℕ = put_at a (lay.at3 - 4) (written (section3 trits H ∷ section4 trits H ∷ [])) in
      let one : Puts 4 (section1 trits H ∷ section2 trits H ∷ []) l a = record { counted = omega arith; inside = omega arith; is = ea } in
      let three : Puts lay.at3 (section3 trits H ∷ section4 trits H ∷ []) a m = record { counted = omega arith; inside = omega (arith, puts_size one); is = refl } in
      let fore = puts_behind one three (omega arith) in
      let nine : Puts lay.at9 (section9 trits H ∷ []) m b = record { counted = omega arith; inside = omega (arith, puts_size fore); is = eb } in
      let six : Puts lay.at6 (section6 trits H ∷ section7 trits H ∷ section8 trits H ∷ []) b c =
      record { counted = omega arith; inside = omega (arith, puts_size fore, puts_size nine); is = ec } in
      let aft = puts_ahead nine six (omega arith) in
      let five : Puts lay.at5 (section5 trits H ∷ []) c r = record { counted = omega arith; inside = omega (arith, puts_size fore, puts_size aft); is = er } in
      (puts_behind fore (puts_ahead aft five (omega arith)) (omega arith)).is ∙ ap (λ (k : ℕ). image trits H ++ drop k l) (zero-add (length (image trits H)))

pub plan_stays : {step fan width L at : ℕ} {l m : List ℕ} → Plan step fan width L at l → length m ≡ length l → Plan step fan width L at m
plan_stays p e = record { paced = p.paced; room = rw e p.room }

-- ---- sections 1 and 2 stand

laid_stays : {trits H : List ℕ} {lay : Layout} {l m : List ℕ} → LaidOut trits H lay l → length m ≡ length l → LaidOut trits H lay m
laid_stays d e = record { proper = d.proper; is = d.is; room = rw e d.room }

pub started : {trits H : List ℕ} {lay : Layout} {l m : List ℕ} → LaidOut trits H lay l → length m ≡ length l → m ≡ put_at l 0 (front trits H) → Started trits H lay m
started {trits} {H} d n e =
    record { laid = laid_stays d n; stands = ap (take (length (front trits H))) e ∙ take_at (front trits H) _ (length (front trits H)) refl }

-- a part of what stands at the front
part_of : (l a b c : List ℕ) (n i k : ℕ) → take n l ≡ a ++ (b ++ c) → length a ≡ i → length b ≡ k → take k (drop i l) ≡ b
part_of l a b c n i k e ei ek =
    let is : l ≡ a ++ (b ++ (c ++ drop n l)) = sym (take-append-drop n l) ∙ ap (λ (x : List ℕ). x ++ drop n l) e ∙ simp append_assoc in
    ap (λ (x : List ℕ). take k (drop i x)) is ∙ ap (take k) (drop_at a _ i ei) ∙ take_at b _ k ek

size_front : {trits H : List ℕ} {lay : Layout} {l : List ℕ} → LaidOut trits H lay l → length (front trits H) + 4 ≡ lay.at3
size_front {trits} {H} d = let o = offsets d in omega (arith, length_written (section1 trits H ∷ section2 trits H ∷ []))

-- while something is put behind them
pub stays : {trits H : List ℕ} {lay : Layout} {l : List ℕ} → Started trits H lay l → (at : ℕ) (vs : List ℕ) {m : List ℕ} → lay.at3 ≤ at + 4 → at ≤ length l → length m ≡ length l
    → m ≡ put_at l at vs → Started trits H lay m
stays {trits} {H} {l = l} s at vs h fits same e = record {
  laid = laid_stays s.laid same;
  stands = ap (take (length (front trits H))) e ∙ put_before 0 (length (front trits H)) at l vs (omega (arith, size_front s.laid)) fits ∙ s.stands;
}

module _ {trits H : List ℕ} {lay : Layout} {l : List ℕ} (s : Started trits H lay l) where
  abbrev o : Offsets trits H lay (length l)
  o = offsets s.laid

  pub trits_at : (at : ℕ) → lay.at3 ≤ at + 4 → TritsAt trits l lay.at1 (lay.at2 - 4) at
  unfolding section1 section2
  trits_at at h =
      let k : length (trytes trits) ≡ lay.at2 - 4 - lay.at1 = omega (arith, o.at2_is) in
      record {
        rises = omega (arith, o.at2_is);
        before = omega (arith, o.at3_is);
        trits_in = record {
          threes = s.laid.proper.threes;
          few = s.laid.proper.length_high;
          trytes_are = part_of l (le_bytes 4 (length trits)) (trytes trits) _ (length (front trits H)) lay.at1 (lay.at2 - 4 - lay.at1) s.stands
              (length_digits 256 4 (length trits) ∙ sym o.at1_is) k;
        };
      }

  pub shadows_at : (at : ℕ) → lay.at3 ≤ at + 4 → ShadowsAt trits H l lay.at2 at
  unfolding section1 section2
  shadows_at at h =
      let p = s.laid.proper in
      let a : List ℕ = le_bytes 4 (length trits) ++ (trytes trits ++ le_bytes 4 (length H)) in
      let z : length (bytes 2 H) ≡ 2 * length H = length_bytes 2 H in
      record {
        paired = p.paired;
        nodes = shadow_nodes trits H p.paired p.seen;
        nodes_few = limits_nodes trits p.in_limits;
        before = omega (arith, o.at3_is);
        shadows_are = part_of l a (bytes 2 H) [] (length (front trits H)) lay.at2 (2 * length H) (s.stands ∙ simp append_assoc)
            (simp length-append (omega (arith, length_digits 256 4 (length trits), length_digits 256 4 (length H), o.at2_is, o.at1_is))) z;
      }

  -- while sections 3, 4 and 9 are put
  pub stays_marks : {m : List ℕ} → length m ≡ length l
      → m ≡ put_at (put_at l (lay.at3 - 4) (written (section3 trits H ∷ section4 trits H ∷ []))) (lay.at9 - 4) (written (section9 trits H ∷ [])) → Started trits H lay m
  stays_marks same e =
      let x = o in
      let ss : List Section = section3 trits H ∷ section4 trits H ∷ [] in
      let three : Puts lay.at3 ss l (put_at l (lay.at3 - 4) (written ss)) = record { counted = omega arith; inside = omega arith; is = refl } in
      let n = puts_size three in
      stays (stays s (lay.at3 - 4) (written ss) (omega arith) (omega arith) n refl) (lay.at9 - 4) (written (section9 trits H ∷ [])) (omega arith) (omega arith) (same ∙ sym n) e

-- section 5 can be put when its count is
pub places_ready : {trits H : List ℕ} {lay : Layout} {l : List ℕ} → Started trits H lay l → (vs : List ℕ) {m next : List ℕ} → length m ≡ length l → m ≡ put_at l (lay.at5 - 4) vs
    → length next ≡ node_count trits → FirstIndices trits H next → TritsAt trits m lay.at1 (lay.at2 - 4) lay.at5 × ShadowsAt trits H m lay.at2 lay.at5 × Ready trits H next lay.at5 m
places_ready {lay = lay} s vs same e n f =
    let x = offsets s.laid in
    let t = stays s (lay.at5 - 4) vs (omega arith) (omega arith) same e in
    let z = sized s.laid in (
      trits_at t lay.at5 (omega arith),
      shadows_at t lay.at5 (omega arith),
      record { nodewise = n; firsts = λ i h. f i (omega arith); room = omega (arith, z.size_is 4) },
    )

-- ---- a walked table

module _ {table work image : List ℕ} {lay : Layout} (p : Planned table work lay image) where
  abbrev g : Graph
  g = graph_of table

  is_accepted : Accepted table (graph_of table)
  unfolding reached level_order
  is_accepted = record {
    read = p.walked.sized.read;
    reaches = subst (λ (k : ℕ). T (eqb (length (walk g).queue) k)) (sym p.walked.held.tail_is ∙ sym p.walked.sized.many) (eqb_refl (length (walk g).queue));
  }

  counted : Counts g
  counted = counts g (packable table g is_accepted)

  -- the count of roots stands where the roots and the trits before them end
  pub roots_from : (lay.roots ≤ lay.trits) × (lay.trits - lay.roots ≡ start_of g lay.nodes)
  unfolding graph_layout
  roots_from =
      let c = counted in
      let t : lay.trits ≡ length (walk g).trits = ap (λ (x : Layout). x.trits) p.laid in
      let r : lay.roots ≡ length g.roots = ap (λ (x : Layout). x.roots) p.laid in
      let s = roots_at p.walked.sized in
      (omega arith, omega (arith, p.walked.sized.many))

  pub laid_walk : LaidOut (walk g).trits (walk g).shadows lay image
  unfolding graph_layout image_of node_count
  laid_walk =
      let c = counted in
      record {
        proper = proper_table table g is_accepted;
        is = p.laid ∙ ap₂ (λ (n r : ℕ). layout (length (walk g).trits) n r (length (walk g).shadows) (length (marked_nodes (walk g).trits (walk g).shadows))) (sym c.ones)
            (sym (ap (λ (x : Layout). x.roots) p.laid));
        room = p.room;
      }

-- ---- the work buffer

-- part A holds the uses
pub uses_in : {trits H : List ℕ} {lay : Layout} {buffer : List ℕ} → LaidOut trits H lay buffer → (k : ℕ) (work : List ℕ) {work' : List ℕ} → k ≡ lay.nodes → work' ≡ over (uses_of lay.nodes H) work
    → Uses trits H (take k work')
unfolding uses_of
uses_in {trits} {H} {lay} d k work ek e =
    let us : List ℕ = uses_of lay.nodes H in
    let n : length us ≡ lay.nodes = length_each lay.nodes _ in
    let p = d.proper in
    subst (Uses trits H) (sym (ap (take k) e ∙ take_at us _ k (n ∙ sym ek)))
    (record {
      nodes = sym (n ∙ (sized d).nodes_are);
      counted = λ i h. get_or_each lay.nodes (λ (j : ℕ). count_in (suc j) H) i 0 (omega arith);
      twos = p.paired;
      entries = shadow_nodes trits H p.paired p.seen;
    })

-- the part with the uses, come back
pub ends_over : {trits H : List ℕ} {lay : Layout} {buffer : List ℕ} → LaidOut trits H lay buffer → (k : ℕ) (work : List ℕ) {uses ends : List ℕ} → k ≡ lay.nodes
    → uses ≡ over (uses_of lay.nodes H) work → ends ≡ group_ends trits H → ends ++ drop k uses ≡ over (group_ends trits H) work
unfolding uses_of
ends_over {trits} {H} {lay} d k work ek eu ee =
    let us : List ℕ = uses_of lay.nodes H in
    let n : length us ≡ k = length_each lay.nodes _ ∙ sym ek in
    let m : length us ≡ length (group_ends trits H) = n ∙ ek ∙ (sized d).nodes_are ∙ sym (length_ends trits H) in
    rw (ee, eu, drop_at us _ k n, m)
