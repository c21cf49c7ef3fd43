-- The rules of a proper image by places and by one scan say the same; so an accepted table's trits and shadows are proper, and proper trits
-- and shadows are those of an accepted table. Assumes nothing.
use Prim.Native.Nat.{ℕ, zero, suc, ◌+◌, ◌-◌, ◌≤◌, ◌<◌, zero-le, suc-le-suc}
use native.Mathlib.Nat.{le_of_suc-le-suc, not-suc-le-zero}
use native.Mathlib.Omega.{arith}
use mathlib.Core.Path.{◌≡◌, refl, sym, ap, ◌∙◌, subst, subst₂}
use mathlib.Core.List.{List, [], ◌∷◌, ◌++◌}
use lib.Dec.{T, eqb, leb, eqb→eq, eqb_refl}
use lib.ListN.{length, get_or, take, drop, length-append, length-map, take-append-drop, drop_of_length-le}
use lib.Seq.{drop-cons, take-append_seam, get_or-append_seam}
use borrow.Author.Tests.{eq-eqb, le-leb, leb-true}
use Rattle.format.specs.Lists.{All, one_to, number_in, count_in}
use Rattle.format.specs.Table.{Graph, nodes, edges, Node, words, WellFormed, WithinLimits, is_node}
use Rattle.format.specs.Level.{walk, level_order, reached}
use Rattle.format.specs.Trits.{rank, places}
use Rattle.format.specs.Image.{node_count, root_count, edge_count, until_zero, image, shadow_at}
use Rattle.format.specs.Proper.{roots_first, balanced, limits, shadows_seen, ProperTrits}
use Rattle.format.specs.Renumbering.{renumbered}
use Rattle.format.proofs.Cutting.{scanned}
use Rattle.format.specs.Packing.{image_of, Accepted}
use Rattle.format.proofs.Laws.{length_run, true_both, both_true, get_or_other, at_every, node_is_node}
use Rattle.format.proofs.ImageReads.{Each}
use Rattle.format.proofs.Select.{place_of_lem, length_places}
use Rattle.format.proofs.CheckLaws.{shadow_seen}
use Rattle.format.proofs.ProperLaws.{zeros_ones, last_zero_lem, proper_seen, grown_walk, walk_grown}
use Rattle.format.proofs.Order.{Packable, counts, fits_length}
use Rattle.format.proofs.Trip.{unpacked}
use Rattle.format.proofs.Reading.{read_words, words_read}
use Rattle.format.proofs.Scans.{Stands, Scan, proper_nodes, proper_roots, proper_walk, proper_packable, walk_proper}
use Rattle.format.proofs.Rules.{Rules, words_of, proper_of}

-- ---- a place and a cut

pub record Cut (ts a : List ℕ) (x : ℕ) : Type 0 where
  pub inside : length a < length ts
  pub holds : get_or ts (length a) 0 ≡ x
  pub ranks : (t : ℕ) → rank t ts (length a) ≡ count_in t a

pub at_cut : (ts a b : List ℕ) (x : ℕ) → ts ≡ a ++ x ∷ b → Cut ts a x
unfolding rank
at_cut ts a b x e = record {
  inside = omega (arith, ap length e, length-append a (x ∷ b));
  holds = ap (λ (l : List ℕ). get_or l (length a) 0) e ∙ get_or-append_seam a x b 0;
  ranks = λ t. ap (λ (l : List ℕ). rank t l (length a)) e ∙ ap (count_in t) (take-append_seam a (x ∷ b));
}

cut_here : (ts : List ℕ) (p x : ℕ) → p < length ts → get_or ts p 0 ≡ x → ts ≡ take p ts ++ x ∷ drop (suc p) ts
cut_here ts p x h e = sym (take-append-drop p ts) ∙ ap (λ (l : List ℕ). take p ts ++ l) (drop-cons ts p 0 h ∙ ap (λ (y : ℕ). y ∷ drop (suc p) ts) e)

pub each_all : (P : ℕ → Type 0) (xs : List ℕ) → Each P xs → All P xs
each_all P [] h = tt
each_all P (x ∷ xs) h = (h zero (suc-le-suc zero-le), each_all P xs (λ i l. h (suc i) (suc-le-suc l)))

pub all_each : (P : ℕ → Type 0) (xs : List ℕ) → All P xs → Each P xs
all_each P [] a i l = absurd (not-suc-le-zero l)
all_each P (x ∷ xs) a zero l = a.0
all_each P (x ∷ xs) a (suc i) l = all_each P xs a.1 i (le_of_suc-le-suc l)

-- ---- from places to cuts

rules_of : (ts hs : List ℕ) → ProperTrits ts hs → Rules ts hs
unfolding node_count shadow_at
rules_of ts hs p =
    let two : (a b : List ℕ) → ts ≡ a ++ 2 ∷ b → (1 ≤ count_in 0 a) × Node (count_in 1 a) (get_or hs (count_in 2 a) 0) = λ a b e.
    let c = at_cut ts a b 2 e in
    let w : Node (rank 1 ts (length a)) (get_or hs (rank 2 ts (length a)) 0) = shadow_seen ts hs p.seen (length a) c.inside c.holds in
    (omega (arith, (proper_seen ts hs p (length a) c.inside c.holds).0, c.ranks 0), subst₂ (λ (n k : ℕ). Node n (get_or hs k 0)) (c.ranks 1) (c.ranks 2) w) in
    let q : ℕ = length ts - 1 in
    let lq : q < length ts = omega (arith, p.length_low) in
    let z : get_or ts q 0 ≡ 0 = get_or_other ts q 0 3 lq ∙ last_zero_lem ts p.is_balanced in
    record {
      small = each_all (λ x. x < 3) ts p.threes;
      late = λ a b e. (two a b e).0;
      balance = omega (arith, zeros_ones ts p.is_balanced);
      last = (take q ts, cut_here ts q 0 lq z ∙ ap (λ (l : List ℕ). take q ts ++ 0 ∷ l) (drop_of_length-le ts {i = suc q} (omega arith)));
      enough = λ a b e h.
          let c = at_cut ts a b 0 e in
          omega (arith, grown_walk ts p.is_grown (length a) c.inside c.holds (omega (arith, c.ranks 0)), c.ranks 0, c.ranks 1);
      entries = p.paired;
      earlier = λ a b e. (two a b e).1;
    }

pub scan_of : (ts hs : List ℕ) → ProperTrits ts hs → Scan ts hs
scan_of ts hs p = proper_of ts hs (rules_of ts hs p)

-- ---- from cuts to places

front_no_two : (r : ℕ) (ts hs : List ℕ) → Stands r 0 ts hs → count_in 2 (until_zero ts) ≡ 0
front_no_two r [] hs s = refl
front_no_two r (zero ∷ ts) hs s = refl
front_no_two r (suc zero ∷ ts) hs s = omega (arith, front_no_two (suc r) ts hs s.1)
front_no_two r (suc (suc zero) ∷ ts) [] s = absurd s
front_no_two r (suc (suc zero) ∷ ts) (h ∷ hs) s = absurd (omega arith)
front_no_two r (suc (suc (suc t)) ∷ ts) hs s = absurd s

proper_of_scan : (ts hs : List ℕ) → Scan ts hs → length ts ≤ 125536 → node_count ts ≤ 30000 → edge_count ts ≤ 65535 → ProperTrits ts hs
unfolding roots_first balanced limits shadows_seen node_count places rank shadow_at
proper_of_scan ts hs s few n m =
    let r = words_of ts hs s in
    let a : List ℕ = r.last.0 in
    let la : length ts ≡ length a + 1 = ap length r.last.1 ∙ length-append a (0 ∷ []) in
    let c = at_cut ts a [] 0 r.last.1 in
    record {
      threes = all_each (λ x. x < 3) ts r.small;
      length_low = omega arith;
      length_high = few;
      roots_are_first = eq-eqb (count_in 2 (until_zero ts)) 0 (front_no_two 0 ts hs s.stands);
      is_balanced = true_both (eqb (count_in 1 ts + 1) (count_in 0 ts)) (eqb (get_or ts (length ts - 1) 3) 0)
          (eq-eqb (count_in 1 ts + 1) (count_in 0 ts) (omega (arith, r.balance)))
          (eq-eqb (get_or ts (length ts - 1) 3) 0 (get_or_other ts (length ts - 1) 3 0 (omega arith) ∙ ap (λ (k : ℕ). get_or ts k 0) (omega arith) ∙ c.holds));
      is_grown = walk_grown ts (omega (arith, r.balance)) (λ p l e h. r.enough (take p ts) (drop (suc p) ts) (cut_here ts p 0 l e) h);
      in_limits = true_both (leb (node_count ts) 30000) (leb (edge_count ts) 65535) (le-leb (node_count ts) 30000 n) (le-leb (edge_count ts) 65535 m);
      paired = r.entries;
      seen = at_every (λ p. is_node (rank 1 ts p) (shadow_at ts hs p)) 0 (places 2 ts)
          (λ j l.
          let s = place_of_lem 2 ts j (omega (arith, length_places 2 ts)) in
          let p : ℕ = get_or (places 2 ts) j 0 in
          node_is_node (rank 1 ts p) (shadow_at ts hs p) (r.earlier (take p ts) (drop (suc p) ts) (cut_here ts p 2 s.inside s.holds)));
    }

-- ---- an accepted table

pub reads_as : (ws : List ℕ) (g : Graph) → Accepted ws g → (ws ≡ words g) × WellFormed g × WithinLimits g
reads_as ws g a = words_read ws g a.read

pub packable : (ws : List ℕ) (g : Graph) → Accepted ws g → Packable g
unfolding reached
packable ws g a = record { formed = (reads_as ws g a).1; all_reached = eqb→eq (length (level_order g)) (nodes g) a.reaches }

-- what is well formed, within the limits and reached is accepted, as its words
pub accepted : (g : Graph) → Packable g → WithinLimits g → Accepted (words g) g
unfolding reached
accepted g p l = record { read = read_words g p.formed l; reaches = subst (λ (k : ℕ). T (eqb (length (level_order g)) k)) p.all_reached (eqb_refl (length (level_order g))) }

-- c, read off the trits
pub root_count_lem : (g : Graph) → Packable g → root_count (walk g).trits ≡ length g.roots
unfolding root_count renumbered
root_count_lem g p =
    let e : (renumbered g (level_order g)).roots ≡ one_to (root_count (walk g).trits) = (λ i. (sym (unpacked g p) i).roots) ∙ proper_roots (walk g).trits (walk g).shadows (walk_proper g p) in
    sym (length_run 1 (root_count (walk g).trits)) ∙ sym (ap length e) ∙ length-map g.roots (λ (u : ℕ). number_in u (level_order g))

-- m, read off the trits
pub edge_count_lem : (g : Graph) → Packable g → edge_count (walk g).trits ≡ edges g
unfolding edge_count node_count
edge_count_lem g p = let c = counts g p in omega (arith, c.size, c.ones, root_count_lem g p)

pub proper_table : (ws : List ℕ) (g : Graph) → Accepted ws g → ProperTrits (walk g).trits (walk g).shadows
unfolding node_count
proper_table ws g a =
    let p = packable ws g a in
    let l = (reads_as ws g a).2 in
    let c = counts g p in
    let roots_few : length g.roots ≤ nodes g = fits_length (nodes g) g.roots p.formed.roots_nodup p.formed.roots_inside in
    proper_of_scan (walk g).trits (walk g).shadows (walk_proper g p) (omega (arith, c.size, l.nodes_fit, l.edges_fit)) (omega (arith, c.ones, l.nodes_fit))
    (omega (arith, edge_count_lem g p, l.edges_fit))

-- ---- what proper trits and shadows describe is accepted, and packs to them

-- n, m and c, read off the trits
pub scanned_counts : (ts hs : List ℕ) → ProperTrits ts hs → (nodes (scanned ts hs) ≡ node_count ts) × (edges (scanned ts hs) ≡ edge_count ts) × (length (scanned ts hs).roots ≡ root_count ts)
unfolding edge_count node_count root_count
scanned_counts ts hs p =
    let s = scan_of ts hs p in
    let c = counts (scanned ts hs) (proper_packable ts hs s) in
    let e : length (walk (scanned ts hs)).trits ≡ length ts = λ i. length (proper_walk ts hs s i).trits in
    let r : length (scanned ts hs).roots ≡ root_count ts = ap length (proper_roots ts hs s) ∙ length_run 1 (root_count ts) in
    (proper_nodes ts hs s, omega (arith, c.size, proper_nodes ts hs s), r)

proper_limits : (ts hs : List ℕ) → ProperTrits ts hs → WithinLimits (scanned ts hs)
unfolding limits
proper_limits ts hs p =
    let c = scanned_counts ts hs p in
    let h = both_true (leb (node_count ts) 30000) (leb (edge_count ts) 65535) p.in_limits in
    record { nodes_fit = omega (arith, leb-true (node_count ts) 30000 h.0); edges_fit = omega (arith, leb-true (edge_count ts) 65535 h.1) }

pub scanned_accepted : (ts hs : List ℕ) → ProperTrits ts hs → Accepted (words (scanned ts hs)) (scanned ts hs)
scanned_accepted ts hs p = accepted (scanned ts hs) (proper_packable ts hs (scan_of ts hs p)) (proper_limits ts hs p)

pub scanned_image : (ts hs : List ℕ) → ProperTrits ts hs → image_of (scanned ts hs) ≡ image ts hs
unfolding image_of
scanned_image ts hs p = λ i. image (proper_walk ts hs (scan_of ts hs p) i).trits (proper_walk ts hs (scan_of ts hs p) i).shadows
