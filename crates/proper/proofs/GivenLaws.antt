-- The counts and sizes that code has for sections 3 to 9 are those of the definitions. Assumes nothing.
use Prim.Native.Nat.{ℕ, ◌+◌, ◌*◌, ◌/◌, ◌≤◌, ◌<◌}
use native.Mathlib.Omega.{arith}
use mathlib.Core.Path.{◌≡◌, refl, sym, ap, ◌∙◌}
use mathlib.Core.List.{List, ◌∷◌}
use lib.Dec.{lit<}
use lib.ListN.{length}
use Rattle.format.specs.Lists.{run, count_in, up}
use Rattle.format.specs.Image.{node_count, grouped, marked, marked_nodes, mark_words, starts, mark_samples, last_multiple, given, section3, section4, section5, section7, section8, section9, Section}
use Rattle.format.specs.Proper.{check_given, ProperTrits}
use Rattle.format.proofs.Laws.{length_keep, length_run}
use Rattle.format.proofs.Sizes.{length_bytes, length_grouped, length_mark_words, length_starts, length_pairs, length_mark_samples}
use Rattle.format.proofs.CheckLaws.{shadow_nodes}
use Rattle.samples.proofs.SampleLaws.{far_section}
use Rattle.trits.specs.declared.Layout.{Layout}
use Rattle.trits.specs.Layout.{layout, laying}
use Rattle.proper.specs.Examined.{Sized, Counted, given_from}
use Rattle.samples.specs.Samples.{Sampling, far, middle, near, sample_section}
use Rattle.proper.proofs.OpenLaws.{Front}

module _ (trits H : List ℕ) where
  pub front3 : {n w : ℕ} → node_count trits ≡ n → w ≡ up n 64 → Front (section3 trits H) n (8 * w)
  unfolding section3
  front3 e f = record { counts = e; fills = length_bytes 8 (mark_words trits H) ∙ ap (λ (k : ℕ). 8 * k) (length_mark_words trits H ∙ ap (λ (k : ℕ). up k 64) e ∙ sym f) }

  pub front4 : {h : ℕ} → length (marked_nodes trits H) ≡ h → Front (section4 trits H) (h + 1) (4 * (h + 1))
  unfolding section4
  front4 e = let f = ap (λ (k : ℕ). k + 1) e in record { counts = f; fills = length_bytes 4 (starts trits H) ∙ ap (λ (k : ℕ). 4 * k) (length_starts trits H ∙ f) }

  pub front5 : {k : ℕ} → ProperTrits trits H → length H ≡ k → Front (section5 trits H) k (4 * k)
  unfolding section5
  front5 p e = record {
    counts = e;
    fills =
        length_bytes 4 (grouped trits H (node_count trits))
        ∙ ap (λ (k : ℕ). 4 * k) (length_grouped trits H p.paired (shadow_nodes trits H p.paired p.seen) ∙ e);
  }

  pub front9 : {n w : ℕ} → node_count trits ≡ n → w ≡ up n 64 → Front (section9 trits H) w (2 * w)
  unfolding section9
  front9 e g = let f = ap (λ (k : ℕ). up k 64) e ∙ sym g in record { counts = f; fills = length_bytes 2 (mark_samples trits H) ∙ ap (λ (k : ℕ). 2 * k) (length_mark_samples trits H ∙ f) }

-- no more nodes are marked than there are
pub marked_few : (trits H : List ℕ) → length (marked_nodes trits H) ≤ node_count trits
unfolding marked_nodes
marked_few trits H = omega (arith, length_keep (marked H) (run 1 (node_count trits)), length_run 1 (node_count trits))

-- ---- sections 6, 7 and 8

pub sampling_small : {i step fan width : ℕ} → Sampling i step fan width → {l : ℕ} → l ≤ 125536 → (0 < step) × (l / step ≤ 125536) × (width * (2 * (l / step + 1)) ≤ 1004296)
sampling_small far h = (lit< tt, omega arith, omega arith)
sampling_small middle h = (lit< tt, omega arith, omega arith)
sampling_small near h = (lit< tt, omega arith, omega arith)

module _ (trits : List ℕ) where
  pub front_samples : (step fan width : ℕ) {l : ℕ} → length trits ≡ l → Front (sample_section step fan width trits) (l / step + 1) (width * (2 * (l / step + 1)))
  unfolding sample_section
  front_samples step fan width e =
      let f = ap (λ (k : ℕ). k / step + 1) e in
      record {
        counts = f;
        fills = length_bytes width _ ∙ ap (λ (k : ℕ). width * k) (length_pairs step (last_multiple (step * fan)) trits ∙ ap (λ (k : ℕ). 2 * k) f);
      }

-- section 6 + i, and what stands behind it
given_samples : (trits H : List ℕ) → length trits ≤ 125536 → {i step fan width : ℕ} → Sampling i step fan width
    → given_from (3 + i) trits H ≡ sample_section step fan width trits ∷ given_from (3 + (i + 1)) trits H
unfolding given section7 section8 sample_section
given_samples trits H few far = ap (λ (s : Section). s ∷ given_from 4 trits H) (sym (far_section trits H few))
given_samples trits H few middle = refl
given_samples trits H few near = refl

-- their faults, and those behind them
pub check_samples : (trits H : List ℕ) → length trits ≤ 125536 → {i step fan width : ℕ} → Sampling i step fan width → (b : List ℕ)
    → check_given (sample_section step fan width trits ∷ given_from (3 + (i + 1)) trits H) b ≡ check_given (given_from (3 + i) trits H) b
check_samples trits H few L b = ap (λ (ss : List Section). check_given ss b) (sym (given_samples trits H few L))

-- the layout by the sizes that code has
pub laying_is : {trits : List ℕ} (H : List ℕ) {l n c k h : ℕ} → Sized trits l n c k → length H ≡ count_in 2 trits → h ≡ length (marked_nodes trits H) → layout l n c k h ≡ laying trits H
laying_is H S e f = λ i. layout (sym S.trits_are i) (sym S.nodes_are i) (sym S.roots_are i) ((sym S.twos_are ∙ sym e) i) (f i)

-- the sizes of a layout
pub counted_nodes : {trits H marks : List ℕ} {lay : Layout} → Counted trits H marks lay → lay.nodes ≡ node_count trits
counted_nodes C = ap (λ (y : Layout). y.nodes) C.laid

pub counted_shadows : {trits H marks : List ℕ} {lay : Layout} → Counted trits H marks lay → length H ≡ lay.shadows
counted_shadows C = sym (ap (λ (y : Layout). y.shadows) C.laid)

pub counted_marked : {trits H marks : List ℕ} {lay : Layout} → Counted trits H marks lay → length (marked_nodes trits H) ≡ lay.marked
counted_marked C = sym (ap (λ (y : Layout). y.marked) C.laid)
