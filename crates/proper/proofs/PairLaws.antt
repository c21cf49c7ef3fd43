-- Sections 6, 7 and 8 pair by pair: the counts at a sample are its pair, so a section is right exactly if every pair holds its counts. Assumes nothing.
use Prim.Native.Nat.{ℕ, ◌+◌, ◌*◌, ◌/◌, ◌^◌, ◌≤◌, ◌<◌}
use native.Mathlib.Nat.{add-zero, mul-suc, mul_comm, mul-le-mul_left, zero-mod}
use native.Mathlib.Decide.{ℕ_discrete}
use native.Mathlib.Omega.{arith}
use mathlib.Core.Path.{◌≡◌, refl, sym, ap, ◌∙◌}
use mathlib.Core.Bool.{Bool, true, false, not, ◌&&◌}
use mathlib.Core.List.{List}
use lib.Dec.{eqb, lit<}
use lib.ListN.{length, get_or}
use borrow.Author.Count.{below_none, below_more}
use borrow.Author.Tests.{eqb-true, eqb-false, not-true, not-false}
use Rattle.format.specs.Lists.{same, Below}
use Rattle.format.specs.Image.{bytes, pair, pairs, last_multiple, read}
use Rattle.format.proofs.Laws.{both_true}
use Rattle.format.proofs.Sizes.{length_pairs}
use Rattle.format.proofs.Steps.{bytes_same, bytes_differ}
use Rattle.format.proofs.ImageReads.{pairs_at, fits6, fits7, fits8}
use Rattle.samples.specs.declared.Counts.{Counts}
use Rattle.samples.specs.Lent.{TritsIn}
use Rattle.samples.specs.Samples.{Width, Sampling, far, middle, near, Paced, Counting, Step}
use Rattle.samples.proofs.SampleLaws.{none, counting_anew, pair_is, paced, step_follows, far_pairs}
use Rattle.proper.specs.Samples.{PairsIn, pair_holds}

-- ---- the three sections

numbers_fit : {i step fan width : ℕ} → Sampling i step fan width → (trits : List ℕ) → length trits ≤ 125536 → Below (256 ^ width) (pairs step (last_multiple (step * fan)) trits)
numbers_fit far trits few = rw (far_pairs trits few) (fits6 trits few)
numbers_fit middle trits few = fits7 trits
numbers_fit near trits few = fits8 trits

pub planned : {i step fan width : ℕ} → Sampling i step fan width → (trits part : List ℕ) → length trits ≤ 125536
    → length part ≡ width * (2 * (length trits / step + 1)) → PairsIn trits step fan width part
planned s trits part few e = record { paced = paced s; full = e; fits = numbers_fit s trits few }

-- ---- numbers in a section

width_some : {w : ℕ} → Width w → 0 < w
width_some {w} h = elim (ℕ_discrete w 4) [
  | yes e ↦ omega arith
  | no n ↦ elim (ℕ_discrete w 2) [
    | yes e ↦ omega arith
    | no m ↦ omega (arith, h n m)
  ]
]

pub number_room : (w i n : ℕ) {size : ℕ} → i < n → w * n ≤ size → w * i + w ≤ size
number_room w i n h l = omega (arith, mul-le-mul_left w h, mul-suc w i)

pub small_pair : {w : ℕ} (q : ℕ) {size : ℕ} → Width w → w * (2 * (q + 1)) ≤ size → 2 * (q + 1) ≤ size
small_pair {w} q h l = omega (arith, mul-le-mul_left (2 * (q + 1)) (width_some h), mul_comm w (2 * (q + 1)), mul-suc (2 * (q + 1)) 0)

-- ---- two tests

either : (a : Bool) {b s : Bool} → (a ≡ false → s ≡ false) → (b ≡ false → s ≡ false) → (a && b) ≡ false → s ≡ false
either true f g e = g e
either false f g e = f refl

decide : (a s : Bool) → (a ≡ true → s ≡ true) → (a ≡ false → s ≡ false) → a ≡ s
decide true s f g = sym (f refl)
decide false s f g = sym (g refl)

-- ---- the pairs before sample q are right, and c has the counts at sample q

pub record Passed (trits : List ℕ) (step fan width q : ℕ) (c : Counts) (part : List ℕ) : Type 0 where
  pub counting : Counting trits step fan q c
  pub right : (k : ℕ) → k < 2 * q → read width (width * k) part ≡ get_or (pairs step (last_multiple (step * fan)) trits) k 0

module _ {trits : List ℕ} {step fan width : ℕ} {part : List ℕ} (P : PairsIn trits step fan width part) where
  abbrev own : Paced step fan width
  own = P.paced

  abbrev numbers : List ℕ
  numbers = pairs step (last_multiple (step * fan)) trits

  pub pair_room : {q L : ℕ} → length trits ≡ L → q ≤ L / step → width * (2 * (q + 1)) ≤ length part
  pair_room {q} e h = rw (P.full, e) (mul-le-mul_left width (omega arith))

  pub passed_none : Passed trits step fan width 0 none part
  passed_none = record { counting = counting_anew own.fans (zero-mod fan); right = below_none _ }

  module _ {q : ℕ} {c : Counts} (S : Passed trits step fan width q c part) where
    -- a whole step follows
    pub passed_step : {bs : List ℕ} {L : ℕ} → TritsIn trits bs → length trits ≡ L → q < L / step → Step trits bs (step / 5) fan q c
    passed_step T n h = step_follows own T S.counting n h

    module _ {L : ℕ} (n : length trits ≡ L) (h : q ≤ L / step) where
      early : q < length trits / step + 1
      early = rw n (omega arith)

      -- numbers 2q and 2q + 1 are the counts
      zeros_at : get_or numbers (2 * q) 0 ≡ c.zeros
      unfolding pair
      zeros_at = rw (← add-zero (2 * q)) (pairs_at step (last_multiple (step * fan)) trits q 0 early (lit< tt) ∙ ap (λ (l : List ℕ). get_or l 0 0) (pair_is S.counting own.steps))

      ones_at : get_or numbers (2 * q + 1) 0 ≡ c.ones
      unfolding pair
      ones_at = pairs_at step (last_multiple (step * fan)) trits q 1 early (lit< tt) ∙ ap (λ (l : List ℕ). get_or l 1 0) (pair_is S.counting own.steps)

      -- so a number that differs from its count shows, and two that do not are right
      wrong : (k x : ℕ) → k < 2 * (q + 1) → get_or numbers k 0 ≡ x → eqb (read width (width * k) part) x ≡ false → same part (bytes width numbers) ≡ false
      wrong k x l at e = bytes_differ width part numbers k (rw length_pairs (omega (arith, early))) P.fits (λ d. eqb-false _ x e (d ∙ at))

      wrong_pair : pair_holds width q part c.zeros c.ones ≡ false → same part (bytes width numbers) ≡ false
      wrong_pair = either _ (wrong (2 * q) c.zeros (omega arith) zeros_at) (wrong (2 * q + 1) c.ones (omega arith) ones_at)

      right_pair : pair_holds width q part c.zeros c.ones ≡ true → (k : ℕ) → k < 2 * (q + 1) → read width (width * k) part ≡ get_or numbers k 0
      right_pair e k l =
          let b = both_true _ _ e in
          let R : ℕ → Type 0 = λ k. read width (width * k) part ≡ get_or numbers k 0 in
          below_more R (2 * q + 1) (below_more R (2 * q) S.right (eqb-true _ _ b.0 ∙ sym zeros_at)) (eqb-true _ _ b.1 ∙ sym ones_at) k (omega arith)

      pub passed_wrong : {t : Bool} → t ≡ pair_holds width q part c.zeros c.ones → not t ≡ true → false ≡ same part (bytes width numbers)
      passed_wrong e f = sym (wrong_pair (sym e ∙ not-true _ f))

      pub passed_next : {t : Bool} {d : Counts} → t ≡ pair_holds width q part c.zeros c.ones → not t ≡ false → Counting trits (5 * (step / 5)) fan (q + 1) d
          → Passed trits step fan width (q + 1) d part
      passed_next e f C = record { counting = rw own.trytewise at C; right = right_pair (sym e ∙ not-false _ f) }

      -- at the last sample its pair decides
      pub passed_all : {t : Bool} → q ≡ L / step → t ≡ pair_holds width (L / step) part c.zeros c.ones → Below 256 part → t ≡ same part (bytes width numbers)
      passed_all last e low =
          let len : length numbers ≡ 2 * (q + 1) = rw (length_pairs, n, last) in
          rw (← last) at e ∙ decide _ _ (λ h. bytes_same width part numbers (width_some own.widths) low (rw length_pairs P.full) (λ i l. right_pair h i (omega arith))) wrong_pair
