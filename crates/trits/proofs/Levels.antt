-- The three levels of samples are one law over width, step and fan. A pair leaves the twos; one sample of each level gives the rank. Assumes nothing.
use Prim.Native.Nat.{ℕ, ◌+◌, ◌-◌, ◌*◌, ◌/◌, ◌≤◌, ◌<◌}
use native.Mathlib.Nat.{div-add-mod, div-le_self, mod-lt, mul-add, mul-one, mul-le-mul_left}
use native.Mathlib.Omega.{arith}
use mathlib.Core.Path.{◌≡◌, refl, sym, ap, ◌∙◌}
use mathlib.Core.List.{List}
use lib.Dec.{lit<}
use mir.Syntax.{w8}
use mir.Val.{Fits}
use lib.ListN.{length, get_or}
use Rattle.format.specs.Trits.{rank}
use Rattle.format.specs.Image.{pairs, last_multiple, read}
use Rattle.format.specs.Proper.{trits_of, check_image, Whole}
use Rattle.format.proofs.Laws.{rank_zero, rank_mono, rank_three}
use Rattle.format.proofs.Sizes.{length_pairs}
use Rattle.format.proofs.ImageReads.{pairs_at, number_inside, number_reads}
use Rattle.format.proofs.OnImage.{proper, sectioned}
use Rattle.trits.specs.declared.Layout.{Layout}
use Rattle.trits.specs.declared.Samples.{Samples}
use Rattle.trits.specs.Layout.{layout_of, Laid, far_of, middle_of, near_of}
use Rattle.trits.specs.Search.{Sampled}

-- the bytes of a lent slice that the checker accepts
pub accepted : {b : List ℕ} {lay : Layout} → ((i : ℕ) → Fits w8 (get_or b i 0)) → check_image b ≡ 0 → lay ≡ layout_of b → Laid b lay
accepted bytes ok is = record { whole = record { bytes = λ i l. omega (arith, bytes i); passes = ok }; is = is }

-- ---- sections 6, 7 and 8

module _ {b : List ℕ} (w : Whole b) where
  pub few : length (trits_of b) ≤ 125536
  few = (proper w).length_high

  level : (width step fan at : ℕ) (from : ℕ → ℕ) → 0 < step → 0 < fan → ((width ≡ 1 → ⊥) → (width ≡ 2 → ⊥) → width ≡ 4)
      → ((i : ℕ) → i < length (pairs step from (trits_of b)) → at + width * i + width ≤ length b)
      → ((i : ℕ) → i < length (pairs step from (trits_of b)) → read width (at + width * i) b ≡ get_or (pairs step from (trits_of b)) i 0)
      → ((q : ℕ) → q ≤ length (trits_of b) / step → from (step * q) ≡ step * (fan * (q / fan)))
      → Sampled b (record { at = at; width = width; step = step; fan = fan; last = length (trits_of b) / step })
  level width step fan at from ps pf widths inside reads whence =
      let xs : List ℕ = trits_of b in
      record {
        whole = w;
        widths = widths;
        steps = ps;
        fans = pf;
        last_is = refl;
        inside = λ i h. inside i (omega (arith, length_pairs step from xs));
        sample = λ t first q lt lq ef.
            omega (
              arith,
              reads (2 * q + t) (omega (arith, length_pairs step from xs)),
              pairs_at step from xs q t (omega arith) lt,
              ap (rank t xs) (whence q lq ∙ ap (λ (k : ℕ). step * k) (sym ef)),
              rank_mono t xs (step * first) (step * q) (mul-le-mul_left step (omega (arith, div-add-mod q fan))),
            );
      }

module _ {b : List ℕ} {lay : Layout} (L : Laid b lay) where
  abbrev w : Whole b
  w = L.whole

  pub far_sampled : Sampled b (far_of lay)
  unfolding layout_of
  far_sampled =
      rw L.is
      (level w 4 65725 2 _ (λ p. 0) (lit< tt) (lit< tt) (λ a c. refl) (number_inside (sectioned w) 4 (lit< tt)) (number_reads (sectioned w) 4 (lit< tt)) (λ q l. omega (arith, few w)))

  pub middle_sampled : Sampled b (middle_of lay)
  unfolding layout_of
  middle_sampled =
      rw L.is
      (level w 2 275 239 _ (last_multiple 65725) (lit< tt) (lit< tt) (λ a c. absurd (c refl)) (number_inside (sectioned w) 5 (lit< tt)) (number_reads (sectioned w) 5 (lit< tt)) (λ q l. omega arith))

  pub near_sampled : Sampled b (near_of lay)
  unfolding layout_of
  near_sampled =
      rw L.is
      (level w 1 25 11 _ (last_multiple 275) (lit< tt) (lit< tt) (λ a c. absurd (a refl)) (number_inside (sectioned w) 6 (lit< tt)) (number_reads (sectioned w) 6 (lit< tt)) (λ q l. omega arith))

-- ---- what a level gives

-- z zeros and o ones between multiples first and q of the step leave the twos of the span
pub record Twos (b : List ℕ) (s : Samples) (first q z o : ℕ) : Type 0 where
  pub short : s.step * (q - first) ≤ 125536
  pub room : z + o ≤ s.step * (q - first)
  pub left : rank 2 (trits_of b) (s.step * first) + (s.step * (q - first) - z - o) ≡ rank 2 (trits_of b) (s.step * q)

module _ {b : List ℕ} {s : Samples} (S : Sampled b s) where
  abbrev xs : List ℕ
  xs = trits_of b

  within : s.step * s.last ≤ length xs
  within = rw S.last_is (omega (arith, div-add-mod (length xs) s.step))

  pub past : length xs < s.step * (s.last + 1)
  past = rw (S.last_is, mul-add, mul-one) (omega (arith, div-add-mod (length xs) s.step, mod-lt (length xs) S.steps))

  pub last_few : s.last ≤ 125536
  last_few = omega (arith, S.last_is, div-le_self (length xs) s.step, few S.whole)

  pub twos : {first q z o : ℕ} → q ≤ s.last → first ≤ q
      → rank 0 xs (s.step * first) + z ≡ rank 0 xs (s.step * q) → rank 1 xs (s.step * first) + o ≡ rank 1 xs (s.step * q)
      → Twos b s first q z o
  twos {first} {q} l f ez eo =
      let e : first + (q - first) ≡ q = omega arith in
      let span : s.step * first + s.step * (q - first) ≡ s.step * q = sym (mul-add s.step first (q - first)) ∙ ap (λ (k : ℕ). s.step * k) e in
      let fits : s.step * q ≤ length xs = omega (arith, within, mul-le-mul_left s.step l) in
      omega (
        arith,
        few S.whole,
        rank_three xs (proper S.whole).threes (s.step * q) fits,
        rank_three xs (proper S.whole).threes (s.step * first) (omega arith),
        rank_mono 2 xs (s.step * first) (s.step * q) (omega arith),
      )

-- one sample of each level, for block g of 25 trits
pub three_samples : (t : ℕ) (xs : List ℕ) (g six seven eight : ℕ)
    → rank t xs (65725 * 0) + six ≡ rank t xs (65725 * (g / 2629))
    → rank t xs (275 * (239 * (g / 2629))) + seven ≡ rank t xs (275 * (g / 11))
    → rank t xs (25 * (11 * (g / 11))) + eight ≡ rank t xs (25 * g)
    → six + seven + eight ≡ rank t xs (25 * g)
three_samples t xs g six seven eight e6 e7 e8 =
    let f : 275 * (239 * (g / 2629)) ≡ 65725 * (g / 2629) = omega arith in
    let m : 25 * (11 * (g / 11)) ≡ 275 * (g / 11) = omega arith in
    omega (arith, rank_zero t xs, ap (rank t xs) f, ap (rank t xs) m)
