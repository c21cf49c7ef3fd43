-- Entries fit their widths, so that sections 2 to 9 read back as they were; bytes are below 256; what the samples add up to. Assumes nothing.
use Prim.Native.Nat.{ℕ, zero, suc, ◌+◌, ◌-◌, ◌*◌, ◌/◌, ◌%◌, ◌^◌, ◌≤◌, ◌<◌}
use native.Mathlib.Nat.{add-zero, not-suc-le-zero}
use native.Mathlib.Omega.{arith}
use mathlib.Core.Path.{◌≡◌, refl, sym, ap, ◌∙◌, subst}
use mathlib.Core.List.{List, [], ◌∷◌, ◌++◌}
use lib.Dec.{lit<}
use lib.ListN.{length, get_or, take, drop}
use Rattle.format.specs.Lists.{All, Below, run, sum_of, horner}
use Rattle.format.specs.Trits.{rank, trytes, tryte_count}
use Rattle.format.specs.Image.{le_bytes, bytes, node_count, mark_words, starts, grouped, pairs, last_multiple, mark_samples, Section, section1, section2, section3, section4, section5, section6, section7, section8, section9, given, written, image, ReadBack, SectionSizes}
use Rattle.format.specs.Proper.{ProperTrits}
use Rattle.format.proofs.Digits.{below_digits, below_spread, gather_at, below_block, length_block, horner_lt}
use Rattle.format.proofs.Select.{rank_samples, rank_tryte}
use Rattle.format.proofs.Sizes.{length_trytes, length_bytes, length_mark_words, length_starts, length_grouped, length_pairs, length_mark_samples}
use Rattle.format.proofs.CheckLaws.{from_bytes_bytes, shadows_small, limits_nodes, shadow_nodes}
use Rattle.format.proofs.ImageReads.{each_append, pairs_at, fits3, fits4, fits5, fits6, fits7, fits8, fits9}
use Rattle.format.proofs.Laws.{◌and◌}

module _ (trits H : List ℕ) (p : ProperTrits trits H) where
  pub sections_back : ReadBack trits H
  unfolding section2 section3 section4 section5 section6 section7 section8 section9
  sections_back = record {
    back2 = from_bytes_bytes 2 H (lit< tt) (shadows_small trits H p);
    back3 = from_bytes_bytes 8 (mark_words trits H) (lit< tt) (fits3 trits H);
    back4 = from_bytes_bytes 4 (starts trits H) (lit< tt) (fits4 trits H p.paired p.length_high);
    back5 = from_bytes_bytes 4 (grouped trits H (node_count trits)) (lit< tt) (fits5 trits H p.length_high);
    back6 = from_bytes_bytes 4 (pairs 65725 (λ p. 0) trits) (lit< tt) (fits6 trits p.length_high);
    back7 = from_bytes_bytes 2 (pairs 275 (last_multiple 65725) trits) (lit< tt) (fits7 trits);
    back8 = from_bytes_bytes 1 (pairs 25 (last_multiple 275) trits) (lit< tt) (fits8 trits);
    back9 = from_bytes_bytes 2 (mark_samples trits H) (lit< tt) (fits9 trits H (limits_nodes trits p.in_limits));
  }

  -- each section's contents are as long as its count says
  pub sections_counted : SectionSizes trits H
  unfolding section1 section2 section3 section4 section5 section6 section7 section8 section9
  sections_counted = record {
    count_3 = refl;
    size_1 = length_trytes trits;
    size_2 = length_bytes 2 H;
    size_3 = length_bytes 8 (mark_words trits H) ∙ ap (λ (k : ℕ). 8 * k) (length_mark_words trits H);
    size_4 = length_bytes 4 (starts trits H) ∙ ap (λ (k : ℕ). 4 * k) (length_starts trits H);
    size_5 = length_bytes 4 (grouped trits H (node_count trits)) ∙ ap (λ (k : ℕ). 4 * k) (length_grouped trits H p.paired (shadow_nodes trits H p.paired p.seen));
    size_6 = omega (arith, length_bytes 4 (pairs 65725 (λ p. 0) trits), length_pairs 65725 (λ p. 0) trits);
    size_7 = omega (arith, length_bytes 2 (pairs 275 (last_multiple 65725) trits), length_pairs 275 (last_multiple 65725) trits);
    size_8 = omega (arith, length_bytes 1 (pairs 25 (last_multiple 275) trits), length_pairs 25 (last_multiple 275) trits);
    size_9 = length_bytes 2 (mark_samples trits H) ∙ ap (λ (k : ℕ). 2 * k) (length_mark_samples trits H);
  }

  -- ---- bytes

  trytes_low : Below 256 (trytes trits)
  unfolding trytes
  trytes_low i l =
      let b : List ℕ = take 5 (drop (5 * i) trits) in
      let h : horner 3 b < 3 ^ 5 = horner_lt 3 5 b (lit< tt) (below_block 3 5 (lit< tt) (lit< tt) trits p.threes i) (length_block 3 5 (lit< tt) (lit< tt) trits i) in
      omega (arith, gather_at 3 5 trits i (subst (λ (k : ℕ). i < k) (length_trytes trits) l))

  bytes_low_lem : (w : ℕ) (xs : List ℕ) → 0 < w → Below 256 (bytes w xs)
  unfolding bytes
  bytes_low_lem w xs h = below_spread 256 w (lit< tt) h xs

  written_low : (ss : List Section) → All (λ (s : Section). Below 256 s.contents) ss → Below 256 (written ss)
  written_low [] a = λ i l. absurd (not-suc-le-zero l)
  written_low (s ∷ ss) a =
      each_append (λ x. x < 256) (le_bytes 4 s.entries) (s.contents ++ written ss) (below_digits 256 4 s.entries (lit< tt))
      (each_append (λ x. x < 256) s.contents (written ss) a.0 (written_low ss a.1))

  pub image_low : Below 256 (image trits H)
  unfolding image given section1 section2 section3 section4 section5 section6 section7 section8 section9
  image_low =
      written_low (section1 trits H ∷ section2 trits H ∷ given trits H)
      (trytes_low and bytes_low_lem 2 H (lit< tt) and bytes_low_lem 8 (mark_words trits H) (lit< tt) and bytes_low_lem 4 (starts trits H) (lit< tt)
      and bytes_low_lem 4 (grouped trits H (node_count trits)) (lit< tt) and bytes_low_lem 4 (pairs 65725 (λ p. 0) trits) (lit< tt)
      and bytes_low_lem 2 (pairs 275 (last_multiple 65725) trits) (lit< tt) and bytes_low_lem 1 (pairs 25 (last_multiple 275) trits) (lit< tt)
      and bytes_low_lem 2 (mark_samples trits H) (lit< tt) and tt)

-- ---- rank by the samples of sections 6, 7 and 8, whole trytes, and part of one

tryte_sum : (t : ℕ) (xs : List ℕ) → Below 3 xs → (a n : ℕ) → 5 * (a + n) ≤ length xs
    → rank t xs (5 * (a + n)) ≡ rank t xs (5 * a) + sum_of (λ (q : ℕ). tryte_count t (get_or (trytes xs) q 0) 5) (run a n)
unfolding sum_of
tryte_sum t xs low a zero h = ap (λ (k : ℕ). rank t xs (5 * k)) (add-zero a) ∙ sym (add-zero (rank t xs (5 * a)))
tryte_sum t xs low a (suc n) h =
    let e1 : 5 * (a + suc n) ≡ 5 * (suc a + n) = omega arith in
    let e2 : 5 * suc a ≡ 5 * a + 5 = omega arith in
    omega (arith, ap (rank t xs) e1, ap (rank t xs) e2, tryte_sum t xs low (suc a) n (omega arith), rank_tryte t xs low a 5 (omega arith) (omega arith))

pub rank_by_index : (t : ℕ) (trits : List ℕ) → Below 3 trits → (p : ℕ) → t < 2 → p ≤ length trits
    → rank t trits p
    ≡ get_or (pairs 65725 (λ p. 0) trits) (2 * (p / 65725) + t) 0
    + get_or (pairs 275 (last_multiple 65725) trits) (2 * (p / 275) + t) 0
    + get_or (pairs 25 (last_multiple 275) trits) (2 * (p / 25) + t) 0
    + sum_of (λ (q : ℕ). tryte_count t (get_or (trytes trits) q 0) 5) (run (5 * (p / 25)) (p / 5 - 5 * (p / 25)))
    + tryte_count t (get_or (trytes trits) (p / 5) 0) (p % 5)
unfolding rank
rank_by_index t trits low p lt lp =
    let a : ℕ = 5 * (p / 25) in
    let n : ℕ = p / 5 - 5 * (p / 25) in
    let e : p ≡ 5 * (p / 5) + p % 5 = omega arith in
    let f : 5 * (a + n) ≡ 5 * (p / 5) = omega arith in
    let g : 5 * a ≡ last_multiple 25 p = omega arith in
    let none : rank t trits 0 ≡ 0 = refl in
    omega (
      arith,
      ap (rank t trits) e,
      rank_tryte t trits low (p / 5) (p % 5) (omega arith) (omega arith),
      tryte_sum t trits low a n (omega arith),
      ap (rank t trits) f,
      ap (rank t trits) g,
      rank_samples t trits p,
      pairs_at 65725 (λ p. 0) trits (p / 65725) t (omega arith) lt,
      pairs_at 275 (last_multiple 65725) trits (p / 275) t (omega arith) lt,
      pairs_at 25 (last_multiple 275) trits (p / 25) t (omega arith) lt,
    )
