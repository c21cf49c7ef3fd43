-- The marks of counts are the marks of H; a word is made of 64 of them, the last first, and its ones are the marks in it. Assumes nothing.
use Prim.Native.Nat.{ℕ, zero, suc, ◌+◌, ◌-◌, ◌*◌, ◌^◌, ◌%◌, ◌/◌, ◌≤◌, ◌<◌, suc-le-suc}
use native.Mathlib.Nat.{add-zero}
use native.Mathlib.Omega.{arith}
use mathlib.Core.Path.{◌≡◌, refl, sym, ap, ap₂, ◌∙◌}
use mathlib.Core.List.{List, [], ◌∷◌}
use lib.Count.{ones, ones_step}
use lib.Dec.{eqb, ltb, lit<}
use lib.ListN.{length, get_or, take, drop, length-map, length-take, get_or-map}
use lib.Seq.{ext_get_or, take-nil, drop-nil}
use Rattle.format.specs.Lists.{bit, each, horner, count_in, up, gather, Below}
use Rattle.format.specs.Trits.{rank}
use Rattle.format.specs.Image.{le_bytes, marked, marks, mark_words, mark_samples}
use Rattle.format.proofs.Laws.{bit_le, rank_add, rank_le}
use Rattle.format.proofs.Digits.{horner_lt, below_take, below_drop, below_tail, below_head}
use Rattle.format.proofs.Sizes.{length_marks}
use Rattle.format.proofs.Marks.{marks_at}
use Rattle.little.specs.Put.{put_at}
use Rattle.marks.specs.Uses.{Uses, mark_of, marks_of, in_word}
use Rattle.marks.proofs.PartLaws.{Begun, begun_more}

-- ---- the sections, by counts alone

module _ {trits H counts : List ℕ} (u : Uses trits H counts) where
  same_marks : marks trits H ≡ marks_of counts
  unfolding marked
  same_marks =
      let n : length (marks trits H) ≡ length counts = length_marks trits H ∙ u.nodes in
      ext_get_or 0 (marks trits H) (marks_of counts) (n ∙ sym (length-map counts mark_of))
      (λ i l. marks_at trits H i (omega (arith, u.nodes)) ∙ ap mark_of (sym (u.counted i (omega arith))) ∙ sym (get_or-map mark_of counts i 0))

  pub words_are : mark_words trits H ≡ each (up (length counts) 64) (λ w. horner 2 (in_word w counts))
  unfolding mark_words gather
  words_are = ap (gather 2 64) same_marks ∙ ap (λ (n : ℕ). each (up n 64) (λ w. horner 2 (in_word w counts))) (length-map counts mark_of)

  pub samples_are : mark_samples trits H ≡ each (up (length counts) 64) (λ w. rank 1 (marks_of counts) (64 * w))
  unfolding mark_samples
  samples_are = ap₂ (λ (n : ℕ) (ms : List ℕ). each (up n 64) (λ w. rank 1 ms (64 * w))) u.nodes same_marks

-- ---- a word

below_cut : (counts : List ℕ) (k p : ℕ) → Below 2 (take k (drop p (marks_of counts)))
below_cut counts k p =
    below_take 2 k (drop p (marks_of counts))
    (below_drop 2 p (marks_of counts) (λ i l. rw (get_or-map mark_of counts i 0) (suc-le-suc (bit_le (ltb 0 (get_or counts i 0))))))

-- from place p on: the digit there, and twice those behind it
digit_first : (ds : List ℕ) (k p : ℕ) → horner 2 (take (suc k) (drop p ds)) ≡ get_or ds p 0 + 2 * horner 2 (take k (drop (suc p) ds))
digit_first [] k p = rw (drop-nil, take-nil)
digit_first (d ∷ ds) k zero = refl
digit_first (d ∷ ds) k (suc p) = digit_first ds k p

-- `word` is made of the marks of word w from `left` on
pub record Made (counts : List ℕ) (w word left : ℕ) : Type 0 where
  pub upto : left ≤ 64
  pub made : word ≡ horner 2 (take (64 - left) (drop (64 * w + left) (marks_of counts)))

module _ {counts : List ℕ} {w word left : ℕ} (m : Made counts w word left) where
  pub made_lt : 0 < left → word < 2 ^ 63
  made_lt l =
      let ds : List ℕ = drop (64 * w + left) (marks_of counts) in
      rw m.made (horner_lt 2 63 (take (64 - left) ds) (lit< tt) (below_cut counts (64 - left) (64 * w + left)) (omega (arith, length-take (64 - left) ds)))

  pub made_more : {mark : ℕ} → 0 < left → mark ≡ mark_of (get_or counts (64 * w + (left - 1)) 0) → Made counts w (2 * word + mark) (left - 1)
  made_more l e =
      let p : ℕ = 64 * w + (left - 1) in
      let ek : 64 - (left - 1) ≡ suc (64 - left) = omega (arith, m.upto) in
      let ep : suc p ≡ 64 * w + left = omega arith in
      record {
        upto = omega (arith, m.upto);
        made = rw (ek, digit_first (marks_of counts) (64 - left) p, get_or-map mark_of counts p 0, ep, ← m.made, e) (omega arith);
      }

  pub made_all : left ≤ 0 → word ≡ horner 2 (in_word w counts)
  made_all l =
      let e : left ≡ 0 = omega arith in
      m.made ∙ rw (e, add-zero)

-- ---- the ones of a word

one_digit : (d : ℕ) → d < 2 → bit (eqb d 1) ≡ d
one_digit zero h = refl
one_digit (suc zero) h = refl
one_digit (suc (suc d)) h = absurd (omega arith)

pub ones_horner : (ds : List ℕ) → Below 2 ds → ones (horner 2 ds) ≡ count_in 1 ds
unfolding ones
ones_horner [] h = refl
ones_horner (d ∷ ds) h =
    let x : ℕ = horner 2 ds in
    let small : d < 2 = below_head 2 d ds h in
    let low : (d + 2 * x) % 2 ≡ bit (eqb d 1) = omega (arith, one_digit d small) in
    let high : (d + 2 * x) / 2 ≡ x = omega arith in
    rw (ones_step (d + 2 * x), low, high, ones_horner ds (below_tail 2 d ds h))

sample_next : (counts : List ℕ) (w : ℕ) → rank 1 (marks_of counts) (64 * (w + 1)) ≡ rank 1 (marks_of counts) (64 * w) + ones (horner 2 (in_word w counts))
unfolding rank
sample_next counts w =
    let e : 64 * (w + 1) ≡ 64 * w + 64 = omega arith in
    rw (e, ones_horner (in_word w counts) (below_cut counts 64 (64 * w))) (rank_add 1 (marks_of counts) (64 * w) 64)

-- w of n samples are written, and `marks` is the next
pub record Sampled (counts : List ℕ) (n w marks : ℕ) (out : List ℕ) : Type 0 where
  pub next : marks ≡ rank 1 (marks_of counts) (64 * w)
  pub begun : Begun 2 n (λ w. rank 1 (marks_of counts) (64 * w)) w out

module _ {counts : List ℕ} {n w marks : ℕ} {out : List ℕ} (s : Sampled counts n w marks out) {word : ℕ} (ew : word ≡ horner 2 (in_word w counts)) where
  counted : marks + ones word ≡ rank 1 (marks_of counts) (64 * (w + 1))
  counted = rw (s.next, ew, sample_next counts w)

  pub sampled_fits : marks + ones word ≤ 64 * (w + 1)
  sampled_fits = rw counted (rank_le 1 (marks_of counts) (64 * (w + 1)))

  pub sampled_more : {out' : List ℕ} → w < n → out' ≡ put_at out (2 * w) (le_bytes 2 marks) → length out' ≡ length out → Sampled counts n (w + 1) (marks + ones word) out'
  sampled_more l e same = record { next = counted; begun = begun_more s.begun l s.next e same }
