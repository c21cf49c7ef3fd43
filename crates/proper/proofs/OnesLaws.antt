-- The ones of section 3's words are its marks. Assumes nothing.
use Prim.Native.Nat.{ℕ, ◌+◌, ◌*◌, ◌/◌, ◌≤◌, ◌<◌}
use native.Mathlib.Nat.{mul-add}
use native.Mathlib.Omega.{arith}
use mathlib.Core.Path.{◌≡◌, refl, sym, ap, ap₂, ◌∙◌}
use mathlib.Core.Bool.{Bool, true, false}
use mathlib.Core.List.{List, [], ◌∷◌, append-nil, map}
use lib.Count.{ones}
use lib.Dec.{eqb, lit<}
use lib.ListN.{length, get_or, take, drop}
use borrow.Author.Count.{below_more}
use Rattle.format.specs.Lists.{bit, keep, run, count_in, up, horner, same, Below}
use Rattle.format.specs.Trits.{rank}
use Rattle.format.specs.Image.{bytes, node_count, marked, marks, mark_words, marked_nodes, mark_samples, read}
use Rattle.format.proofs.Laws.{rank_add, rank_past, rank_count, count_le, get_or_each}
use Rattle.format.proofs.Digits.{gather_at, below_block, le_up}
use Rattle.format.proofs.Select.{length_cons_if}
use Rattle.format.proofs.Sizes.{length_bytes, length_marks, length_mark_words, length_mark_samples}
use Rattle.format.proofs.Marks.{below_marks}
use Rattle.format.proofs.CheckLaws.{limits_nodes}
use Rattle.format.proofs.ImageReads.{number_at, fits3, fits9}
use Rattle.format.proofs.Steps.{bytes_same, bytes_differ}
use Rattle.marks.proofs.MarkLaws.{ones_horner}
use Rattle.proper.specs.Known.{Marked}

-- ---- marked nodes are marks

length_kept : (f : ℕ → Bool) (xs : List ℕ) → length (keep f xs) ≡ count_in 1 (map (λ i. bit (f i)) xs)
length_kept f [] = refl
length_kept f (x ∷ xs) = length_cons_if (f x) x (keep f xs) ∙ ap₂ (λ (a b : ℕ). a + b) (one (f x)) (length_kept f xs)
  where
    one : (b : Bool) → bit b ≡ bit (eqb (bit b) 1)
    one true = refl
    one false = refl

pub length_marked : (trits H : List ℕ) → length (marked_nodes trits H) ≡ count_in 1 (marks trits H)
unfolding marked_nodes marks
length_marked trits H = length_kept (marked H) (run 1 (node_count trits))

-- ---- the marks before word w

module _ {trits H ms : List ℕ} (k : Marked trits H ms) where
  pub length_words : length ms ≡ 8 * up (node_count trits) 64
  length_words = ap length k.marks_are ∙ length_bytes 8 (mark_words trits H) ∙ ap (λ (n : ℕ). 8 * n) (length_mark_words trits H)

  ones_next : (w : ℕ) → 8 * w + 8 ≤ length ms → rank 1 (marks trits H) (64 * (w + 1)) ≡ rank 1 (marks trits H) (64 * w) + ones (read 8 (8 * w) ms)
  unfolding rank mark_words
  ones_next w l =
      let n : ℕ = node_count trits in
      let few : w < up n 64 = omega (arith, length_words) in
      let block : List ℕ = take 64 (drop (64 * w) (marks trits H)) in
      let word : read 8 (8 * w) ms ≡ horner 2 block =
      ap (read 8 (8 * w)) (k.marks_are ∙ sym (append-nil (bytes 8 (mark_words trits H))))
      ∙ number_at 8 (mark_words trits H) [] w (rw length_mark_words few) (fits3 trits H w (rw length_mark_words few))
      ∙ gather_at 2 64 (marks trits H) w (rw length_marks few) in
      rw (mul-add, word, ones_horner block (below_block 2 64 (lit< tt) (lit< tt) (marks trits H) (below_marks trits H) w)) (rank_add 1 (marks trits H) (64 * w) 64)

  pub ones_few : (p : ℕ) → rank 1 (marks trits H) p ≤ 30000
  ones_few p =
      omega (arith, rank_count 1 (marks trits H) p, count_le 1 (marks trits H), length_marks trits H, limits_nodes trits k.proper.in_limits)

  pub ones_all : (w : ℕ) → length ms / 8 ≤ w → rank 1 (marks trits H) (64 * w) ≡ length (marked_nodes trits H)
  ones_all w l =
      let past : length (marks trits H) ≤ 64 * w = omega (arith, length_marks trits H, length_words, le_up (node_count trits) 64 (lit< tt)) in
      rank_past 1 (marks trits H) (64 * w) past ∙ sym (length_marked trits H)

-- `sum` marks stand before word w
pub record Counted (ms : List ℕ) (w sum : ℕ) : Type 0 where
  pub before : (trits H : List ℕ) → Marked trits H ms → sum ≡ rank 1 (marks trits H) (64 * w)

pub counted_none : (ms : List ℕ) → Counted ms 0 0
unfolding rank
counted_none ms = record { before = λ trits H k. refl }

module _ {ms : List ℕ} {w sum : ℕ} (s : Counted ms w sum) where
  pub counted_more : {x : ℕ} → w < length ms / 8 → x ≡ ones (read 8 (8 * w) ms) → Counted ms (w + 1) (sum + x)
  counted_more l e = record { before = λ trits H k. rw (e, s.before trits H k) (sym (ones_next k w (omega arith))) }

  pub counted_few : {trits H : List ℕ} → Marked trits H ms → sum ≤ 30000
  counted_few {trits} {H} k = rw (s.before trits H k) (ones_few k (64 * w))

  pub counted_all : length ms / 8 ≤ w → (trits H : List ℕ) → Marked trits H ms → sum ≡ length (marked_nodes trits H)
  counted_all l trits H k = s.before trits H k ∙ ones_all k w l

-- ---- section 9

-- the first w samples are right, and `sum` is the next
pub record Sampled (ms part : List ℕ) (w sum : ℕ) : Type 0 where
  pub counted : Counted ms w sum
  pub right : (trits H : List ℕ) → Marked trits H ms → (i : ℕ) → i < w → read 2 (2 * i) part ≡ get_or (mark_samples trits H) i 0

module _ {ms part : List ℕ} {w sum found : ℕ} (s : Sampled ms part w sum) (l : w < length ms / 8) (e : found ≡ read 2 (2 * w) part) where
  sample_at : {trits H : List ℕ} → Marked trits H ms → (w < length (mark_samples trits H)) × (sum ≡ get_or (mark_samples trits H) w 0)
  unfolding mark_samples
  sample_at {trits} {H} k =
      let h : w < up (node_count trits) 64 = omega (arith, length_words k) in
      (rw length_mark_samples h, s.counted.before trits H k ∙ sym (get_or_each (up (node_count trits) 64) (λ w. rank 1 (marks trits H) (64 * w)) w 0 h))

  pub sampled_wrong : (found ≡ sum → ⊥) → (trits H : List ℕ) → Marked trits H ms → false ≡ same part (bytes 2 (mark_samples trits H))
  sampled_wrong d trits H k =
      sym (bytes_differ 2 part (mark_samples trits H) w (sample_at k).0 (fits9 trits H (limits_nodes trits k.proper.in_limits)) (λ q. d (e ∙ q ∙ sym (sample_at k).1)))

  pub sampled_more : {x : ℕ} → found ≡ sum → x ≡ ones (read 8 (8 * w) ms) → Sampled ms part (w + 1) (sum + x)
  sampled_more q ex = record {
    counted = counted_more s.counted l ex;
    right = λ trits H k. below_more _ w (s.right trits H k) (sym e ∙ q ∙ (sample_at k).1);
  }

pub sampled_all : {ms part : List ℕ} {w sum : ℕ} → Sampled ms part w sum → length ms / 8 ≤ w → Below 256 part
    → {trits₀ H₀ : List ℕ} → Marked trits₀ H₀ ms → length part ≡ 2 * up (node_count trits₀) 64
    → (trits H : List ℕ) → Marked trits H ms → true ≡ same part (bytes 2 (mark_samples trits H))
sampled_all {part = part} s l low k₀ long trits H k =
    sym (bytes_same 2 part (mark_samples trits H) (lit< tt) low (omega (arith, length_words k₀, length_words k, length_mark_samples trits H))
    (λ i h. s.right trits H k i (omega (arith, length_words k, length_mark_samples trits H))))
