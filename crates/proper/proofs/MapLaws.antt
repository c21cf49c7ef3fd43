-- A map is marked entry by entry of H, and its words are then section 3's: the bits of a word are the marks of 64 nodes. Assumes nothing.
use Prim.Native.Nat.{ℕ, zero, suc, ◌+◌, ◌-◌, ◌*◌, ◌/◌, ◌%◌, ◌^◌, ◌≤◌, ◌<◌, zero-le, suc-le-suc}
use native.Mathlib.Decide.{ℕ_discrete, dec_le}
use native.Mathlib.Nat.{add-zero}
use native.Mathlib.Numerals.{add-one}
use native.Mathlib.Omega.{arith}
use mathlib.Core.Path.{◌≡◌, refl, sym, ap, ◌∙◌}
use mathlib.Core.Bool.{true, false}
use mathlib.Core.List.{List, [], ◌∷◌, ◌++◌}
use lib.Dec.{ltb, lit<}
use lib.ListN.{length, get_or, set, take, drop, replicate, length-set, length-replicate, get_or-eq_default}
use lib.Seq.{take-suc, take_all}
use borrow.Author.Tests.{eq-eqb, ne_eqb, lt-ltb}
use Rattle.format.specs.Lists.{bit, count_in, up, same, low_digits, Below}
use Rattle.format.specs.Image.{bytes, node_count, marked, marks, mark_words, read}
use Rattle.format.specs.Table.{AllNodes}
use Rattle.format.specs.Proper.{ProperTrits}
use Rattle.format.proofs.Digits.{horner_digits, horner_ext, digits_at, gather_at, get_or_block, length_digits, length_block}
use Rattle.format.proofs.Sizes.{length_marks, length_mark_words}
use Rattle.format.proofs.Marks.{marks_at}
use Rattle.format.proofs.CheckLaws.{limits_nodes}
use Rattle.format.proofs.ImageReads.{fits3}
use Rattle.format.proofs.Steps.{bytes_same, bytes_differ}
use Rattle.marks.specs.Bits.{bit_of, BitSet, bit_in}
use Rattle.marks.proofs.BitLaws.{bit_none, bit_same, bit_other}
use Rattle.proper.specs.Known.{Shadowed}
use Rattle.proper.specs.Marking.{MarkMap}
use Rattle.proper.proofs.ShadowLaws.{all_nodes, length_shadows, count_snoc}

-- ---- one entry more

pub map_none : MarkMap [] (replicate 469 0)
unfolding marked
map_none = record { long = length-replicate {A = ℕ} 469 0; bits = λ v l. bit_none 469 v (omega arith) }

map_more : {H ws : List ℕ} {r : ℕ} (x : ℕ) → MarkMap H ws → x < 30016 → BitSet (get_or ws (x / 64) 0) (x % 64) r → MarkMap (H ++ suc x ∷ []) (set ws (x / 64) r)
unfolding marked
map_more {H} {ws} {r} x m small now = record { long = length-set ws (x / 64) r ∙ m.long; bits = go }
  where
    inside : x / 64 < length ws
    inside = omega (arith, m.long)

    go : (v : ℕ) → v < 30016 → bit_in (set ws (x / 64) r) v ≡ bit (ltb 0 (count_in (suc v) (H ++ suc x ∷ [])))
    go v l = elim (ℕ_discrete v x) [
      | yes e ↦ rw (e, count_snoc, eq-eqb (suc x) (suc x) refl) (bit_same ws x inside now ∙ sym (ap bit (lt-ltb 0 (count_in (suc x) H + 1) (omega arith))))
      | no e ↦ rw (count_snoc, ne_eqb (suc x) (suc v) (λ q. e (omega arith)), add-zero) (bit_other ws x inside now v e ∙ m.bits v l)
    ]

-- the first i entries are marked
pub record Filled (hs : List ℕ) (i : ℕ) (ws : List ℕ) : Type 0 where
  pub long : length ws ≡ 469
  pub marks_are : (trits H : List ℕ) → Shadowed trits H hs → MarkMap (take i H) ws

pub filled_none : {hs ws : List ℕ} → MarkMap [] ws → Filled hs 0 ws
filled_none m = record { long = m.long; marks_are = λ trits H s. m }

pub filled_more : {hs ws : List ℕ} {i h r : ℕ} → Filled hs i ws → i < length hs / 2 → 1 ≤ h → h ≤ 30000 → ((trits H : List ℕ) → Shadowed trits H hs → h ≡ get_or H i 0)
    → BitSet (get_or ws ((h - 1) / 64) 0) ((h - 1) % 64) r → Filled hs (i + 1) (set ws ((h - 1) / 64) r)
filled_more {hs} {ws} {i} {h} {r} f l low high is now = record {
  long = length-set ws ((h - 1) / 64) r ∙ f.long;
  marks_are = λ trits H s.
      let e : get_or H i 0 ≡ suc (h - 1) = omega (arith, is trits H s) in
      rw (add-one, take-suc H i 0 (omega (arith, length_shadows s)), e) (map_more (h - 1) (f.marks_are trits H s) (omega arith) now);
}

pub filled_all : {hs ws : List ℕ} {i : ℕ} → Filled hs i ws → length hs / 2 ≤ i → (trits H : List ℕ) → Shadowed trits H hs → MarkMap H ws
filled_all {i = i} f l trits H s = rw (take_all i H (omega (arith, length_shadows s))) at (f.marks_are trits H s)

-- ---- the words

none_above : (n t : ℕ) (H : List ℕ) → AllNodes n H → n < t → count_in t H ≡ 0
none_above n t [] h l = refl
none_above n t (x ∷ H) h l =
    omega (arith, ap bit (ne_eqb x t (λ e. omega (arith, (h zero (suc-le-suc zero-le)).1))), none_above n t H (λ j k. h (suc j) (suc-le-suc k)) l)

module _ {trits H : List ℕ} (p : ProperTrits trits H) where
  -- the mark of node v + 1; past the last node there are none
  mark_at : (v : ℕ) → get_or (marks trits H) v 0 ≡ bit (marked H (suc v))
  unfolding marked
  mark_at v = elim (dec_le (suc v) (node_count trits)) [
    | yes l ↦ marks_at trits H v l
    | no l ↦ get_or-eq_default (marks trits H) 0 (omega (arith, length_marks trits H))
        ∙ sym (ap (λ (k : ℕ). bit (ltb 0 k)) (none_above (node_count trits) (suc v) H (all_nodes p) (omega arith)))
  ]

  word_is : {ws : List ℕ} (w : ℕ) → MarkMap H ws → w < up (node_count trits) 64 → get_or ws w 0 < 2 ^ 64 → get_or ws w 0 ≡ get_or (mark_words trits H) w 0
  unfolding mark_words
  word_is {ws} w m l small =
      let ms : List ℕ = marks trits H in
      let x : ℕ = get_or ws w 0 in
      let digit : (j : ℕ) → get_or (low_digits 2 64 x) j 0 ≡ get_or (take 64 (drop (64 * w) ms)) j 0 =
      λ j. elim (dec_le (suc j) 64) [
        | yes h ↦
            let v : ℕ = 64 * w + j in
            let eq : v / 64 ≡ w = omega arith in
            let er : v % 64 ≡ j = omega arith in
            digits_at 2 64 x j h
            ∙ sym (ap (λ (q : ℕ). bit_of (get_or ws q 0) (v % 64)) eq ∙ ap (bit_of x) er)
            ∙ m.bits v (omega (arith, limits_nodes trits p.in_limits)) ∙ sym (mark_at v) ∙ sym (get_or_block 2 64 (lit< tt) (lit< tt) ms w j h)
        | no h ↦
            get_or-eq_default (low_digits 2 64 x) 0 {n = j} (omega (arith, length_digits 2 64 x))
            ∙ sym (get_or-eq_default (take 64 (drop (64 * w) ms)) 0 {n = j} (omega (arith, length_block 2 64 (lit< tt) (lit< tt) ms w)))
      ] in
      sym (horner_digits 2 64 x (lit< tt) small) ∙ horner_ext 2 (low_digits 2 64 x) (take 64 (drop (64 * w) ms)) digit
      ∙ sym (gather_at 2 64 ms w (rw length_marks l))

  -- a part is compared with the map, word by word
  module _ {ws : List ℕ} (m : MarkMap H ws) (part : List ℕ) where
    pub words_wrong : (w : ℕ) → w < up (node_count trits) 64 → get_or ws w 0 < 2 ^ 64 → (read 8 (8 * w) part ≡ get_or ws w 0 → ⊥) → false ≡ same part (bytes 8 (mark_words trits H))
    words_wrong w l small d = sym (bytes_differ 8 part (mark_words trits H) w (rw length_mark_words l) (fits3 trits H) (λ e. d (e ∙ sym (word_is w m l small))))

    pub words_same : Below 256 part → length part ≡ 8 * up (node_count trits) 64 → ((i : ℕ) → i < up (node_count trits) 64 → get_or ws i 0 < 2 ^ 64)
        → ((i : ℕ) → i < up (node_count trits) 64 → read 8 (8 * i) part ≡ get_or ws i 0) → true ≡ same part (bytes 8 (mark_words trits H))
    words_same low long small h =
        sym (bytes_same 8 part (mark_words trits H) (lit< tt) low (rw length_mark_words long) (λ i l. let k = rw length_mark_words at l in h i k ∙ word_is i m k (small i k)))
