-- From a node to its group: the marks before it, by the sample and the word, and the two starts. Assumes nothing.
use Prim.Native.Nat.{ℕ, suc, ◌+◌, ◌-◌, ◌*◌, ◌/◌, ◌%◌, ◌^◌, ◌≤◌, ◌<◌}
use native.Mathlib.Nat.{one-mul}
use native.Mathlib.Omega.{arith}
use mathlib.Core.Path.{◌≡◌, refl, sym, ap, ◌∙◌}
use mathlib.Core.Bool.{Bool, true, false}
use mathlib.Core.List.{List}
use lib.Count.{ones}
use lib.Dec.{eqb, lit<}
use lib.ListN.{length, get_or, length-append}
use lib.Pow.{pow_pos, shl_exact}
use Rattle.format.specs.Lists.{bit, count_in}
use Rattle.format.specs.Trits.{rank}
use Rattle.format.specs.Image.{node_count, marked, marks, mark_words, mark_samples, marked_nodes, starts, group, grouped}
use Rattle.format.specs.Proper.{ProperTrits, trits_of, shadows_of}
use Rattle.format.proofs.Laws.{rank_suc, rank_count}
use Rattle.format.proofs.Digits.{digits_at}
use Rattle.format.proofs.Sizes.{length_marks, length_group, grouped_suc, grouped_le}
use Rattle.format.proofs.CheckLaws.{shadow_nodes}
use Rattle.format.proofs.OnImage.{proper}
use Rattle.trits.specs.declared.Layout.{Layout}
use Rattle.format.proofs.Marks.{marks_at, mark_bit, marks_before, starts_at}
use Rattle.proper.proofs.OnesLaws.{length_marked}
use Rattle.asking.specs.declared.index.Group.{Group}
use Rattle.asking.specs.Bounds.{bounds}
use Rattle.asking.specs.Nodes.{NodeIn}

-- 1 shifted by less than the width
pub one_shifted : (i : ℕ) → i < 64 → (1 * 2 ^ i) % 2 ^ 64 ≡ 2 ^ i
one_shifted i h = shl_exact 1 i 64 (lit< tt) (omega arith) ∙ one-mul (2 ^ i)

pub shifted_pos : (i : ℕ) → i < 64 → 0 < (1 * 2 ^ i) % 2 ^ 64
shifted_pos i h = rw (one_shifted i h) (pow_pos i)

one_bit : (b : Bool) → bit (eqb (bit b) 1) ≡ bit b
one_bit true = refl
one_bit false = refl

module _ (trits H : List ℕ) (i w s o m : ℕ) (l : i < node_count trits)
    (ew : w ≡ get_or (mark_words trits H) (i / 64) 0) (es : s ≡ get_or (mark_samples trits H) (i / 64) 0)
    (eo : o ≡ ones (w % 2 ^ (i % 64))) (em : m ≡ w / 2 ^ (i % 64) % 2) where
  cut : 64 * (i / 64) + i % 64 ≡ i
  cut = omega arith

  pub marks_here : s + o ≡ rank 1 (marks trits H) i
  marks_here = rw (es, eo, ew) (sym (marks_before trits H (i / 64) (i % 64) (omega arith) (omega arith)) ∙ ap (rank 1 (marks trits H)) cut)

  own_mark : m ≡ bit (marked H (suc i))
  own_mark =
      rw (em, ew)
      (sym (digits_at 2 64 (get_or (mark_words trits H) (i / 64) 0) (i % 64) (omega arith))
      ∙ mark_bit trits H (i / 64) (i % 64) (omega arith) (omega arith)
      ∙ ap (λ (k : ℕ). bit (marked H (suc k))) cut)

  pub marks_next : s + o + m ≡ rank 1 (marks trits H) (suc i)
  marks_next =
      omega (
        arith,
        marks_here,
        own_mark,
        rank_suc 1 (marks trits H) i (omega (arith, length_marks trits H)),
        ap (λ (k : ℕ). bit (eqb k 1)) (marks_at trits H i l),
        one_bit (marked H (suc i)),
      )

-- a mark's number is one of section 4
pub mark_inside : (trits H : List ℕ) (i j : ℕ) → j ≡ rank 1 (marks trits H) i → j ≤ length (marked_nodes trits H)
mark_inside trits H i j e = omega (arith, rank_count 1 (marks trits H) i, length_marked trits H)

-- the starts at the marks before the node and up to it
pub group_bounds : {trits H : List ℕ} → ProperTrits trits H → (i before after : ℕ) → i < node_count trits
    → before ≡ rank 1 (marks trits H) i → after ≡ rank 1 (marks trits H) (suc i)
    → {first next : ℕ} → first ≡ get_or (starts trits H) before 0 → next ≡ get_or (starts trits H) after 0
    → ◌≡◌ {A = Group} (record { first = first; next = next }) (bounds trits H i)
group_bounds {trits} {H} p i before after l eb ea ef en =
    let start : (j : ℕ) → j ≤ node_count trits → get_or (starts trits H) (rank 1 (marks trits H) j) 0 ≡ length (grouped trits H j) =
    starts_at trits H p.paired (shadow_nodes trits H p.paired p.seen) in
    let f = ef ∙ ap (λ (k : ℕ). get_or (starts trits H) k 0) eb ∙ start i (omega arith) in
    let n = en ∙ ap (λ (k : ℕ). get_or (starts trits H) k 0) ea ∙ start (suc i) l in
    λ k. record { first = f k; next = n k }

-- so many shadow uses
pub record Counted (trits H : List ℕ) (a : ℕ) (g : Group) : Type 0 where
  pub first_is : g.first ≡ length (grouped trits H (a - 1))
  pub next_is : g.next ≡ g.first + count_in a H
  pub inside : g.next ≤ length H

pub group_counted : {trits H : List ℕ} → ProperTrits trits H → (a : ℕ) → 1 ≤ a → {g : Group} → g ≡ bounds trits H (a - 1) → Counted trits H a g
group_counted {trits} {H} p a h e =
    let s : suc (a - 1) ≡ a = omega arith in
    let next : length (grouped trits H (suc (a - 1))) ≡ length (grouped trits H (a - 1)) + count_in a H =
    ap length (grouped_suc trits H (a - 1)) ∙ length-append (grouped trits H (a - 1)) (group trits H (suc (a - 1)))
    ∙ ap (λ (k : ℕ). length (grouped trits H (a - 1)) + k) (length_group trits H p.paired (suc (a - 1)) ∙ ap (λ (k : ℕ). count_in k H) s) in
    rw e (record { first_is = refl; next_is = next; inside = grouped_le trits H p.paired (suc (a - 1)) })

pub node_counted : {image : List ℕ} {lay : Layout} {a : ℕ} → NodeIn image lay a → {g : Group} → g ≡ bounds (trits_of image) (shadows_of image) (a - 1)
    → Counted (trits_of image) (shadows_of image) a g
node_counted {image} {lay} {a} n e = group_counted (proper n.laid.whole) a n.low e
