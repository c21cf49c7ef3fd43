-- Section 2's entries in one walk beside the trits: the test of all twos is the test of those that are left. Assumes nothing.
use Prim.Native.Nat.{ℕ, suc, ◌+◌, ◌*◌, ◌≤◌, ◌<◌}
use native.Mathlib.Omega.{arith}
use native.Mathlib.Numerals.{add-one}
use mathlib.Core.Path.{◌≡◌, refl, sym, ap, ap₂, ◌∙◌}
use mathlib.Core.Bool.{Bool, true, false, ◌&&◌, cond}
use mathlib.Core.List.{List}
use lib.Dec.{eqb}
use lib.ListN.{length, get_or, drop, drop_of_length-le}
use lib.Seq.{drop-cons}
use borrow.Author.Tests.{eqb-true}
use Rattle.format.specs.Lists.{bit, every, cons_if, count_in}
use Rattle.format.specs.Trits.{rank}
use Rattle.format.specs.Image.{from_bytes, shadow_at, read}
use Rattle.format.specs.Table.{is_node}
use Rattle.format.specs.Proper.{shadows_seen}
use Rattle.format.proofs.Laws.{rank_zero, rank_le, rank_here, rank_count}
use Rattle.format.proofs.Digits.{gather_at}
use Rattle.format.proofs.Select.{places_from, places_from_lem}
use Rattle.proper.specs.SecondSays.{entry_right}
use Rattle.proper.proofs.FirstLaws.{rank_turn}

-- the 2 at place q is right; and so is each from place p on
abbrev right : List ℕ → List ℕ → ℕ → Bool
right trits hs q = is_node (rank 1 trits q) (shadow_at trits (from_bytes 2 hs) q)

abbrev rest : List ℕ → List ℕ → ℕ → Bool
rest trits hs p = every (right trits hs) (places_from p 2 (drop p trits))

pub record Seeing (trits hs : List ℕ) (p ones twos : ℕ) : Type 0 where
  pub inside : p ≤ length trits
  pub ones_are : ones ≡ rank 1 trits p
  pub twos_are : twos ≡ rank 2 trits p
  pub left : shadows_seen trits (from_bytes 2 hs) ≡ rest trits hs p

pub seeing_none : (trits hs : List ℕ) → Seeing trits hs 0 0 0
unfolding shadows_seen
seeing_none trits hs = record {
  inside = omega arith;
  ones_are = sym (rank_zero 1 trits);
  twos_are = sym (rank_zero 2 trits);
  left = ap (every (right trits hs)) (places_from_lem 2 trits);
}

module _ {trits hs : List ℕ} {p ones twos : ℕ} (s : Seeing trits hs p ones twos) where
  pub seeing_few : (ones ≤ p) × (twos ≤ p)
  seeing_few = (omega (arith, s.ones_are, rank_le 1 trits p), omega (arith, s.twos_are, rank_le 2 trits p))

  pub seeing_all : length trits ≤ p → shadows_seen trits (from_bytes 2 hs) ≡ true
  seeing_all h = s.left ∙ ap (λ (ys : List ℕ). every (right trits hs) (places_from p 2 ys)) (drop_of_length-le trits h)

  module _ (inside : p < length trits) (paired : length hs ≡ 2 * count_in 2 trits) {x : ℕ} (holds : get_or trits p 0 ≡ x) where
    -- a 2 has an entry
    pub seeing_entry : x ≡ 2 → twos < count_in 2 trits
    seeing_entry e = omega (arith, s.twos_are, rank_here 2 trits p inside (holds ∙ e), rank_count 2 trits (suc p))

    right_is : x ≡ 2 → right trits hs p ≡ is_node ones (read 2 (2 * twos) hs)
    unfolding shadow_at from_bytes
    right_is e = ap₂ is_node (sym s.ones_are) (ap (λ (j : ℕ). get_or (from_bytes 2 hs) j 0) (sym s.twos_are) ∙ gather_at 256 2 hs twos (omega (arith, seeing_entry e)))

    module _ {r : Bool} (test : r ≡ entry_right x ones (read 2 (2 * twos) hs)) where
      -- the test of this trit, and of those after it
      step : shadows_seen trits (from_bytes 2 hs) ≡ (r && rest trits hs (p + 1))
      step = rw (add-one, s.left, drop-cons trits p 0, holds, test) (go (eqb x 2) refl)
        where
          go : (b : Bool) → eqb x 2 ≡ b → every (right trits hs) (cons_if b p (places_from (suc p) 2 (drop (suc p) trits)))
              ≡ (cond b (is_node ones (read 2 (2 * twos) hs)) true && rest trits hs (suc p))
          go true e = ap (λ (b : Bool). b && rest trits hs (suc p)) (right_is (eqb-true x 2 e))
          go false e = refl

      pub seeing_wrong : r ≡ false → shadows_seen trits (from_bytes 2 hs) ≡ false
      seeing_wrong e = rw e at step

      pub seeing_more : r ≡ true → (o t : ℕ) → o ≡ bit (eqb x 1) → t ≡ bit (eqb x 2) → Seeing trits hs (p + 1) (ones + o) (twos + t)
      seeing_more e o t eo et = record {
        inside = omega arith;
        ones_are = rank_turn 1 trits p x ones o inside holds s.ones_are eo;
        twos_are = rank_turn 2 trits p x twos t inside holds s.twos_are et;
        left = rw e at step;
      }
