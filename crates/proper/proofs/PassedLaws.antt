-- Sections 1 and 2: what their faults make of the whole, and what is known once they have passed. Assumes nothing.
use Rattle.std.specs.Prelude.{Result, Ok, Err}
use Prim.Native.Nat.{ℕ, ◌*◌, ◌≤◌, ◌<◌}
use native.Mathlib.Omega.{arith}
use mathlib.Core.Path.{◌≡◌, sym, ap, ◌∙◌}
use mathlib.Core.Bool.{Bool, true, false}
use mathlib.Core.List.{List}
use lib.Dec.{lit<}
use lib.ListN.{length}
use Rattle.format.specs.Faults.{fault, ◌then◌}
use Rattle.format.specs.Lists.{count_in, up, Below}
use Rattle.format.specs.Trits.{untrytes}
use Rattle.format.specs.Image.{from_bytes, given}
use Rattle.format.specs.Proper.{bytes_low, padded, roots_first, balanced, grown, limits, shadows_seen, contents_of, rest_of, size1, trits_of, after1, contents_fault1, fault1, fault2, shadows_of, after2, check_given, check_image, ProperTrits}
use Rattle.format.specs.Answers.{refusal_number}
use Rattle.format.specs.declared.Refusal.{Refusal}
use Rattle.format.proofs.FaultLaws.{then_yes, then_no, then_zero, then_assoc, fault_zero}
use Rattle.format.proofs.Digits.{length_gather, up_mul}
use Rattle.format.proofs.CheckLaws.{bytes_from_bytes, length_untrytes, trits_untrytes, trytes_untrytes, section_missing}
use Rattle.format.proofs.Steps.{checker_gives}
use Rattle.format.proofs.OneToOne.{refusal_some}
use Rattle.samples.specs.Lent.{TritsIn}
use Rattle.trits.specs.declared.Layout.{Layout}
use Rattle.trits.specs.Layout.{layout_of, laying}
use Rattle.proper.specs.declared.first.Sizes.{Sizes}
use Rattle.proper.specs.FirstSays.{FirstSays}
use Rattle.proper.specs.Known.{Known}
use Rattle.proper.specs.Examined.{Examines, opens, Opened, shadows2, check2, FirstPassed}
use Rattle.proper.proofs.OpenLaws.{opens_then}

pub examines_as : {x y : ℕ} {u v : Layout} (r : Result Layout Refusal) → x ≡ y → u ≡ v → Examines x u r → Examines y v r
examines_as (Ok lay) e f h = (sym e ∙ h.0, h.1 ∙ f)
examines_as (Err c) e f h = sym e ∙ h

-- ---- section 1

module _ (b : List ℕ) where
  pub refused_1 : (f : Refusal) → fault1 b ≡ refusal_number f → check_image b ≡ refusal_number f
  refused_1 f e = (checker_gives b).first (omega (arith, e, refusal_some f)) ∙ e

  pub missing_1 : length b < 4 → fault1 b ≡ 21
  unfolding fault1
  missing_1 h = section_missing _ (size1 b) _ b h

  pub passed_1 : fault1 b ≡ 0 → check_image b ≡ check2 (trits_of b) (after1 b)
  unfolding check_image check2 shadows2 shadows_of after2
  passed_1 e = then_yes (fault1 b) _ e

  pub laid_out : layout_of b ≡ laying (trits_of b) (shadows2 (trits_of b) (after1 b))
  unfolding layout_of shadows2 shadows_of
  laid_out = λ i. layout_of b

pub first_passed_is : {bs : List ℕ} {l : ℕ} {z : Sizes} → 1 ≤ l → l ≤ 125536 → length bs ≡ up l 5 → FirstSays l bs (Ok z) → FirstPassed bs l z.nodes z.roots z.shadows
first_passed_is {bs} {l} some few full z =
    record {
      some = some;
      few = few;
      full = full;
      passed = z.0;
      sized = record { trits_are = length_untrytes l bs full; nodes_are = sym z.1; roots_are = sym z.2; twos_are = sym z.3 };
    }

module _ {bs : List ℕ} {l n c k : ℕ} (F : FirstPassed bs l n c k) where
  abbrev trits : List ℕ
  trits = untrytes l bs

  pub first_trits : TritsIn trits bs
  unfolding contents_fault1
  first_trits =
      let s1 = then_zero (fault 23 (bytes_low bs)) _ F.passed in
      let s2 = then_zero (fault 23 (padded l bs)) _ s1.1 in
      record {
        threes = trits_untrytes l bs;
        few = omega (arith, F.sized.trits_are, F.few);
        trytes_are = sym (trytes_untrytes l bs F.full (fault_zero 23 (bytes_low bs) (lit< tt) s1.0) (fault_zero 23 (padded l bs) (lit< tt) s2.0));
      }

  pub first_known : (hs : List ℕ) → Below 256 hs → length hs ≡ 2 * k → shadows_seen trits (from_bytes 2 hs) ≡ true → Known trits (from_bytes 2 hs) bs hs
  unfolding contents_fault1 limits from_bytes
  first_known hs low size seen =
      let s1 = then_zero (fault 23 (bytes_low bs)) _ F.passed in
      let s2 = then_zero (fault 23 (padded l bs)) _ s1.1 in
      let s3 = then_zero (fault 23 (roots_first trits)) _ s2.1 in
      let s4 = then_zero (fault 23 (balanced trits)) _ s3.1 in
      let s5 = then_zero (fault 23 (grown trits)) _ s4.1 in
      let long = F.sized.trits_are in
      let p : ProperTrits trits (from_bytes 2 hs) = record {
        threes = trits_untrytes l bs;
        length_low = omega (arith, long, F.some);
        length_high = omega (arith, long, F.few);
        roots_are_first = fault_zero 23 (roots_first trits) (lit< tt) s3.0;
        is_balanced = fault_zero 23 (balanced trits) (lit< tt) s4.0;
        is_grown = fault_zero 23 (grown trits) (lit< tt) s5.0;
        in_limits = fault_zero 22 (limits trits) (lit< tt) s5.1;
        paired = length_gather 256 2 hs ∙ ap (λ (x : ℕ). up x 2) size ∙ up_mul 2 k (lit< tt) ∙ sym F.sized.twos_are;
        seen = seen;
      } in
      record {
        shadowed = record {
          proper = p;
          shadows_are = sym (bytes_from_bytes 2 hs k (lit< tt) low size);
        };
        trits_in = first_trits;
      }

-- ---- section 2

module _ (trits b : List ℕ) {k : ℕ} (e : count_in 2 trits ≡ k) where
  second_is : check2 trits b ≡ (opens 24 k (2 * k) b then fault 24 (shadows_seen trits (from_bytes 2 (contents_of (2 * k) b)))
      then check_given (given trits (from_bytes 2 (contents_of (2 * k) b))) (rest_of (2 * k) b))
  unfolding check2 fault2 shadows2
  second_is =
      (λ i. opens_then 24 (count_in 2 trits) (2 * count_in 2 trits) b (fault 24 (shadows_seen trits (from_bytes 2 (contents_of (2 * count_in 2 trits) b)))) i
      then check_given (given trits (from_bytes 2 (contents_of (2 * count_in 2 trits) b))) (rest_of (2 * count_in 2 trits) b))
      ∙ then_assoc (opens 24 (count_in 2 trits) (2 * count_in 2 trits) b) _ _
      ∙ ap (λ (x : ℕ). opens 24 x (2 * x) b then fault 24 (shadows_seen trits (from_bytes 2 (contents_of (2 * x) b)))
      then check_given (given trits (from_bytes 2 (contents_of (2 * x) b))) (rest_of (2 * x) b)) e

  pub second_refused : (f : Refusal) → refusal_number f ≡ opens 24 k (2 * k) b → check2 trits b ≡ refusal_number f
  second_refused f h = second_is ∙ then_no (opens 24 k (2 * k) b) _ (omega (arith, h, refusal_some f)) ∙ sym h

  -- its front is open
  module _ {hs rest : List ℕ} (O : Opened 24 k (2 * k) b hs rest) where
    pub second_shadows : shadows2 trits b ≡ from_bytes 2 hs
    unfolding shadows2
    second_shadows = (λ i. from_bytes 2 (contents_of (2 * e i) b)) ∙ ap (from_bytes 2) (sym O.cut.part_is)

    second_open : check2 trits b ≡ (fault 24 (shadows_seen trits (from_bytes 2 hs)) then check_given (given trits (from_bytes 2 hs)) rest)
    second_open = rw (O.cut.part_is, O.cut.rest_is) (second_is ∙ then_yes (opens 24 k (2 * k) b) _ (sym O.front))

    module _ {t : Bool} (et : t ≡ shadows_seen trits (from_bytes 2 hs)) where
      pub second_wrong : t ≡ false → check2 trits b ≡ 24
      second_wrong w = second_open ∙ ap (λ (t : Bool). fault 24 t then check_given (given trits (from_bytes 2 hs)) rest) (sym et ∙ w)

      pub second_passed : t ≡ true → check2 trits b ≡ check_given (given trits (from_bytes 2 hs)) rest
      second_passed w = second_open ∙ ap (λ (t : Bool). fault 24 t then check_given (given trits (from_bytes 2 hs)) rest) (sym et ∙ w)
