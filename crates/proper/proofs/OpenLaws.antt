-- A section at the front of the bytes that are left: first its count and its room, then its contents, then what follows it. Assumes nothing.
use Prim.Native.Nat.{ℕ, ◌+◌, ◌≤◌, ◌<◌}
use native.Mathlib.Omega.{arith}
use mathlib.Core.Path.{◌≡◌, refl, sym, ap, ◌∙◌}
use mathlib.Core.Bool.{Bool, true, false, ◌&&◌}
use mathlib.Core.List.{List, [], ◌∷◌}
use lib.Dec.{eqb, leb, lit<}
use lib.ListN.{length, drop, length-drop}
use borrow.Author.Tests.{eqb-true, eq-eqb, leb-true}
use Rattle.format.specs.Faults.{fault, ◌then◌}
use Rattle.format.specs.Lists.{same}
use Rattle.format.specs.Image.{Section}
use Rattle.format.specs.Proper.{count_of, contents_of, rest_of, section_fault, given_fault, check_given, SectionGives}
use Rattle.format.specs.Answers.{refusal_number}
use Rattle.format.specs.declared.Refusal.{Refusal}
use Rattle.format.proofs.FaultLaws.{then_yes, then_no, then_zero, then_assoc, then_none, fault_yes, fault_no, fault_zero}
use Rattle.format.proofs.CheckLaws.{section_gives}
use Rattle.format.proofs.OneToOne.{refusal_some}
use Rattle.proper.specs.Examined.{opens, Opened}

module _ (code entries size : ℕ) (b : List ℕ) where
  -- what the front gives, fault by fault
  pub opens_gives : 0 < code → SectionGives (opens code entries size b) b (count_of b ≡ entries) code size 0
  unfolding opens
  opens_gives p = section_gives _ size 0 b (count_of b ≡ entries) code p (λ r. fault_yes code _ (eq-eqb (count_of b) entries r)) (λ r. fault_no code _ (λ e. r (eqb-true (count_of b) entries e)))

  -- an open section has room for its contents
  pub opens_room : opens code entries size b ≡ 0 → 4 + size ≤ length b
  unfolding opens section_fault
  opens_room e =
      let r : ℕ = fault 21 (leb size (length (drop 4 b))) in
      let s1 = then_zero (fault 21 (leb 4 (length b))) (fault code (eqb (count_of b) entries) then r then 0) e in
      let s3 = then_zero r 0 (then_zero (fault code (eqb (count_of b) entries)) (r then 0) s1.1).1 in
      omega (
        arith,
        leb-true 4 (length b) (fault_zero 21 (leb 4 (length b)) (lit< tt) s1.0),
        leb-true size (length (drop 4 b)) (fault_zero 21 (leb size (length (drop 4 b))) (lit< tt) s3.0),
        length-drop 4 b,
      )

  -- the front, then the contents
  pub opens_then : (ct : ℕ) → section_fault (fault code (eqb (count_of b) entries)) size ct b ≡ (opens code entries size b then ct)
  unfolding opens section_fault
  opens_then ct =
      let a : ℕ = fault 21 (leb 4 (length b)) in
      let d : ℕ = fault code (eqb (count_of b) entries) in
      let e : ℕ = fault 21 (leb size (length (drop 4 b))) in
      ap (λ (x : ℕ). a then d then x then ct) (sym (then_none e))
      ∙ ap (λ (x : ℕ). a then x) (sym (then_assoc d (e then 0) ct))
      ∙ sym (then_assoc a (d then e then 0) ct)

-- one of sections 3 to 9, by the count and the size that code has for it
pub record Front (s : Section) (entries size : ℕ) : Type 0 where
  pub counts : s.entries ≡ entries
  pub fills : length s.contents ≡ size

module _ {s : Section} {entries size : ℕ} (F : Front s entries size) (b : List ℕ) where
  given_is : given_fault s b ≡ (opens 25 entries size b then fault 25 (same (contents_of size b) s.contents))
  unfolding given_fault
  given_is = rw (← F.counts, ← F.fills) (opens_then 25 s.entries (length s.contents) b _)

  pub given_room : 0 ≡ given_fault s b → 4 + size ≤ length b
  given_room e =
      opens_room 25 entries size b (then_zero (opens 25 entries size b) (fault 25 (same (contents_of size b) s.contents)) (sym given_is ∙ sym e)).0

  -- a fault at the front
  pub given_refused : (f : Refusal) → refusal_number f ≡ opens 25 entries size b → refusal_number f ≡ given_fault s b
  given_refused f e = e ∙ sym (given_is ∙ then_no _ _ (omega (arith, e, refusal_some f)))

  -- the contents, where the front is open
  pub given_right : (t : Bool) → 0 ≡ opens 25 entries size b → t ≡ same (contents_of size b) s.contents → fault 25 t ≡ given_fault s b
  given_right t e r = sym (given_is ∙ then_yes _ _ (sym e) ∙ ap (fault 25) (sym r))

-- a section, and those behind it
module _ (s : Section) (ss : List Section) (b : List ℕ) where
  pub first_refused : (f : Refusal) → refusal_number f ≡ given_fault s b → refusal_number f ≡ check_given (s ∷ ss) b
  unfolding check_given
  first_refused f e = e ∙ sym (then_no (given_fault s b) _ (omega (arith, e, refusal_some f)))

  pub first_passed : {size : ℕ} → length s.contents ≡ size → 0 ≡ given_fault s b → (x : ℕ) → x ≡ check_given ss (rest_of size b) → x ≡ check_given (s ∷ ss) b
  unfolding check_given
  first_passed z e x n = n ∙ sym (then_yes (given_fault s b) _ (sym e) ∙ ap (λ (k : ℕ). check_given ss (rest_of k b)) z)

-- two tests with one fault are one
fault_both : (a b : Bool) (x : ℕ) → (fault 25 (a && b) then x) ≡ (fault 25 a then fault 25 b then x)
fault_both true b x = sym (then_yes 0 (fault 25 b then x) refl)
fault_both false b x = then_no 25 x (lit< tt) ∙ sym (then_no 25 (fault 25 b then x) (lit< tt))

-- nothing follows the last one
pub end_passed : (b : List ℕ) → length b ≡ 0 → 0 ≡ check_given [] b
unfolding check_given
end_passed b e = sym (fault_yes 26 _ (eq-eqb (length b) 0 e))

pub end_wrong : (b : List ℕ) → (length b ≡ 0 → ⊥) → 26 ≡ check_given [] b
unfolding check_given
end_wrong b n = sym (fault_no 26 _ (λ e. n (eqb-true (length b) 0 e)))

-- a section at the front of b, and those behind it
module _ {s : Section} {entries size : ℕ} (F : Front s entries size) (ss : List Section) (b : List ℕ) where
  -- its front has a fault
  pub front_refused : (f : Refusal) → refusal_number f ≡ opens 25 entries size b → refusal_number f ≡ check_given (s ∷ ss) b
  front_refused f e = first_refused s ss b f (given_refused F b f e)

  module _ {part rest : List ℕ} (O : Opened 25 entries size b part rest) where
    -- where its front is open: its contents, then those behind it
    pub first_open : (fault 25 (same part s.contents) then check_given ss rest) ≡ check_given (s ∷ ss) b
    unfolding check_given
    first_open = rw (given_is F b, then_yes _ _ (sym O.front), F.fills, O.cut.part_is, O.cut.rest_is)

    module _ {t : Bool} (et : t ≡ same part s.contents) where
      pub contents_wrong : t ≡ false → 25 ≡ check_given (s ∷ ss) b
      contents_wrong e = ap (λ (x : Bool). fault 25 x then check_given ss rest) (sym e ∙ et) ∙ first_open

      pub contents_passed : t ≡ true → check_given ss rest ≡ check_given (s ∷ ss) b
      contents_passed e = sym (then_yes 0 _ refl) ∙ ap (λ (x : Bool). fault 25 x then check_given ss rest) (sym e ∙ et) ∙ first_open

    -- a test before it, which has the same fault, and its contents together
    pub both_open : (a t : Bool) → t ≡ (a && same part s.contents) → (fault 25 t then check_given ss rest) ≡ (fault 25 a then check_given (s ∷ ss) b)
    both_open a t et =
        ap (λ (x : Bool). fault 25 x then check_given ss rest) et ∙ fault_both a (same part s.contents) _
        ∙ ap (λ (x : ℕ). fault 25 a then x) first_open
