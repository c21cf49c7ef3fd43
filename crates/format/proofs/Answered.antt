-- Each outcome has an answer: every number that an outcome gives is that of a case. Assumes nothing.
use Prim.Native.Nat.{ℕ, zero, suc, ◌+◌, ◌-◌, ◌≤◌, ◌<◌}
use native.Mathlib.Omega.{arith}
use mathlib.Core.Path.{◌≡◌, refl, sym, ap, subst}
use mathlib.Core.Logic.{◌⊎◌, inl, inr}
use mathlib.Core.Bool.{Bool, true}
use mathlib.Core.List.{List}
use lib.Dec.{eqb, leb, lit≤}
use lib.ListN.{length}
use Rattle.std.specs.Prelude.{Result, Ok, Err}
use borrow.Author.Tests.{eqb-true}
use Rattle.format.specs.Lists.{run, every}
use Rattle.format.specs.Table.{words}
use Rattle.format.specs.Faults.{fault}
use Rattle.format.specs.Proper.{check_image, trits_of, shadows_of, ImageCode}
use Rattle.format.specs.Unpack.{unpack, unpack_settled, unpack_outcome}
use Rattle.format.specs.Batch.{batch_outcome}
use Rattle.format.specs.Packing.{image_of, pack_outcome}
use Rattle.format.specs.Answers.{stops, refusal_number, packed_numbers, checked_number, unpacked_numbers, asked_number}
use Rattle.format.specs.declared.Refusal.{Refusal}
use Rattle.format.specs.declared.Tally.{Tally}
use Rattle.format.proofs.Laws.{every_run}
use Rattle.format.proofs.Steps.{image_code}
use Rattle.format.proofs.Outcomes.{pack_cases}
use Rattle.format.proofs.OneToOne.{refusal_of}
use Rattle.format.proofs.FaultLaws.{then_in, fault_in}
use Rattle.format.proofs.Ranges.{BatchCode, batch_codes}

-- the number has a case
abbrev Has : ℕ → Type 0
Has x = refusal_number (refusal_of x) ≡ x

has : ℕ → Bool
has x = eqb (refusal_number (refusal_of x)) x

-- every number from a to a + n - 1 has one, by computing
all_have : (a n : ℕ) → every has (run a n) ≡ true → (x : ℕ) → a ≤ x → x < a + n → Has x
unfolding has
all_have a n e x l u =
    let k : a + (x - a) ≡ x = omega arith in
    eqb-true (refusal_number (refusal_of x)) x (subst (λ (y : ℕ). has y ≡ true) k (every_run has a n e (x - a) (omega arith)))

table_has : (x : ℕ) → 1 ≤ x → x ≤ 9 → Has x
unfolding has refusal_of
table_has x l u = all_have 1 9 refl x l (omega arith)

image_has : (x : ℕ) → 21 ≤ x → x ≤ 26 → Has x
unfolding has refusal_of
image_has x l u = all_have 21 6 refl x l (omega arith)

batch_has : (x : ℕ) → 41 ≤ x → x ≤ 43 → Has x
unfolding has refusal_of
batch_has x l u = all_have 41 3 refl x l (omega arith)

-- ---- packing

pub packing_answers : (table order work buffer : List ℕ) → (r : Result ℕ Refusal) × (packed_numbers r ≡ (pack_outcome table order work buffer).returned)
packing_answers table order work buffer =
    pack_cases table order work buffer (λ o. (r : Result ℕ Refusal) × (packed_numbers r ≡ o.returned))
    (λ f e l u. stop f l (omega arith)) (λ g e. stop 7 (lit≤ tt) (lit≤ tt)) (λ g e w. stop 8 (lit≤ tt) (lit≤ tt)) (λ g e w. stop 9 (lit≤ tt) (lit≤ tt))
    (λ r. (Ok (length (image_of r.of)), refl))
  where
    stop : (x : ℕ) → 1 ≤ x → x ≤ 9 → (r : Result ℕ Refusal) × (packed_numbers r ≡ stops x)
    stop x l u = (Err (refusal_of x), ap stops (table_has x l u))

-- ---- checking

pub checking_answers : (image : List ℕ) → (r : Result (Unit {0}) Refusal) × (checked_number r ≡ check_image image)
checking_answers image = go (image_code image)
  where
    go : ImageCode (check_image image) → (r : Result (Unit {0}) Refusal) × (checked_number r ≡ check_image image)
    go (inl e) = (Ok tt, sym e)
    go (inr h) = (Err (refusal_of (check_image image)), image_has (check_image image) h.0 h.1)

-- ---- unpacking and batches: a refusal's number has a case

-- 0, or a number that has a case
abbrev Known : ℕ → Type 0
Known x = (x ≡ 0) ⊎ Has x

image_known : (image : List ℕ) → Known (check_image image)
image_known image = go (image_code image)
  where
    go : ImageCode (check_image image) → Known (check_image image)
    go (inl e) = inl e
    go (inr h) = inr (image_has (check_image image) h.0 h.1)

pub unpacking_answers : (image buffer : List ℕ) → (r : Result ℕ Refusal) × (unpacked_numbers r ≡ (unpack_outcome image buffer).returned)
unfolding unpack_outcome refusal_of
unpacking_answers image buffer =
    let ws : List ℕ = words (unpack (trits_of image) (shadows_of image)) in
    go ws _ (then_in Known (check_image image) (fault 51 (leb (length ws) (length buffer))) (image_known image) (fault_in Known (inl refl) 51 (leb (length ws) (length buffer)) (inr refl)))
  where
    go : (ws : List ℕ) (x : ℕ) → Known x → (r : Result ℕ Refusal) × (unpacked_numbers r ≡ (unpack_settled x ws buffer).returned)
    go ws zero h = (Ok (length ws), refl)
    go ws (suc x) (inl e) = absurd (omega arith)
    go ws (suc x) (inr h) = (Err (refusal_of (suc x)), ap stops h)

pub batching_answers : (image questions buffer : List ℕ) (t : Tally) → (r : Result (Unit {0}) Refusal) × (asked_number r ≡ (batch_outcome image questions buffer t).code)
batching_answers image questions buffer t = go (batch_outcome image questions buffer t).code (batch_codes image questions buffer t)
  where
    go : (x : ℕ) → BatchCode x → (r : Result (Unit {0}) Refusal) × (asked_number r ≡ x)
    go x (inl (inl e)) = (Ok tt, sym e)
    go x (inl (inr h)) = (Err (refusal_of x), image_has x h.0 h.1)
    go x (inr h) = (Err (refusal_of x), batch_has x h.0 h.1)
