-- A contract stated by an outcome allows exactly one answer and one content of every buffer and record: each outcome has a case, and the numbers of the
-- cases are one-to-one. Assumes nothing.
use Prim.Native.Nat.{ℕ}
use mathlib.Core.Path.{◌≡◌, refl, sym, ◌∙◌}
use mathlib.Core.List.{List}
use mathlib.Core.Option.{Option, none, some}
use Rattle.std.specs.Prelude.{Result, Option as Maybe, Some, None}
use Rattle.format.specs.Lists.{Below}
use Rattle.format.specs.Trits.{select}
use Rattle.format.specs.Packing.{PackOutcome, pack_leaves, pack_outcome}
use Rattle.format.specs.Proper.{check_image, trits_of, shadows_of}
use Rattle.format.specs.Question.{answer}
use Rattle.format.specs.Unpack.{UnpackOutcome, unpack_leaves, unpack_outcome}
use Rattle.format.specs.Batch.{BatchOutcome, batch_leaves, batch_outcome}
use Rattle.format.specs.Answers.{checked_number, answer_numbers, found_place, ExactlyOne}
use Rattle.format.specs.declared.Answer.{Answer}
use Rattle.format.specs.declared.Refusal.{Refusal}
use Rattle.format.specs.declared.Tally.{Tally}
use Rattle.format.specs.Listing.{listing_outcome, listing_leaves, ListingOutcome}
use Rattle.format.proofs.Answered.{packing_answers, checking_answers, unpacking_answers, batching_answers}
use Rattle.format.proofs.Ranges.{fair}
use Rattle.format.proofs.OneToOne.{packed_one, checked_one, unpacked_one, asked_one, answer_one, found_one}
use Rattle.format.proofs.CheckLaws.{image_passed}

pub packing : (table order work image : List ℕ)
    → ExactlyOne (λ (x : Result ℕ Refusal × List ℕ × List ℕ × List ℕ). pack_outcome table order work image ≡ pack_leaves x.0 x.1 x.2 x.3)
packing table order work image =
    let o : PackOutcome = pack_outcome table order work image in
    let r = packing_answers table order work image in (
      (r.0, o.order, o.work, o.image),
      (λ i. record { returned = sym r.1 i; order = o.order; work = o.work; image = o.image }),
      (λ y e. λ i. (packed_one r.0 y.0 (r.1 ∙ (λ j. (e j).returned)) i, (e i).order, (e i).work, (e i).image)),
    )

pub checking : (image : List ℕ) → ExactlyOne (λ (r : Result (Unit {0}) Refusal). checked_number r ≡ check_image image)
checking image = let r = checking_answers image in (r.0, r.1, λ y e. checked_one r.0 y (r.1 ∙ sym e))

pub unpacking : (image table : List ℕ) → ExactlyOne (λ (x : Result ℕ Refusal × List ℕ). unpack_outcome image table ≡ unpack_leaves x.0 x.1)
unpacking image table =
    let o : UnpackOutcome = unpack_outcome image table in
    let r = unpacking_answers image table in (
      (r.0, o.table),
      (λ i. record { returned = sym r.1 i; table = o.table }),
      (λ y e. λ i. (unpacked_one r.0 y.0 (r.1 ∙ (λ j. (e j).returned)) i, (e i).table)),
    )

pub batching : (image questions buffer : List ℕ) (t : Tally)
    → ExactlyOne (λ (x : Result (Unit {0}) Refusal × List ℕ × Tally). batch_outcome image questions buffer t ≡ batch_leaves x.0 x.1 x.2)
batching image questions buffer t =
    let o : BatchOutcome = batch_outcome image questions buffer t in
    let r = batching_answers image questions buffer t in (
      (r.0, o.words, o.tally),
      (λ i. record { code = sym r.1 i; words = o.words; tally = o.tally }),
      (λ y e. λ i. (asked_one r.0 y.0 (r.1 ∙ (λ j. (e j).code)) i, (e i).words, (e i).tally)),
    )

pub answering : (image : List ℕ) → Below 256 image → check_image image ≡ 0 → (kind a b : ℕ)
    → ExactlyOne (λ (r : Result Answer Refusal). answer_numbers r ≡ answer (trits_of image) (shadows_of image) kind a b)
answering image low e kind a b =
    let r = (fair (trits_of image) (shadows_of image) (image_passed image low e).proper kind a b).has in
    (r.0, r.1, λ y f. answer_one r.0 y (r.1 ∙ sym f))

pub selecting : (trits : List ℕ) (t j : ℕ) → ExactlyOne (λ (r : Maybe ℕ). found_place r ≡ select t trits j)
selecting trits t j = let r = found_of (select t trits j) in (r.0, r.1, λ y f. found_one r.0 y (r.1 ∙ sym f))
  where
    found_of : (o : Option ℕ) → (r : Maybe ℕ) × (found_place r ≡ o)
    found_of none = (None, refl)
    found_of (some p) = (Some p, refl)

pub listing : (input buffer : List ℕ) → ExactlyOne (λ (x : ℕ × List ℕ). listing_outcome input buffer ≡ listing_leaves x.0 x.1)
listing input buffer =
    let o : ListingOutcome = listing_outcome input buffer in ((o.size, o.buffer), refl, (λ y e. λ i. ((e i).size, (e i).buffer)))
