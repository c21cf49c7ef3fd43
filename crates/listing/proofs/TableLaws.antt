-- A table out of the bytes of the input, what packing it says, and the outcome. Assumes nothing.
use Prim.Native.Nat.{ℕ, ◌+◌, ◌*◌, ◌/◌, ◌%◌, ◌≤◌, ◌<◌}
use native.Mathlib.Nat.{zero-add}
use native.Mathlib.Omega.{arith}
use mathlib.Core.Path.{◌≡◌, refl, sym, ap, ◌∙◌, subst}
use mathlib.Core.Bool.{Bool, true, false, ◌&&◌, cond}
use mathlib.Core.List.{List, ◌++◌}
use lib.Dec.{T, eqb, leb}
use borrow.Author.Tests.{eqb-true, leb-true}
use lib.ListN.{length, get_or, take, drop, length-append}
use lib.Seq.{take-append_seam}
use Rattle.format.specs.Lists.{one_to, over}
use Rattle.format.specs.Table.{Graph, nodes, edges, Read, faulty, graph, read_table}
use Rattle.format.specs.Level.{walk, reached}
use Rattle.format.specs.Image.{from_bytes, node_count, marked_nodes, marked, read}
use Rattle.format.specs.Proper.{check_image, trits_of, shadows_of}
use Rattle.format.specs.Answers.{refusal_number}
use Rattle.format.specs.Packing.{image_of, Accepted, PackOutcome, pack_outcome, pack_leaves}
use Rattle.format.specs.Listing.{listing, refusal, table_text, listing_text, ListingOutcome, listing_outcome, listing_leaves}
use Rattle.format.specs.declared.Refusal.{Refusal}
use Rattle.std.specs.Prelude.{Ok, Err}
use Rattle.format.proofs.Digits.{length_gather, gather_at}
use Rattle.format.proofs.Outcomes.{length_words, pack_faulty, pack_8, pack_room, pack_accepted, true_of}
use Rattle.format.proofs.OneToOne.{refusal_some}
use Rattle.format.proofs.Reading.{words_read}
use Rattle.format.proofs.CheckLaws.{shadow_nodes}
use Rattle.format.proofs.Accepting.{packable, proper_table}
use Rattle.format.proofs.Order.{counts}
use Rattle.format.proofs.Sizes.{image_length, length_image}
use Rattle.format.proofs.Laws.{both_true, length_keep, length_run}
use Rattle.format.proofs.Listed.{text_few}
use Rattle.format.proofs.Promises.{checker_passes, trits_back}
use Rattle.listing.specs.Wrote.{Room, Wrote}

-- ---- words of two bytes

module _ (input : List ℕ) (even : length input % 2 ≡ 0) where
  pub words_many : length (from_bytes 2 input) ≡ length input / 2
  unfolding from_bytes
  words_many = omega (arith, length_gather 256 2 input)

  pub word_at_lem : (i : ℕ) → i < length input / 2 → read 2 (2 * i) input ≡ get_or (from_bytes 2 input) i 0
  unfolding from_bytes
  word_at_lem i h = sym (gather_at 256 2 input i (omega arith))

-- the bytes are whole words, and not too many; if not, 61
module _ (input : List ℕ) {fits : Bool} (e : fits ≡ (eqb (length input % 2) 0 && leb (length input) 8000)) where
  pub fitting : fits ≡ true → (length input % 2 ≡ 0) × (length input ≤ 8000)
  fitting h =
      let b = both_true (eqb (length input % 2) 0) (leb (length input) 8000) (sym e ∙ h) in
      (eqb-true (length input % 2) 0 b.0, leb-true (length input) 8000 b.1)

  pub text_wrong : fits ≡ false → listing_text input ≡ refusal 61
  unfolding listing_text
  text_wrong h = rw (sym e ∙ h)

-- what was written over the front of a buffer
pub front_is : (xs old : List ℕ) {k : ℕ} {l : List ℕ} → k ≡ length xs → l ≡ over xs old → take k l ≡ xs
front_is xs old e w = rw (e, w) (take-append_seam xs (drop (length xs) old))

-- ---- what packing a table of at most 4,000 words says

module _ (table : List ℕ) (few : length table ≤ 4000) where
  -- n, m and c are at most 3,998 together
  sizes_few : (g : Graph) → read_table table ≡ graph g → 2 + nodes g + edges g + length g.roots ≤ 4000
  sizes_few g e = omega (arith, ap length (words_read table g e).0, length_words g)

  image_few : (g : Graph) → Accepted table g → length (image_of g) ≤ 32768
  unfolding image_of image_length marked_nodes node_count
  image_few g a =
      let p = proper_table table g a in
      let ts : List ℕ = (walk g).trits in
      let hs : List ℕ = (walk g).shadows in
      let c = counts g (packable table g a) in
      omega (
        arith,
        length_image ts hs p.paired (shadow_nodes ts hs p.paired p.seen),
        c.size,
        c.ones,
        c.twos,
        c.shadows,
        sizes_few g a.read,
        length_keep (marked hs) (one_to (node_count ts)),
        length_run 1 (node_count ts),
      )

  module _ (order work buffer : List ℕ) (order_room : 4000 ≤ length order) (work_room : 12000 ≤ length work) (image_room : 32768 ≤ length buffer) where
    pub refused_text : (f : Refusal) {order' work' buffer' : List ℕ} → pack_outcome table order work buffer ≡ pack_leaves (Err f) order' work' buffer'
        → refusal (refusal_number f) ≡ table_text (read_table table)
    unfolding table_text
    refused_text f e = go (read_table table) refl
      where
        told : {p : PackOutcome} → pack_outcome table order work buffer ≡ p → refusal_number f ≡ p.returned.code
        told q = ap (λ (x : PackOutcome). x.returned.code) (sym e ∙ q)

        settled : (g : Graph) → read_table table ≡ graph g → (c : Bool) → reached g ≡ c
            → refusal (refusal_number f) ≡ cond c (listing (walk g).trits (walk g).shadows) (refusal 8)
        settled g q false h = ap refusal (told (pack_8 table order work buffer g q (omega (arith, sizes_few g q)) (omega (arith, sizes_few g q)) h))
        settled g q true h =
            let a : Accepted table g = record { read = q; reaches = subst T (sym h) tt } in
            absurd (omega (
              arith,
              refusal_some f,
              told (pack_accepted table order work buffer g a (omega (arith, sizes_few g q)) (omega (arith, sizes_few g q)) (omega (arith, image_few g a))),
            ))

        go : (r : Read) → read_table table ≡ r → refusal (refusal_number f) ≡ table_text r
        go (faulty k) q = ap refusal (told (pack_faulty table order work buffer k q))
        go (graph g) q = settled g q (reached g) refl

-- the bytes that packing wrote: an accepted image, and the table's text is its listing
pub record Packs (table bytes : List ℕ) : Type 0 where
  pub passes : check_image bytes ≡ 0
  pub text : listing (trits_of bytes) (shadows_of bytes) ≡ table_text (read_table table)

wrote_image : (table : List ℕ) (g : Graph) → Accepted table g → (buffer : List ℕ) {buffer' : List ℕ} {size : ℕ} → length (image_of g) ≡ size → over (image_of g) buffer ≡ buffer'
    → (size ≤ length buffer') × Packs table (take size buffer')
unfolding table_text
wrote_image table g a buffer {buffer'} {size} s w =
    let rest : List ℕ = drop (length (image_of g)) buffer in
    let t : take size buffer' ≡ image_of g = rw (← s, ← w) (take-append_seam (image_of g) rest) in (
      omega (arith, s, ap length w, length-append (image_of g) rest),
      rw t (record {
        passes = checker_passes table g a;
        text = rw ((trits_back table g a).0, (trits_back table g a).1, a.read, true_of (reached g) a.reaches);
      }),
    )

pub packs : (table order work buffer : List ℕ) {order' work' buffer' : List ℕ} {size : ℕ} → pack_outcome table order work buffer ≡ pack_leaves (Ok size) order' work' buffer'
    → (size ≤ length buffer') × Packs table (take size buffer')
packs table order work buffer e =
    let r = pack_room table order work buffer (ap (λ (x : PackOutcome). x.returned.code) e) in
    let q = sym (pack_accepted table order work buffer r.of r.is r.work_room r.order_room r.image_room) ∙ e in
    wrote_image table r.of r.is buffer (ap (λ (x : PackOutcome). x.returned.value) q) (ap (λ (x : PackOutcome). x.image) q)

-- ---- the outcome

module _ (input : List ℕ) {text word : List ℕ} (e : listing_text input ≡ word) where
  pub text_room : 100000 ≤ length text → Room text 0 word
  text_room h = record { fits = omega (arith, text_few input, ap length e) }

  pub text_outcome : {size : ℕ} {now : List ℕ} → Wrote text 0 word size now → listing_outcome input text ≡ listing_leaves size now
  unfolding listing_outcome
  text_outcome w =
      let s = ap length e ∙ sym (w.ends ∙ zero-add (length word)) in
      let b = ap (λ (l : List ℕ). over l text) e ∙ sym (w.are ∙ ap (λ (k : ℕ). word ++ drop k text) (zero-add (length word))) in
      λ i. record { size = s i; buffer = b i }

-- the text lies within the buffer
pub text_inside : (input text : List ℕ) {size : ℕ} {now : List ℕ} → listing_outcome input text ≡ listing_leaves size now → size ≤ length now
unfolding listing_outcome
text_inside input text e =
    omega (
      arith,
      ap (λ (o : ListingOutcome). o.size) e,
      ap (λ (o : ListingOutcome). length o.buffer) e,
      length-append (listing_text input) (drop (length (listing_text input)) text),
    )
