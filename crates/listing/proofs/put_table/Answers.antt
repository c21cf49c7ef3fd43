-- The buffers have room, so packing says what the table's text is. Assumes nothing.
use Rattle.std.proofs.Common.{◌≡◌, ◌≤◌, ℕ, arith, length, take, length-take}
use Rattle.std.proofs.lemmas.List.{length-replicate}
use Rattle.format.specs.Table.{read_table}
use Rattle.format.specs.Answers.{refusal_number}
use Rattle.format.specs.Listing.{refusal, table_text}
use Rattle.listing.proofs.TextLaws.{wrote_same}
use Rattle.listing.proofs.TableLaws.{refused_text, Packs, packs}
use Rattle.listing.proofs.put_table.Goals as goal
use Rattle.listing.proofs.put_table.Goals.{In-Err, In-Ok}

refused : (c : In-Err) → refusal (refusal_number c.in-Err.f) ≡ table_text (read_table c.args.table.now)
refused c =
    refused_text c.args.table.now c.requires.0 _ _ _
    (omega (arith, length-replicate {A = ℕ} 4000 0)) (omega (arith, length-replicate {A = ℕ} 12000 0)) (omega (arith, length-replicate {A = ℕ} 32768 0))
    c.in-Err.f c.in-Err.ensures

packed : (c : In-Ok) → let bytes = c.pack.new.image in
    (c.in-Ok.size ≤ length bytes) × Packs c.args.table.now (take c.in-Ok.size bytes)
packed c = packs c.args.table.now _ _ _ c.in-Ok.ensures

pub put_refusal-requires : goal.put_refusal-requires
put_refusal-requires c = rw (refused (goal.at.put_refusal-requires c).In-Err) c.requires.1

pub slice_bounds-image-end : goal.slice_bounds-image-end
slice_bounds-image-end c = (packed (goal.at.slice_bounds-image-end c).In-Ok).0

pub slice_bounds-put_listing-end : goal.slice_bounds-put_listing-end
slice_bounds-put_listing-end c = simp length-take (omega (arith, (packed (goal.at.slice_bounds-put_listing-end c).In-Ok).0))

pub put_listing-requires : goal.put_listing-requires
put_listing-requires c =
    let q = (packed (goal.at.put_listing-requires c).In-Ok).1 in
    (q.passes, rw q.text c.requires.1)

pub returns-in-Err-clause-wrote : goal.returns-in-Err-clause-wrote
returns-in-Err-clause-wrote c = wrote_same (refused (goal.at.returns-in-Err-clause-wrote c).In-Err) c.put_refusal.ensures.wrote

pub returns-in-Ok-clause-wrote : goal.returns-in-Ok-clause-wrote
returns-in-Ok-clause-wrote c = wrote_same (packed (goal.at.returns-in-Ok-clause-wrote c).In-Ok).1.text c.put_listing.ensures.wrote
