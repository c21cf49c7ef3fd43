-- 61, or the text of the table that the bytes hold. Assumes nothing.
use Rattle.std.proofs.Common.{arith, true, List, ℕ, replicate, ◌≡◌, ◌/◌, sym, ap, ◌∙◌, length, take, length-take}
use Rattle.format.specs.Lists.{over}
use Rattle.format.specs.Image.{from_bytes}
use Rattle.format.specs.Table.{read_table}
use Rattle.format.specs.Listing.{table_text, listing_text}
use Rattle.format.proofs.ListingLaws.{listing_table}
use Rattle.listing.proofs.TableLaws.{words_many, fitting, text_wrong, front_is, text_room, text_outcome}
use Rattle.listing.proofs.listing.Goals as goal
use Rattle.listing.proofs.listing.Goals.{After-words_fit, then-words_fit, else-words_fit}

-- the words that were read are the table
read : (c : After-words_fit) → c.words_fit.result ≡ true → {words : List ℕ} → words ≡ over (from_bytes 2 c.args.input.now) (replicate 4000 0)
    → listing_text c.args.input.now ≡ table_text (read_table (take (length c.args.input.now / 2) words))
read c h w =
    let input = c.args.input.now in let f = fitting input c.words_fit.ensures h in
    listing_table input f.0 f.1 ∙ ap (λ t. table_text (read_table t)) (sym (front_is _ _ (sym (words_many input f.0)) w))

pub put_refusal-requires : goal.put_refusal-requires
put_refusal-requires c = text_room c.args.input.now (text_wrong c.args.input.now c.words_fit.ensures c.if-words_fit.false) (omega arith)

pub put_table-requires : goal.put_table-requires
put_table-requires c = (
  simp length-take (omega (arith, fitting c.args.input.now c.words_fit.ensures c.if-words_fit.true)),
  text_room _ (read (goal.at.put_table-requires c).After-words_fit c.if-words_fit.true c.read_words.ensures) (omega arith),
)

pub returns : goal.returns
returns c = elim c.if-words_fit.branch [
  | then-words_fit w ↦ rw w.out-is (text_outcome _ (read (goal.at.returns c).After-words_fit w.if-words_fit.true w.read_words.ensures) w.put_table.ensures.wrote)
  | else-words_fit w ↦ rw w.out-is (text_outcome c.args.input.now (text_wrong c.args.input.now c.words_fit.ensures w.if-words_fit.false) w.put_refusal.ensures.wrote)
]
