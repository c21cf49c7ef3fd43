-- The rank of a trit before a place up to L.
use Rattle.std.proofs.Common.{sym, ap, ◌∙◌, [], arith}
use Rattle.format.specs.Proper.{trits_of}
use Rattle.format.specs.Question.{plain, answer}
use Rattle.format.proofs.Laws.{rank_count, count_le}
use Rattle.format.proofs.Replies.{rank_reply, rank_32, rank_33}
use Rattle.format.proofs.OnImage.{proper}
use Rattle.trits.proofs.Trytes.{trits_is}
use Rattle.asking.proofs.question.ranked.Goals as goal

pub returns-then-a-gt2 : goal.returns-then-a-gt2
unfolding answer
returns-then-a-gt2 c = sym (rank_32 (trits_of c.args.image.now.bytes.now) [] c.args.a c.args.b (omega arith))

pub returns-then-image-b : goal.returns-then-image-b
unfolding answer
returns-then-image-b c =
    sym (rank_33 (trits_of c.args.image.now.bytes.now) [] c.args.a c.args.b (omega arith) (omega (arith, trits_is c.args.image.now.laid)))

pub rank-requires : goal.rank-requires
rank-requires c = (omega arith, omega (arith, trits_is c.args.image.now.laid))

pub value-requires : goal.value-requires
value-requires c =
    let trits = trits_of c.args.image.now.bytes.now in
    omega (arith, c.rank.ensures, rank_count c.args.a trits c.args.b, count_le c.args.a trits, (proper c.args.image.now.laid.whole).length_high)

pub returns : goal.returns
unfolding answer
returns c =
    c.value.ensures ∙ ap plain c.rank.ensures
    ∙ sym (rank_reply (trits_of c.args.image.now.bytes.now) [] c.args.a c.args.b (omega arith) (omega (arith, trits_is c.args.image.now.laid)))
