-- The trit at a place below L.
use Rattle.std.proofs.Common.{sym, ap, ◌∙◌, [], arith}
use Rattle.format.specs.Proper.{trits_of}
use Rattle.format.specs.Question.{plain, answer}
use Rattle.format.proofs.Replies.{trit_reply, trit_32, trit_33}
use Rattle.format.proofs.OnImage.{proper}
use Rattle.trits.proofs.Trytes.{trits_is}
use Rattle.asking.proofs.question.trit.Goals as goal

pub returns-then-image-a : goal.returns-then-image-a
unfolding answer
returns-then-image-a c = sym (trit_32 (trits_of c.args.image.now.bytes.now) [] c.args.a c.args.b (omega (arith, trits_is c.args.image.now.laid)))

pub returns-then-b-ne0 : goal.returns-then-b-ne0
unfolding answer
returns-then-b-ne0 c =
    sym (trit_33 (trits_of c.args.image.now.bytes.now) [] c.args.a c.args.b (omega (arith, trits_is c.args.image.now.laid)) (omega arith))

pub trit-requires : goal.trit-requires
trit-requires c = omega (arith, trits_is c.args.image.now.laid)

pub value-requires : goal.value-requires
value-requires c =
    let L = c.args.image.now.laid in
    omega (arith, c.trit.ensures, (proper L.whole).threes c.args.a (omega (arith, trits_is L)))

pub returns : goal.returns
unfolding answer
returns c =
    c.value.ensures ∙ ap plain c.trit.ensures
    ∙ rw c.if-b-ne0.false (sym (trit_reply (trits_of c.args.image.now.bytes.now) [] c.args.a (omega (arith, trits_is c.args.image.now.laid))))
