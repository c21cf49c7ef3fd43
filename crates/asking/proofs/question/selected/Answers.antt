-- The place of an occurrence, where there is one.
use Rattle.std.proofs.Common.{sym, ◌∙◌, [], arith}
use Rattle.format.specs.Proper.{trits_of}
use Rattle.format.specs.Question.{answer}
use Rattle.format.proofs.Select.{select_some}
use Rattle.format.proofs.Replies.{select_32}
use Rattle.format.proofs.OnImage.{proper}
use Rattle.asking.proofs.KindLaws.{select_nothing, select_value}
use Rattle.asking.proofs.question.selected.Goals as goal

pub returns-then-a-gt2 : goal.returns-then-a-gt2
unfolding answer
returns-then-a-gt2 c = sym (select_32 (trits_of c.args.image.now.bytes.now) [] c.args.a c.args.b (omega arith))

pub returns-in_default : goal.returns-in_default
returns-in_default c = select_nothing _ _ _ (omega arith) c.in_default.ensures

pub value-requires : goal.value-requires
value-requires c =
    omega (arith, (select_some c.args.a (trits_of c.args.image.now.bytes.now) c.args.b _ (sym c.in-Some.ensures)).inside, (proper c.args.image.now.laid.whole).length_high)

pub returns : goal.returns
returns c = c.value.ensures ∙ select_value _ _ _ (omega arith) c.in-Some.ensures
