-- One trit more.
use Rattle.std.proofs.Common.{◌/◌, arith}
use Rattle.proper.proofs.FirstLaws.{trit_of_lem, bit_is, bit_few, ballot_few, ballot_more}
use Rattle.proper.proofs.TwoLaws.{tryte_inside}
use Rattle.proper.proofs.first.Count.trit_on.Goals as goal

pub trit-t-requires : goal.trit-t-requires
trit-t-requires c = omega (arith, tryte_inside c.requires.0 (c.args.self.p / 5) (omega (arith, c.requires.1)))

pub overflow_add-result : goal.overflow_add-result
overflow_add-result c = omega (arith, ballot_few c.requires.1.1, bit_few _ c.from.ensures)

pub overflow_add-result-2 : goal.overflow_add-result-2
overflow_add-result-2 c = omega (arith, ballot_few c.requires.1.1, bit_few _ c.from-2.ensures)

pub returns : goal.returns
returns c =
    let b = c.requires.1 in
    let t = trit_of_lem c.args.l c.args.bs.now c.args.self.p c.trit-t.result b.2 c.trit-t.ensures.0 in
    (omega arith, ballot_more b.1 (omega (arith, b.0)) b.3 c.trit-t.result _ _ t (bit_is _ c.from.ensures) (bit_is _ c.from-2.ensures))
