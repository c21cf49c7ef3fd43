-- The twos are what zeros and ones leave of the place.
use Rattle.std.proofs.Common.{◌≡◌, ◌+◌, arith}
use Rattle.format.specs.Trits.{rank}
use Rattle.format.specs.Proper.{trits_of}
use Rattle.format.proofs.Laws.{rank_three}
use Rattle.format.proofs.OnImage.{proper}
use Rattle.trits.proofs.image.Image.rank.Goals as goal
use Rattle.trits.proofs.image.Image.rank.Goals.{After-rank_both-before}

twos : (c : After-rank_both-before) → c.rank_both-before.result.zeros + c.rank_both-before.result.ones + rank 2 (trits_of c.args.self.now.bytes.now) c.args.p ≡ c.args.p
twos c =
    let b = c.args.self.now.bytes.now in
    rw c.rank_both-before.ensures (rank_three (trits_of b) (proper c.args.self.now.laid.whole).threes c.args.p c.requires.1)

pub overflow_sub-result : goal.overflow_sub-result
overflow_sub-result c = omega (arith, twos ((goal.at.overflow_sub-result c).After-rank_both-before))

pub overflow_sub-result-in_default : goal.overflow_sub-result-in_default
overflow_sub-result-in_default c = omega (arith, twos ((goal.at.overflow_sub-result-in_default c).After-rank_both-before))

pub returns-in_default : goal.returns-in_default
returns-in_default c =
    let e : c.args.t ≡ 2 = omega (arith, c.requires.0) in
    rw e (omega (arith, twos ((goal.at.returns-in_default c).After-rank_both-before)))
