-- Three samples add up, by `three_samples`.
use Rattle.std.proofs.Common.{◌≡◌, ◌+◌, ◌*◌, arith}
use Rattle.format.specs.Trits.{rank}
use Rattle.format.specs.Proper.{trits_of}
use Rattle.trits.proofs.Levels.{few, far_sampled, middle_sampled, near_sampled, three_samples}
use Rattle.trits.proofs.Searching.{rank_few}
use Rattle.trits.proofs.image.Image.rank_block.Goals as goal
use Rattle.trits.proofs.image.Image.rank_block.Goals.{After-counted-eight}

pub counted-six-requires : goal.counted-six-requires
counted-six-requires c =
    let S = far_sampled c.args.self.now.laid in
    rw c.far.ensures.1 (c.requires.0, omega (arith, S.last_is), omega (arith, few c.args.self.now.laid.whole))

pub counted-seven-requires : goal.counted-seven-requires
counted-seven-requires c =
    let S = middle_sampled c.args.self.now.laid in
    rw c.middle.ensures.1 (c.requires.0, omega (arith, S.last_is), omega arith)

pub counted-eight-requires : goal.counted-eight-requires
counted-eight-requires c =
    let S = near_sampled c.args.self.now.laid in
    rw c.near.ensures.1 (c.requires.0, omega (arith, S.last_is), omega arith)

summed : (c : After-counted-eight) → let a = c.args in
    c.counted-six.result + c.counted-seven.result + c.counted-eight.result ≡ rank a.t (trits_of a.self.now.bytes.now) (25 * a.g)
summed c =
    let a = c.args in
    three_samples a.t (trits_of a.self.now.bytes.now) a.g _ _ _
    (rw (c.far.ensures.0, c.far.ensures.1) at c.counted-six.ensures)
    (rw (c.middle.ensures.0, c.middle.ensures.1) at c.counted-seven.ensures)
    (rw (c.near.ensures.0, c.near.ensures.1) at c.counted-eight.ensures)

pub overflow_add-result : goal.overflow_add-result
overflow_add-result c =
    omega (arith, summed ((goal.at.overflow_add-result c).After-counted-eight), rank_few c.args.self.now.laid.whole c.args.t (25 * c.args.g))

pub overflow_add-result-2 : goal.overflow_add-result-2
overflow_add-result-2 c =
    omega (arith, summed ((goal.at.overflow_add-result-2 c).After-counted-eight), rank_few c.args.self.now.laid.whole c.args.t (25 * c.args.g))

pub returns : goal.returns
returns c = summed ((goal.at.returns c).After-counted-eight)
