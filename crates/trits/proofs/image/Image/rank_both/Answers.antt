-- A block, whole trytes, and part of one.
use Rattle.std.proofs.Common.{◌≡◌, ◌+◌, ◌*◌, ◌/◌, ◌%◌, ap, arith}
use Rattle.trits.specs.Search.{sum_of, ranks_of}
use Rattle.format.specs.Proper.{trits_of}
use Rattle.trits.proofs.Searching.{rank_few}
use Rattle.trits.proofs.Trytes.{ranks_more}
use Rattle.trits.proofs.image.Image.rank_both.Goals as goal
use Rattle.trits.proofs.image.Image.rank_both.Goals.{After-tryte_front-part}

summed : (c : After-tryte_front-part) → sum_of c.rank_trytes-whole.result c.tryte_front-part.result ≡ ranks_of (trits_of c.args.self.now.bytes.now) c.args.p
summed c =
    let p = c.args.p in
    let e : 5 * (p / 5) + p % 5 ≡ p = omega arith in
    rw e at (ranks_more c.tryte.ensures (p % 5) (omega arith) (omega (arith, c.requires)) _ _ c.rank_trytes-whole.ensures c.tryte_front-part.ensures)

pub add-requires : goal.add-requires
add-requires c =
    let w = c.args.self.now.laid.whole in
    let r = summed ((goal.at.add-requires c).After-tryte_front-part) in
    (omega (arith, ap (λ r. r.zeros) r, rank_few w 0 c.args.p), omega (arith, ap (λ r. r.ones) r, rank_few w 1 c.args.p))

pub returns : goal.returns
returns c = rw c.add.ensures (summed ((goal.at.returns c).After-tryte_front-part))
