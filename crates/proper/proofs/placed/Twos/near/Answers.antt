-- The sample less the twos up to it, or with those behind it.
use Rattle.std.proofs.Common.{arith, ◌≡◌, ◌∙◌, ◌*◌}
use Rattle.format.specs.Trits.{rank}
use Rattle.proper.specs.Held.{trits_in}
use Rattle.proper.proofs.TwoLaws.{few_twos, nearest_is, counted_back, counted_on}
use Rattle.proper.proofs.placed.Twos.near.Goals as goal
use Rattle.proper.proofs.placed.Twos.near.Goals.{After-between-n}

-- the sample has the twos before the tryte that it stands at
sampled : (g : _) (c : After-between-n g) → c.from-sample.result ≡ rank 2 (trits_in c.args.self.now.walk.trits) (5 * c.min-at.result)
sampled g c =
    let s = c.args.self.now in
    let p = c.requires in
    c.from-sample.ensures
    ∙ nearest_is (trits_in s.walk.trits) s.samples.now c.args.q (rw p.2 at s.spaced) (rw p.2 at s.sampled) s.walk.trits.counted p.0 p.1 p.3 c.min-at.ensures

pub returns-then-q-at : goal.returns-then-q-at
returns-then-q-at g c =
    let trits = trits_in c.args.self.now.walk.trits in
    omega (
      arith,
      sampled g (goal.at.returns-then-q-at g c).After-between-n,
      counted_back trits c.between-n.result c.min-from.ensures c.between-n.ensures c.if-q-at.true,
    )

pub overflow_add-result : goal.overflow_add-result
overflow_add-result g c =
    let t = c.args.self.now.walk.trits in
    omega (
      arith,
      sampled g (goal.at.overflow_add-result g c).After-between-n,
      counted_on (trits_in t) c.between-n.result c.min-from.ensures c.between-n.ensures c.if-q-at.false,
      few_twos t.trits_in (5 * c.args.q),
    )
