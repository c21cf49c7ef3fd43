-- One trit more, or five of them at once.
use Rattle.std.proofs.Common.{◌/◌, ap, arith}
use Rattle.format.specs.Trits.{untrytes}
use Rattle.trits.specs.declared.Ranks.{Ranks}
use Rattle.trits.specs.Search.{Tryte}
use Rattle.proper.proofs.FirstLaws.{ballot_few, ballot_tryte}
use Rattle.proper.proofs.TwoLaws.{tryte_inside, tryte_in}
use Rattle.proper.proofs.first.Count.onward.Goals as goal
use Rattle.proper.proofs.first.Count.onward.Goals.{After-from}

-- the tryte at this place
here : (c : After-from) → let x = c.args in Tryte (untrytes x.l x.bs.now) (x.self.p / 5) c.from.result
here c = tryte_in c.requires.0 (c.args.self.p / 5) (omega (arith, c.requires.1)) c.from.ensures

pub bounds-bs-q : goal.bounds-bs-q
bounds-bs-q c = tryte_inside c.requires.0 (c.args.self.p / 5) (omega (arith, c.requires.1))

pub tryte_ranks-more-requires : goal.tryte_ranks-more-requires
tryte_ranks-more-requires c = (here (goal.at.tryte_ranks-more-requires c).After-from).low

pub overflow_add-zeros : goal.overflow_add-zeros
overflow_add-zeros c = omega (arith, ballot_few c.requires.1.1, c.tryte_ranks-more.ensures.1)

pub overflow_add-result : goal.overflow_add-result
overflow_add-result c = omega (arith, ballot_few c.requires.1.1, c.tryte_ranks-more.ensures.1)

pub returns : goal.returns
returns c =
    let b = c.requires.1 in
    let e = c.tryte_ranks-more.ensures.0 in (
      omega arith,
      ballot_tryte b.1 (here (goal.at.returns c).After-from) (omega arith) (omega (arith, b.0)) (ap (λ (r : Ranks). r.zeros) e) (ap (λ (r : Ranks). r.ones) e) (omega arith),
    )
