-- Each search hands its spot to the next.
use Rattle.trits.proofs.Searching.{all_spot}
use Rattle.trits.proofs.image.Image.find.Goals as goal

pub halve-six-requires : goal.halve-six-requires
halve-six-requires c =
    rw (c.far.ensures.0, c.far.ensures.1) (c.requires.0, all_spot c.args.self.now.laid.whole c.args.t c.args.j c.requires.1 c.requires.2)

pub halve-seven-requires : goal.halve-seven-requires
halve-seven-requires c =
    rw (c.middle.ensures.0, c.middle.ensures.1) (c.requires.0, rw (c.far.ensures.0, c.far.ensures.1) at c.halve-six.ensures)

pub halve-eight-requires : goal.halve-eight-requires
halve-eight-requires c =
    rw (c.near.ensures.0, c.near.ensures.1) (c.requires.0, rw (c.middle.ensures.0, c.middle.ensures.1) at c.halve-seven.ensures)
