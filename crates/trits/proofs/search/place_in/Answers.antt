-- It counts as `counted_place` does.
use Rattle.trits.proofs.Trytes.{place_is}
use Rattle.trits.proofs.search.place_in.Goals as goal

pub returns : goal.returns
returns c =
    rw (
      c.from-7.ensures,
      c.from-6.ensures,
      c.from-5.ensures,
      c.from-4.ensures,
      c.from-3.ensures,
      c.from-2.ensures,
      c.from.ensures,
      c.from-a.ensures,
    ) (place_is c.args.x c.args.t c.args.k c.requires.0 c.requires.1 c.requires.2 c.requires.3)
