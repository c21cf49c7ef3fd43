-- The table's entry, taken apart.
use Rattle.std.proofs.Common.{arith}
use Rattle.trits.proofs.Trytes.{entry_parts, five_trits, both}
use Rattle.trits.proofs.digits.tryte_ranks.Goals as goal

pub returns : goal.returns
returns c =
    let p = entry_parts c.args.x c.from-e.result c.requires c.from-e.ensures in
    (both p.zeros p.ones, omega (arith, p, five_trits c.args.x))
