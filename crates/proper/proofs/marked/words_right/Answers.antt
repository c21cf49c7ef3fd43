-- The map's words are section 3's.
use Rattle.std.proofs.Common.{arith}
use Rattle.format.proofs.CheckLaws.{limits_nodes}
use Rattle.proper.proofs.MapLaws.{words_wrong, words_same}
use Rattle.proper.proofs.marked.words_right.Goals as goal

pub bounds-map-w : goal.bounds-map-w
bounds-map-w c = omega (arith, limits_nodes c.requires.0 c.requires.2.in_limits)

pub returns-then-get-map : goal.returns-then-get-map
returns-then-get-map c =
    let w = c.loop-w.w in
    λ trits H p m en. words_wrong p m c.args.part.now w (omega arith) (omega (arith, c.type_inv.map w)) (λ e. omega (arith, c.get.ensures.0))

pub returns : goal.returns
returns c =
    λ trits H p m en.
    words_same p m c.args.part.now (λ i l. omega (arith, c.type_inv.part i)) (omega (arith, c.requires.5)) (λ i l. omega (arith, c.type_inv.map i)) (λ i l. c.loop-w.invariant i (omega arith))
