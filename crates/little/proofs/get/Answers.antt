-- One byte more, by `reading_more`.
use Rattle.std.proofs.Common.{◌∙◌, ap, sym, ℕ, ◌≡◌, ◌+◌, ◌-◌, ◌*◌, ◌<◌, ◌^◌, [], append-nil, take, drop, length-take, refl, arith}
use Rattle.little.proofs.Laws.{Reading, reading_more, reading_below, reading_all, bytes_low}
use Rattle.little.proofs.get.Goals as goal
use Rattle.little.proofs.get.Goals.{In-Some}

pub loop-byte-init : goal.loop-byte-init
loop-byte-init g c =
    let a = c.args in
    let size : a.at + g.row.N - a.at ≡ g.row.N = omega arith in
    let all = c.iter.ensures.rest ∙ ap (λ (n : ℕ). take n (drop a.at a.s.now)) size in
    record {
      behind = [];
      split = rw (append-nil, c.into_iter-byte-iterator.ensures.into_iter_gives, c.rev-byte-items.ensures.source) (sym all);
      is = refl;
    }

more : (g : _) (c : In-Some g) → Reading (take g.row.N (drop c.args.at c.args.s.now)) c.next.new.self.iter.rest.now (256 * c.loop-byte.n + c.in-Some.byte.now)
more g c = reading_more c.loop-byte.invariant _ _ c.in-Some.ensures.steps

below : (g : _) (c : In-Some g) → 256 * c.loop-byte.n + c.in-Some.byte.now < 256 ^ 8
below g c =
    let a = c.args in
    reading_below (more g c) 8 (bytes_low g.row.N a.at a.s.now (λ i. omega (arith, c.type_inv.s i))) (omega (arith, c.requires.width, length-take g.row.N (drop a.at a.s.now)))

pub overflow_mul-n : goal.overflow_mul-n
overflow_mul-n g c = omega (arith, below g (goal.at.overflow_mul-n g c).In-Some)

pub overflow_add-n : goal.overflow_add-n
overflow_add-n g c = omega (arith, c.from.ensures, below g (goal.at.overflow_add-n g c).In-Some)

pub loop-byte-preserved : goal.loop-byte-preserved
loop-byte-preserved g c = rw c.from.ensures (more g (goal.at.loop-byte-preserved g c).In-Some)

pub returns : goal.returns
returns g c =
    let a = c.args in
    let r = c.loop-byte.invariant in
    (reading_all r c.in-None.ensures.steps.0, reading_below r g.row.N (bytes_low g.row.N a.at a.s.now (λ i. omega (arith, c.type_inv.s i))) (omega (arith, length-take g.row.N (drop a.at a.s.now))))
