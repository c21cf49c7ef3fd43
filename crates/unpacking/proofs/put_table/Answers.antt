-- The rows, and the roots behind them.
use Rattle.std.proofs.Common.{ℕ, ◌+◌, ◌-◌, ◌≤◌, ◌≡◌, ◌∙◌, ap, List, length, take, drop, length-take, length-drop, append_assoc, arith}
use lib.Seq.{drop-drop}
use borrow.Rule.Slice.PartMut.{put_mid}
use Rattle.format.specs.Lists.{one_to}
use Rattle.format.proofs.Laws.{length_run}
use Rattle.little.specs.Put.{put_at}
use Rattle.unpacking.proofs.SizeLaws.{sizes}
use Rattle.unpacking.proofs.RowLaws.{roots_last}
use Rattle.unpacking.proofs.put_table.Goals as goal
use Rattle.unpacking.proofs.put_table.Goals.{After-put_rows}

-- the roots in a part are put at its place
put_back : (at c k : ℕ) (l vs : List ℕ) → k ≡ c → vs ≡ one_to c → put_mid at k l vs ≡ put_at l at (one_to c)
put_back at c k l vs e f = rw (e, f, length_run 1 c, drop-drop c at l, append_assoc)

part : (at c k : ℕ) (l : List ℕ) → k ≡ c → at + c ≤ length l → length (take k (drop at l)) ≡ c
part at c k l e h = simp (length-take, length-drop) (omega arith)

parted : (c : After-put_rows) → let lay = c.args.image.now.lay in let at = lay.trits - lay.roots + 1 in length (take (at + lay.roots - at) (drop at c.put_rows.new.table)) ≡ lay.roots
parted c =
    let lay = c.args.image.now.lay in
    part (lay.trits - lay.roots + 1) lay.roots _ c.put_rows.new.table (omega arith) (omega (arith, sizes c.args.image.now.laid, c.put_rows.auto.table))

pub overflow_sub-at : goal.overflow_sub-at
overflow_sub-at c = omega (arith, sizes c.args.image.now.laid)

pub overflow_add-at-2 : goal.overflow_add-at-2
overflow_add-at-2 c = omega (arith, sizes c.args.image.now.laid)

pub slice_bounds-put_roots-end : goal.slice_bounds-put_roots-end
slice_bounds-put_roots-end c = omega (arith, sizes c.args.image.now.laid)

pub put_roots-requires : goal.put_roots-requires
put_roots-requires c = let r = parted (goal.at.put_roots-requires c).After-put_rows in omega (arith, r, sizes c.args.image.now.laid)

pub returns : goal.returns
returns c =
    let lay = c.args.image.now.lay in
    let at = lay.trits - lay.roots + 1 in
    put_back at lay.roots _ c.put_rows.new.table c.put_roots.new.table (omega arith) (c.put_roots.ensures ∙ ap one_to (parted (goal.at.returns c).After-put_rows))
    ∙ ap (λ (l : List ℕ). put_at l at (one_to lay.roots)) c.put_rows.ensures ∙ roots_last c.args.image.now.laid c.args.table.now c.requires
