-- The text lies within its buffer. Assumes nothing.
use Rattle.std.proofs.Common.{arith, ◌≤◌, length, length-take}
use Rattle.listing.proofs.TableLaws.{text_inside}
use Rattle.list.proofs.main.Goals as goal

pub slice_bounds-text-end : goal.slice_bounds-text-end
slice_bounds-text-end c = text_inside _ _ c.listing-end.ensures

pub slice_bounds-write_all-end : goal.slice_bounds-write_all-end
slice_bounds-write_all-end c = let h : c.listing-end.result ≤ length c.listing-end.new.text = text_inside _ _ c.listing-end.ensures in simp length-take (omega arith)
