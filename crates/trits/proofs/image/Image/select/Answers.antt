-- Nothing where j is 0 or above the count of t, else what `find` finds.
use Rattle.std.proofs.Common.{ℕ, ◌≡◌, sym, List, arith}
use Rattle.std.proofs.Math.Option.{none}
use Rattle.format.specs.Trits.{select}
use Rattle.format.specs.Proper.{trits_of}
use Rattle.format.proofs.Select.{select_at, select_none}
use Rattle.trits.proofs.image.Image.select.Goals as goal
use Rattle.trits.proofs.image.Image.select.Goals.{then-j-eq0-via-then-j-eq0, then-j-eq0-via-else-j-eq0+then-total-j}

no_zeroth : (t : ℕ) (xs : List ℕ) (j : ℕ) → j ≡ 0 → none ≡ select t xs j
unfolding select
no_zeroth t xs j e = rw e

pub returns-then-j-eq0 : goal.returns-then-j-eq0
returns-then-j-eq0 c =
    let a = c.args in
    elim c.then-j-eq0.branch [
      | then-j-eq0-via-then-j-eq0 w ↦ no_zeroth a.t (trits_of a.self.now.bytes.now) a.j w.if-j-eq0.true
      | then-j-eq0-via-else-j-eq0+then-total-j w ↦ sym (select_none a.t (trits_of a.self.now.bytes.now) a.j (omega (arith, w.total.ensures)))
    ]

pub returns : goal.returns
returns c = let s = c.find.ensures in rw (← s.ranked) (sym (select_at _ _ _ s.inside s.holds))
