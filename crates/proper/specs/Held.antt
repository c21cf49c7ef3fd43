-- The trits and the shadows that the checker holds. Assumes nothing.
use Rattle.std.specs.Prelude.{ℕ, List}
use Rattle.format.specs.Trits.{untrytes}
use Rattle.format.specs.Image.{from_bytes}
use Rattle.proper.specs.declared.walk.Trits.{Trits}
use Rattle.proper.specs.declared.walk.Walk.{Walk}

-- the trits that these bytes hold
abbrev pub trits_in : Trits → List ℕ
trits_in t = untrytes t.count t.bytes.now

-- the shadows of a walk
abbrev pub shadows_in : Walk → List ℕ
shadows_in w = from_bytes 2 w.shadows.now
