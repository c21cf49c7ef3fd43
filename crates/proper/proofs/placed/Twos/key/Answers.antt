-- The first of its three tests that fails refutes the entry.
use Rattle.std.proofs.Common.{arith, ◌+◌, ◌*◌, ◌/◌, ◌≤◌, ◌<◌, ◌≡◌, ◌∙◌, length, get_or}
use Rattle.proper.specs.Held.{trits_in, shadows_in}
use Rattle.proper.specs.Places.{key}
use Rattle.proper.proofs.TwoLaws.{trit_in, tryte_inside}
use Rattle.proper.proofs.KeyLaws.{many_are, shadow_room, key_is}
use Rattle.proper.proofs.placed.Twos.key.Goals as goal
use Rattle.proper.proofs.placed.Twos.key.Goals.{After-trit, After-before-j, After-get}

-- the trit that was read is the place's
trit_is : (c : After-trit) → let s = c.args.self.now in c.trit.result ≡ get_or (trits_in s.walk.trits) c.get-p.result 0
trit_is c = c.trit.ensures.0 ∙ trit_in c.args.self.now.walk.trits.trits_in c.get-p.result

-- past both tests a 2 stands there
here : (c : After-before-j) → let s = c.args.self.now in (c.get-p.result < length (trits_in s.walk.trits)) × (get_or (trits_in s.walk.trits) c.get-p.result 0 ≡ 2)
here c = let s = c.args.self.now in (omega (arith, s.walk.trits.counted), omega (arith, trit_in s.walk.trits.trits_in c.get-p.result))

-- the twos before it are fewer than the shadows
room : (c : After-before-j) → 2 * c.before-j.result + 2 ≤ length c.args.self.now.walk.shadows.now
room c =
    let K = c.args.self.now.walk.known in
    let h = here c in
    omega (arith, many_are K, shadow_room K h.0 h.1)

-- its key
keyed : (c : After-get) → let w = c.args.self.now.walk in 131072 * c.get.result + c.get-p.result ≡ key (trits_in w.trits) (shadows_in w) c.get-p.result
keyed c =
    let s = c.args.self.now in
    let l : c.get-p.result < length (trits_in s.walk.trits) = omega (arith, s.walk.trits.counted) in
    key_is s.walk.known l (omega (arith, trit_in s.walk.trits.trits_in c.get-p.result)) c.before-j.ensures c.get.ensures.0

pub trit-requires : goal.trit-requires
trit-requires c = let s = c.args.self.now in omega (arith, tryte_inside s.walk.trits.trits_in (c.get-p.result / 5) (omega (arith, s.walk.trits.counted)))

pub returns-then-trit-ne2 : goal.returns-then-trit-ne2
returns-then-trit-ne2 c R = omega (arith, trit_is (goal.at.returns-then-trit-ne2 c).After-trit, rw (← c.get-p.ensures.0) at R.two)

pub overflow_mul-j : goal.overflow_mul-j
overflow_mul-j c = omega (arith, room (goal.at.overflow_mul-j c).After-before-j)

pub get-requires-clause-inside : goal.get-requires-clause-inside
get-requires-clause-inside c = room (goal.at.get-requires-clause-inside c).After-before-j

pub returns-then-key-low : goal.returns-then-key-low
returns-then-key-low c = rw (← c.get-p.ensures.0) (λ R. omega (arith, keyed (goal.at.returns-then-key-low c).After-get, R.above))

pub returns : goal.returns
returns c =
    let k = keyed (goal.at.returns c).After-get in
    let h = here (goal.at.returns c).After-before-j in
    rw (← c.get-p.ensures.0) (record { inside = h.0; two = h.1; above = omega (arith, k) }, k)
