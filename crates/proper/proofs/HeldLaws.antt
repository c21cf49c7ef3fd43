-- The bytes of sections 1 and 2 say which trits and which shadows they hold. Assumes nothing.
use Prim.Native.Nat.{ℕ, ◌+◌, ◌*◌}
use native.Mathlib.Omega.{arith}
use mathlib.Core.Path.{◌≡◌, sym, ap, ◌∙◌}
use mathlib.Core.List.{List}
use lib.Dec.{lit<}
use lib.ListN.{length}
use Rattle.format.specs.Trits.{untrytes}
use Rattle.format.specs.Image.{node_count, from_bytes}
use Rattle.format.proofs.CheckLaws.{untrytes_trytes, from_bytes_bytes, shadows_small}
use Rattle.samples.specs.Lent.{TritsIn}
use Rattle.proper.specs.Known.{Shadowed, Known}
use Rattle.proper.specs.Places.{Long}
use Rattle.proper.proofs.StartLaws.{same_marked}
use Rattle.proper.proofs.KeyLaws.{many_are}

-- only these trits fit the bytes, so what is said of them is said of all that fit
pub trits_one : {trits bs : List ℕ} {l : ℕ} → TritsIn trits bs → length trits ≡ l → untrytes l bs ≡ trits
trits_one {trits} t e = rw (sym e, t.trytes_are) (untrytes_trytes trits t.threes)

-- and only these shadows
pub shadows_one : {trits H hs : List ℕ} → Shadowed trits H hs → from_bytes 2 hs ≡ H
shadows_one {trits} {H} s = ap (from_bytes 2) s.shadows_are ∙ from_bytes_bytes 2 H (lit< tt) (shadows_small trits H s.proper)

-- so trits that fit the bytes, and a walk, are what `Trits` and `Walk` hold
pub trits_held : {trits bs : List ℕ} {l : ℕ} → TritsIn trits bs → length trits ≡ l → TritsIn (untrytes l bs) bs × (length (untrytes l bs) ≡ l)
trits_held t e = rw (trits_one t e) (t, e)

pub walk_held : {trits H bs hs : List ℕ} {l : ℕ} → Known trits H bs hs → length trits ≡ l → Known (untrytes l bs) (from_bytes 2 hs) bs hs
walk_held k e = rw (trits_one k.trits_in e, shadows_one k.shadowed) k

-- all trits of section 1 have one number of nodes
pub same_nodes : {trits trits' bs : List ℕ} {l : ℕ} → TritsIn trits bs → TritsIn trits' bs → length trits ≡ l → length trits' ≡ l → node_count trits ≡ node_count trits'
same_nodes t t' e e' = ap node_count (sym (trits_one t e) ∙ trits_one t' e')

-- and all trits and shadows that have n nodes and these sections 1 and 2 have sections 4 and 5 of one length
pub same_long : {trits H trits' H' bs hs firsts part : List ℕ} → Known trits H bs hs → Known trits' H' bs hs → node_count trits ≡ node_count trits'
    → Long trits H firsts part → Long trits' H' firsts part
same_long K K' e L = record {
  long4 = L.long4 ∙ ap (λ (k : ℕ). 4 * (k + 1)) (same_marked K.shadowed K'.shadowed e);
  long5 = omega (arith, L.long5, many_are K, many_are K');
}
