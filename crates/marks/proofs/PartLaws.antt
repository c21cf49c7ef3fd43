-- A part of an image is written number by number: the bytes before a place are the numbers so far. Assumes nothing.
use Prim.Native.Nat.{ℕ, suc, ◌+◌, ◌*◌, ◌≤◌, ◌<◌}
use native.Mathlib.Nat.{zero-add, add-zero, mul-zero, mul-one, mul-add, mul-suc, mul-le-mul_left}
use native.Mathlib.Omega.{arith}
use mathlib.Core.Path.{◌≡◌, sym, ap, ◌∙◌}
use mathlib.Core.Bool.{Bool, true, false}
use mathlib.Core.List.{List, [], ◌∷◌, ◌++◌, append-nil, append_assoc, map-append}
use lib.ListN.{length, take, drop, length-append, length-take, take-append-drop}
use lib.Seq.{take_at, take_all, length-take-le}
use Rattle.format.specs.Lists.{bit, each, cons_if}
use Rattle.format.specs.Image.{le_bytes, bytes}
use Rattle.format.proofs.Laws.{run_add}
use Rattle.format.proofs.Sizes.{length_bytes}
use Rattle.little.specs.Put.{put_at}
use Rattle.little.proofs.Laws.{put_next}

module _ (k at : ℕ) (done out : List ℕ) (held : take at out ≡ bytes k done) where
  -- the place is that of the next number
  pub place_next : at ≤ length out → at ≡ k * length done
  place_next fits = omega (arith, ap length held, length-take at out, length_bytes k done)

  -- a number is put there, and stays if the place moves on
  pub put_if : (b : Bool) (x : ℕ) {out' : List ℕ} → out' ≡ put_at out at (le_bytes k x) → at + k ≤ length out
      → take (at + k * bit b) out' ≡ bytes k (done ++ cons_if b x [])
  put_if true x e room =
      let l : out ≡ [] ++ bytes k done ++ drop at out = rw (← held) (sym (take-append-drop at out)) in
      let p : at ≡ k * length done = place_next (omega arith) in
      rw (mul-one, e, put_next k x at out [] done (drop at out) l (p ∙ sym (zero-add (k * length done))))
      (take_at (bytes k (done ++ (x ∷ []))) _ (at + k) (length_bytes k (done ++ (x ∷ [])) ∙ rw (length-append, mul-add, mul-one, ← p)))
  put_if false x e room =
      let front : length (take at out) ≡ at = length-take-le at out (omega arith) in
      rw (mul-zero, add-zero, append-nil, e, append_assoc, take_at (take at out) _ at front) held

-- a section of n numbers f 0, f 1, .., of which w are written
pub record Begun (k n : ℕ) (f : ℕ → ℕ) (w : ℕ) (out : List ℕ) : Type 0 where
  pub upto : w ≤ n
  pub room : length out ≡ k * n
  pub held : take (k * w) out ≡ bytes k (each w f)

module _ {k n : ℕ} {f : ℕ → ℕ} {w : ℕ} {out : List ℕ} (b : Begun k n f w out) where
  pub begun_more : {x : ℕ} {out' : List ℕ} → w < n → x ≡ f w → out' ≡ put_at out (k * w) (le_bytes k x) → length out' ≡ length out → Begun k n f (w + 1) out'
  begun_more {x} l ex e same =
      let fits : k * suc w ≤ k * n = mul-le-mul_left k l in
      let next : each (w + 1) f ≡ each w f ++ (x ∷ []) = rw (run_add 0 w 1, map-append, zero-add, ex) in
      record {
        upto = omega arith;
        room = same ∙ b.room;
        held = rw (mul-add, next) (put_if k (k * w) (each w f) out b.held true x e (omega (arith, b.room, mul-suc k w)));
      }

  pub begun_all : n ≤ w → out ≡ bytes k (each n f)
  begun_all l =
      let e : w ≡ n = omega (arith, b.upto) in
      sym (take_all (k * n) out (omega (arith, b.room))) ∙ rw e at b.held
