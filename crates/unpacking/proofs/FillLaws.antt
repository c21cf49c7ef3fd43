-- A list written over the front of a buffer in order, but for one word that is put later. Assumes nothing.
use Prim.Native.Nat.{ℕ, ◌+◌, ◌≤◌, ◌<◌}
use native.Mathlib.Nat.{zero-add}
use native.Mathlib.Numerals.{add-one}
use native.Mathlib.Omega.{arith}
use mathlib.Core.Path.{◌≡◌, sym, ap, ◌∙◌}
use mathlib.Core.List.{List, append-nil}
use lib.ListN.{length, get_or, take, drop, set, length-set, length-append, length-drop, drop_of_length-le, take-append-drop}
use lib.Seq.{paste, paste-zero, paste-suc, length-paste, take_all, set_comm, length-take-le, take_at, drop_at, drop-drop}
use Rattle.format.specs.Lists.{over, one_to}
use Rattle.format.proofs.Laws.{length_run, get_or_run}
use Rattle.little.specs.Put.{put_at}
use Rattle.unpacking.specs.Standing.{over_first}

-- The first w words of ws stand over `old`, but for the word `late`: with it they are right.
pub record Filled (ws old table : List ℕ) (late w : ℕ) : Type 0 where
  pub room : length ws ≤ length old
  pub upto : w ≤ length ws
  pub low : late < w
  pub are : set table late (get_or ws late 0) ≡ over_first w ws old

over_set : (ws old : List ℕ) (w : ℕ) → w < length ws → length ws ≤ length old → set (over_first w ws old) w (get_or ws w 0) ≡ over_first (w + 1) ws old
over_set ws old w h r = rw add-one (simp zero-add at (paste-suc old 0 ws w 0 (omega arith) h))

-- the first word put, the second still to come
pub filled_first : (ws old table : List ℕ) → 1 < length ws → length ws ≤ length old → table ≡ set old 0 (get_or ws 0 0) → Filled ws old table 1 2
filled_first ws old table h r e = record {
  room = r;
  upto = omega arith;
  low = omega arith;
  are = rw (e, over_set ws old 0 (omega arith) r) (over_set ws old 1 h r);
}

module _ {ws old table : List ℕ} {late w : ℕ} (F : Filled ws old table late w) where
  pub filled_length : length table ≡ length old
  filled_length =
      omega (arith, F, length-set table late (get_or ws late 0), ap length F.are, length-append (take w ws) (drop w old), length-take-le w ws F.upto, length-drop w old)

  -- the next word
  pub filled_next : w < length ws → (x : ℕ) → x ≡ get_or ws w 0 → Filled ws old (set table w x) late (w + 1)
  filled_next h x e = record {
    room = F.room;
    upto = omega arith;
    low = omega (arith, F.low);
    are = rw (e, set_comm table w late (get_or ws w 0) (get_or ws late 0) (λ q. omega (arith, F.low)), F.are) (over_set ws old w h F.room);
  }

  -- the late word; the next is still to come
  pub filled_late : w < length ws → (x : ℕ) → x ≡ get_or ws late 0 → Filled ws old (set table late x) w (w + 1)
  filled_late h x e = record {
    room = F.room;
    upto = omega arith;
    low = omega arith;
    are = rw (e, F.are) (over_set ws old w h F.room);
  }

-- the last words at once
pub over_end : (ws old vs : List ℕ) (w : ℕ) → w + length vs ≡ length ws → length ws ≤ length old → drop w ws ≡ vs → put_at (over_first w ws old) w vs ≡ over ws old
over_end ws old vs w e r d =
    let l : length (take w ws) ≡ w = length-take-le w ws (omega arith) in
    rw (take_at (take w ws) (drop w old) w l, ← drop-drop, drop_at (take w ws) (drop w old) w l, drop-drop, e, ← d, take-append-drop)

-- ---- 1, 2, 3 and so on, a number in each word

-- the first i of them stand over `old`
pub record Listed (old table : List ℕ) (i : ℕ) : Type 0 where
  pub upto : i ≤ length old
  pub are : table ≡ paste old 0 (one_to (length old)) i

pub listed_none : (old : List ℕ) → Listed old old 0
listed_none old = record { upto = omega arith; are = paste-zero old 0 (one_to (length old)) }

module _ {old table : List ℕ} {i : ℕ} (r : Listed old table i) where
  pub listed_length : length table ≡ length old
  listed_length = ap length r.are ∙ length-paste old 0 (one_to (length old)) i (omega (arith, r.upto)) (omega (arith, length_run 1 (length old), r.upto))

  pub listed_next : i < length old → Listed old (set table i (i + 1)) (i + 1)
  listed_next h =
      let n : ℕ = length old in
      let v : i + 1 ≡ get_or (one_to n) i 0 = omega (arith, get_or_run 1 n i 0 h) in
      record {
        upto = omega arith;
        are = ap (λ (l : List ℕ). set l i (i + 1)) r.are ∙ ap (λ (x : ℕ). set (paste old 0 (one_to n) i) x (i + 1)) (sym (zero-add i))
            ∙ ap (set (paste old 0 (one_to n) i) (0 + i)) v ∙ paste-suc old 0 (one_to n) i 0 (omega arith) (omega (arith, length_run 1 n))
            ∙ ap (paste old 0 (one_to n)) (sym (add-one i));
      }

  pub listed_all : length old ≤ i → table ≡ one_to (length old)
  listed_all h =
      let n : ℕ = length old in
      let e : i ≡ n = omega (arith, r.upto) in
      rw (r.are, e, take_all n (one_to n) (omega (arith, length_run 1 n)), zero-add, drop_of_length-le old {i = n} (omega arith), append-nil)
