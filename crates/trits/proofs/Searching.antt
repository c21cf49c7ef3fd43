-- The search for the t number j stands between two places, and a test at a place between them leaves one side. Assumes nothing.
use Prim.Native.Nat.{ℕ, ◌+◌, ◌-◌, ◌*◌, ◌/◌, ◌≤◌, ◌<◌, min}
use native.Mathlib.Decide.{dec_le}
use native.Mathlib.Nat.{mul_comm, mul_assoc, mul-add, mul-one, mul-le-mul_left, div-eq_of_lt-le, lt_of_mul-lt-mul_left}
use native.Mathlib.Omega.{arith}
use mathlib.Core.Path.{◌≡◌, sym}
use mathlib.Core.List.{List}
use lib.ListN.{length}
use Rattle.format.specs.Lists.{count_in}
use Rattle.format.specs.Trits.{rank}
use Rattle.format.specs.Proper.{trits_of, Whole}
use Rattle.format.proofs.Laws.{rank_zero, rank_past, rank_mono, rank_count, count_le}
use Rattle.format.proofs.EdgeLaws.{lt_of_rank}
use Rattle.trits.specs.declared.Samples.{Samples}
use Rattle.trits.specs.declared.Spot.{Spot}
use Rattle.trits.specs.Search.{Sampled, Between, Spotted}
use Rattle.trits.proofs.Levels.{few, past}

-- a rank is small
pub rank_few : {b : List ℕ} → Whole b → (t p : ℕ) → rank t (trits_of b) p ≤ 125536
rank_few {b} w t p = omega (arith, rank_count t (trits_of b) p, count_le t (trits_of b), few w)

module _ {t : ℕ} {xs : List ℕ} {j n p e : ℕ} (v : Between t xs j n p e) where
  pub inside : p < length xs
  inside = lt_of_rank t xs p (length xs) (omega (arith, rank_count t xs e, rank_past t xs (length xs) (omega arith)))

  -- a test at place m
  pub later : {m x : ℕ} → x ≡ rank t xs m → x < j → Between t xs j x m e
  later c h = record { counted = c; below = h; reached = v.reached }

  pub sooner : {m : ℕ} → j ≤ rank t xs m → Between t xs j n p m
  sooner h = record { counted = v.counted; below = v.below; reached = h }

-- between the first place and one past the end
pub all_spot : {b : List ℕ} → Whole b → (t j : ℕ) → 0 < j → j ≤ count_in t (trits_of b) → Spotted 131450 t (trits_of b) j (record { at = 0; before = 0 })
all_spot {b} w t j h l =
    record {
      counted = sym (rank_zero t (trits_of b));
      below = h;
      reached = omega (arith, rank_past t (trits_of b) (131450 * (0 + 1)) (omega (arith, few w)));
    }

-- ---- halving: between multiples lo and lo + len of a step

pub record Halving (t : ℕ) (xs : List ℕ) (j step first fan last lo len n : ℕ) : Type 0 where
  pub from : first ≤ lo
  pub some : 1 ≤ len
  pub to : lo + len ≤ last + 1
  pub within : lo + len ≤ first + fan
  pub between : Between t xs j n (step * lo) (step * (lo + len))

module _ {b : List ℕ} {s : Samples} (above : Spot) {t j : ℕ} (S : Sampled b s) (P : Spotted (s.fan * s.step) t (trits_of b) j above) where
  abbrev xs : List ℕ
  xs = trits_of b

  abbrev first : ℕ
  first = s.fan * above.at

  next : s.fan * (above.at + 1) ≡ first + s.fan
  next = rw (mul-add, mul-one)

  finer : (k : ℕ) → s.fan * s.step * k ≡ s.step * (s.fan * k)
  finer k = rw (mul_comm s.fan s.step, mul_assoc)

  -- the spot in steps of this level
  pub in_steps : Between t xs j above.before (s.step * first) (s.step * (first + s.fan))
  in_steps = rw (← next, ← finer, ← finer) P

  pub first_last : first ≤ s.last
  first_last =
      let h : s.step * first < s.step * (s.last + 1) = omega (arith, inside in_steps, past S) in
      omega (arith, lt_of_mul-lt-mul_left s.step h)

  starts : (len : ℕ) → 1 ≤ len → first + len ≤ s.last + 1 → len ≤ s.fan → j ≤ rank t xs (s.step * (first + len))
      → Halving t xs j s.step first s.fan s.last first len above.before
  starts len o l f r = record { from = omega arith; some = o; to = l; within = omega arith; between = sooner in_steps r }

  -- fan multiples, or as many as there are
  pub starts_whole : s.fan ≤ s.last - first → Halving t xs j s.step first s.fan s.last first s.fan above.before
  starts_whole h = starts s.fan S.fans (omega (arith, first_last)) (omega arith) in_steps.reached

  pub starts_cut : s.last - first < s.fan → Halving t xs j s.step first s.fan s.last first (s.last - first + 1) above.before
  starts_cut h =
      let e : first + (s.last - first + 1) ≡ s.last + 1 = omega (arith, first_last) in
      starts (s.last - first + 1) (omega arith) (omega arith) (omega arith)
      (rw e (omega (arith, in_steps.reached, rank_count t xs (s.step * (first + s.fan)), rank_past t xs (s.step * (s.last + 1)) (omega (arith, past S)))))

  pub starts_min : (len : ℕ) → len ≡ min s.fan (s.last - first + 1) → Halving t xs j s.step first s.fan s.last first len above.before
  starts_min len is = go (dec_le s.fan (s.last - first))
    where
      go : Dec (s.fan ≤ s.last - first) → Halving t xs j s.step first s.fan s.last first len above.before
      go (yes h) = let e : len ≡ s.fan = omega arith in rw e (starts_whole h)
      go (no h) = let e : len ≡ s.last - first + 1 = omega arith in rw e (starts_cut (omega arith))

  -- what `counted` asks at a multiple between them
  pub mid_first : (mid : ℕ) → first ≤ mid → mid < first + s.fan → first ≡ s.fan * (mid / s.fan)
  mid_first mid l h =
      let d : mid / s.fan ≡ above.at = div-eq_of_lt-le s.fan (omega (arith, mul_comm above.at s.fan)) (omega (arith, mul_comm (above.at + 1) s.fan, next)) in
      rw d

-- a turn
module _ {t : ℕ} {xs : List ℕ} {j step first fan last lo len n x : ℕ} (v : Halving t xs j step first fan last lo len n) (more : 1 < len)
    (ex : x ≡ rank t xs (step * (lo + len / 2))) where
  pub upper : x < j → Halving t xs j step first fan last (lo + len / 2) (len - len / 2) x
  upper h =
      let e : lo + len / 2 + (len - len / 2) ≡ lo + len = omega arith in
      record { from = omega arith; some = omega arith; to = omega arith; within = omega arith; between = rw e (later v.between ex h) }

  pub lower : j ≤ x → Halving t xs j step first fan last lo (len - len / 2) n
  lower h =
      record {
        from = v.from;
        some = omega arith;
        to = omega arith;
        within = omega arith;
        between = sooner v.between (omega (arith, rank_mono t xs (step * (lo + len / 2)) (step * (lo + (len - len / 2))) (mul-le-mul_left step (omega arith))));
      }

pub halved : {t : ℕ} {xs : List ℕ} {j step first fan last lo len n : ℕ} → Halving t xs j step first fan last lo len n → len ≤ 1
    → Spotted step t xs j (record { at = lo; before = n })
halved {t} {xs} {j} {step} {len = len} {n = n} v h = let e : 1 ≡ len = omega arith in rw e v.between
