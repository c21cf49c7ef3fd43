-- A list written over the front of a buffer, one element at a time. Assumes nothing.
use mathlib.Core.Path.{◌≡◌, refl, sym, ap, ◌∙◌}
use mathlib.Core.List.{List, [], ◌∷◌, ◌++◌, append_assoc, append-nil}
use Prim.Native.Nat.{ℕ, suc, ◌+◌, ◌-◌, ◌≤◌, ◌<◌}
use native.Mathlib.Numerals.{add-one}
use native.Mathlib.Omega.{arith}
use lib.ListN.{length, get_or, take, drop, set, length-append, length-drop, drop_of_length-le, get_or-append}
use lib.Seq.{take-suc, take_all, drop-cons, set_at, length-take-le, get_or-append-add, get_or-take, get_or-drop}
use Rattle.format.specs.Lists.{over}

-- the first i of the m elements of xs are written over `old`, which gives l
pub record Over (xs : List ℕ) (m : ℕ) (old l : List ℕ) (i : ℕ) : Type 0 where
  pub size : length xs ≡ m
  pub room : m ≤ length old
  pub upto : i ≤ m
  pub are : l ≡ take i xs ++ drop i old

pub over_none : (xs : List ℕ) (m : ℕ) (old : List ℕ) → length xs ≡ m → m ≤ length old → Over xs m old old 0
over_none xs m old e h = record { size = e; room = h; upto = omega arith; are = refl }

module _ {xs : List ℕ} {m : ℕ} {old l : List ℕ} {i : ℕ} (o : Over xs m old l i) where
  front : length (take i xs) ≡ i
  front = length-take-le i xs (omega arith)

  pub over_length : length l ≡ length old
  over_length = ap length o.are ∙ omega (arith, front, length-append (take i xs) (drop i old), length-drop i old)

  pub over_next : i < m → (x : ℕ) → x ≡ get_or xs i 0 → Over xs m old (set l i x) (i + 1)
  over_next h x e = record {
    size = o.size;
    room = o.room;
    upto = omega arith;
    are = rw (o.are, e, drop-cons old i 0 (omega arith), set_at (take i xs) (get_or old i 0) _ (get_or xs i 0) i front, add-one, take-suc xs i 0 (omega arith))
        (sym (append_assoc (take i xs) (get_or xs i 0 ∷ []) (drop (suc i) old)));
  }

  pub over_done : m ≤ i → l ≡ over xs old
  over_done h =
      let e : i ≡ length xs = omega arith in
      o.are ∙ rw e (ap (λ (a : List ℕ). a ++ drop (length xs) old) (take_all (length xs) xs (omega arith)))

  -- a list as long as the buffer
  pub over_whole : m ≤ i → length old ≡ m → l ≡ xs
  over_whole h e = over_done h ∙ rw (drop_of_length-le old {i = length xs} (omega arith)) (append-nil xs)

  pub over_in : (k : ℕ) → k < i → get_or l k 0 ≡ get_or xs k 0
  over_in k h = ap (λ (a : List ℕ). get_or a k 0) o.are ∙ get_or-append (take i xs) (drop i old) 0 k (omega (arith, front)) ∙ get_or-take i xs k 0 h

  pub over_behind : (k : ℕ) → i ≤ k → get_or l k 0 ≡ get_or old k 0
  over_behind k h =
      let e : k ≡ length (take i xs) + (k - i) = omega (arith, front) in
      let d : i + (k - i) ≡ k = omega arith in
      ap (λ (a : List ℕ). get_or a k 0) o.are
      ∙ ap (λ (j : ℕ). get_or (take i xs ++ drop i old) j 0) e
      ∙ get_or-append-add (take i xs) (drop i old) (k - i) 0 ∙ get_or-drop i old (k - i) 0 ∙ ap (λ (j : ℕ). get_or old j 0) d

-- the whole list written
pub over_all : (xs : List ℕ) (m : ℕ) (old : List ℕ) → length xs ≡ m → m ≤ length old → Over xs m old (over xs old) m
over_all xs m old e h =
    record { size = e; room = h; upto = omega arith; are = rw (← e) (ap (λ (a : List ℕ). a ++ drop (length xs) old) (sym (take_all (length xs) xs (omega arith)))) }
