-- A number is read from its last byte on and written from its first on, so one law serves every width; what is put behind or over what was put is
-- one put. Assumes nothing.
use Prim.Native.Nat.{ℕ, zero, suc, ◌+◌, ◌*◌, ◌/◌, ◌%◌, ◌^◌, ◌≤◌, ◌<◌}
use native.Mathlib.Nat.{zero-add, suc-add, add_assoc, mul-add, mul_assoc, div-one, one-mul, pow-zero, pow-succ', pow-suc, div-div-eq-div-mul}
use native.Mathlib.Numerals.{add-one}
use native.Mathlib.Omega.{arith}
use mathlib.Core.Path.{◌≡◌, refl, sym, ap, ◌∙◌}
use mathlib.Core.List.{List, [], ◌∷◌, ◌++◌, append-nil, append_assoc, map-append}
use lib.Dec.{lit<}
use lib.ListN.{length, get_or, take, drop, set, length-drop, length-take, length-append, length-set, take-append-drop}
use Rattle.std.proofs.lemmas.List.{drop_all, nil_from_length}
use lib.Seq.{take-add, drop-drop, drop-cons, drop_at, append_snoc, set_split, length-take-le, take-append-le, drop-append-le, take-append_seam, drop-append-add}
use Rattle.format.specs.Lists.{horner, low_digits, spread, Below}
use Rattle.format.specs.Image.{le_bytes, bytes, read}
use Rattle.format.proofs.Laws.{join_append}
use Rattle.format.proofs.Digits.{length_digits, horner_lt, below_take, below_drop}
use Rattle.format.proofs.Sizes.{length_bytes}
use Rattle.format.proofs.ImageReads.{number_at}
use Rattle.little.specs.Put.{put_at}

-- ---- reading

horner_append : (b : ℕ) (xs ys : List ℕ) → horner b (xs ++ ys) ≡ horner b xs + b ^ length xs * horner b ys
horner_append b [] ys = rw (pow-zero, one-mul, zero-add)
horner_append b (x ∷ xs) ys = simp (horner_append b xs ys, pow-succ', mul-add, mul_assoc) (omega arith)

-- a number of a + b bytes: its low a, and above them its high b
pub read_add : (a b at : ℕ) (s : List ℕ) → at + a ≤ length s → read (a + b) at s ≡ read a at s + 256 ^ a * read b (at + a) s
read_add a b at s h =
    let l : length (take a (drop at s)) ≡ a = length-take-le a (drop at s) (omega (arith, length-drop at s)) in
    rw (take-add, horner_append, l, drop-drop)

-- the bytes `left` are still to read, and those behind them make the number so far
pub record Reading (all left : List ℕ) (n : ℕ) : Type 0 where
  pub behind : List ℕ
  pub split : all ≡ left ++ behind
  pub is : n ≡ horner 256 behind

module _ {all left : List ℕ} {n : ℕ} (r : Reading all left n) where
  pub reading_more : (fewer : List ℕ) (byte : ℕ) → left ≡ fewer ++ (byte ∷ []) → Reading all fewer (256 * n + byte)
  reading_more fewer byte e = record { behind = byte ∷ r.behind; split = r.split ∙ rw (e, append_snoc); is = rw r.is (omega arith) }

  pub reading_below : (w : ℕ) → Below 256 all → length all ≤ w → n < 256 ^ w
  reading_below w low few =
      let whole : Below 256 (left ++ r.behind) = rw r.split at low in
      let part : Below 256 r.behind = rw (drop_at left r.behind (length left) refl) at (below_drop 256 (length left) (left ++ r.behind) whole) in
      rw r.is (horner_lt 256 w r.behind (lit< tt) part (omega (arith, few, ap length r.split, length-append left r.behind)))

  pub reading_all : length left ≡ 0 → n ≡ horner 256 all
  reading_all e = rw (r.is, r.split, nil_from_length left e)

-- entry i of a section whose contents start at `at`
pub entry : (w at i : ℕ) (s xs rest : List ℕ) → drop at s ≡ bytes w xs ++ rest → i < length xs → get_or xs i 0 < 256 ^ w → read w (at + w * i) s ≡ get_or xs i 0
entry w at i s xs rest e h fits = rw (← drop-drop, e) (number_at w xs rest i h fits)

-- the bytes of a slice from place `at` on are low
pub bytes_low : (w at : ℕ) (s : List ℕ) → ((i : ℕ) → get_or s i 0 < 256) → Below 256 (take w (drop at s))
bytes_low w at s low = below_take 256 w (drop at s) (below_drop 256 at s (λ i l. low i))

-- ---- writing

digits_add : (c a b n : ℕ) → low_digits c (a + b) n ≡ low_digits c a n ++ low_digits c b (n / c ^ a)
digits_add c zero b n = rw (zero-add, pow-zero, div-one)
digits_add c (suc a) b n = rw (suc-add, digits_add c a b (n / c), div-div-eq-div-mul, pow-succ')

-- written where `front` ends: `front` stays, and so does what lies behind
put_behind : (front rest vs : List ℕ) → put_at (front ++ rest) (length front) vs ≡ front ++ vs ++ drop (length vs) rest
put_behind front rest vs = rw (take-append_seam, drop-append-add)

-- put behind what was put: both are put at once
pub put_more : (at to : ℕ) (l vs ws : List ℕ) {m r : List ℕ} → at ≤ length l → to ≡ at + length vs → m ≡ put_at l at vs → r ≡ put_at m to ws → r ≡ put_at l at (vs ++ ws)
put_more at to l vs ws h seam e e' =
    let front : length (take at l) ≡ at = length-take-le at l h in
    let end : at + length vs ≡ length (take at l ++ vs) = rw (length-append, front) in
    e' ∙ rw (e, seam, end) (put_behind (take at l ++ vs) _ ws ∙ simp (front, drop-drop, length-append, append_assoc, add_assoc))

-- the low a bytes put, then the high b behind them
pub put_add : (a b at n : ℕ) (l : List ℕ) {m r : List ℕ} → at + a ≤ length l → m ≡ put_at l at (le_bytes a n) → r ≡ put_at m (at + a) (le_bytes b (n / 256 ^ a))
    → r ≡ put_at l at (le_bytes (a + b) n)
put_add a b at n l h e e' = rw digits_add (put_more at (at + a) l (le_bytes a n) (le_bytes b (n / 256 ^ a)) (omega arith) (rw length_digits) e e')

-- a byte put is one list entry set
put_byte : (l : List ℕ) (i x : ℕ) → i < length l → set l i x ≡ put_at l i (x ∷ [])
put_byte l i x h = set_split l i x h ∙ simp (append_snoc, add-one)

-- the bytes of a number before byte i are put over the first of a list, and what is left of the number
pub record Puts (n : ℕ) (old : List ℕ) (i rest : ℕ) (new : List ℕ) : Type 0 where
  pub left : rest ≡ n / 256 ^ i
  pub is : new ≡ put_at old 0 (le_bytes i n)

module _ {n : ℕ} {old : List ℕ} {i rest : ℕ} {new : List ℕ} (p : Puts n old i rest new) where
  pub put_more_byte : i < length old → i < length new → Puts n old (i + 1) (rest / 256) (set new i (rest % 256))
  put_more_byte old_room room = record {
    left = rw (p.left, div-div-eq-div-mul, add-one, pow-suc);
    is = put_add i 1 0 n old (omega arith) p.is (rw zero-add (put_byte new i (rest % 256) room ∙ rw p.left));
  }

-- at the end the part of a list from `at` on is those bytes
pub puts_all : (at w : ℕ) (l : List ℕ) {n k i rest : ℕ} {new : List ℕ} → Puts n (take k (drop at l)) i rest new → at + w ≤ length l → k ≡ w → i ≡ w
    → take at l ++ (new ++ drop k (drop at l)) ≡ put_at l at (le_bytes w n)
puts_all at w l {n} {k} {i} {rest} {new} p h ek ei =
    let gone : drop w (take w (drop at l)) ≡ [] = drop_all w (take w (drop at l)) (omega (arith, length-take w (drop at l))) in
    let e : new ≡ le_bytes w n = (rw (ei, ek) at p.is) ∙ rw (zero-add, length_digits, gone, append-nil) in
    rw (e, ek, drop-drop, length_digits, append_assoc)

-- one number more of a section that is being written behind `front`
pub put_next : (w x at : ℕ) (l front done rest : List ℕ) → l ≡ front ++ bytes w done ++ rest → at ≡ length front + w * length done
    → put_at l at (le_bytes w x) ≡ front ++ bytes w (done ++ (x ∷ [])) ++ drop w rest
unfolding bytes spread
put_next w x at l front done rest e ea =
    let seam : at ≡ length (front ++ bytes w done) = simp (length-append, length_bytes) (omega arith) in
    rw (e, seam) (put_behind (front ++ bytes w done) rest (le_bytes w x) ∙ simp (map-append, join_append, append-nil, append_assoc, length_digits))

pub length_put : (at : ℕ) (l vs : List ℕ) → at + length vs ≤ length l → length (put_at l at vs) ≡ length l
length_put at l vs h = simp (length-append, length-take, length-drop) (omega arith)

-- what is there already, put over itself
pub put_same : (at n : ℕ) (l : List ℕ) → at + n ≤ length l → put_at l at (take n (drop at l)) ≡ l
put_same at n l h =
    let e : length (take n (drop at l)) ≡ n = length-take-le n (drop at l) (omega (arith, length-drop at l)) in
    rw (e, ← drop-drop, append_assoc, take-append-drop n (drop at l)) (take-append-drop at l)

-- what lies before `at` stays
pub put_before : (a n at : ℕ) (l vs : List ℕ) → a + n ≤ at → at ≤ length l → take n (drop a (put_at l at vs)) ≡ take n (drop a l)
put_before a n at l vs h fits =
    let front : List ℕ = take at l in
    let inside : (rest : List ℕ) → take n (drop a (front ++ rest)) ≡ take n (drop a front) =
    λ rest. let e : length front ≡ at = length-take-le at l fits in
    rw (drop-append-le a front rest (omega arith)) (take-append-le n (drop a front) rest (omega (arith, length-drop a front))) in
    rw append_assoc (inside _ ∙ rw take-append-drop at (sym (inside (drop at l))))

pub bytes_append : (w : ℕ) (xs ys : List ℕ) → bytes w (xs ++ ys) ≡ bytes w xs ++ bytes w ys
unfolding bytes spread
bytes_append w xs ys = simp (map-append, join_append)

bytes_cons : (w x : ℕ) (xs : List ℕ) → bytes w (x ∷ xs) ≡ le_bytes w x ++ bytes w xs
unfolding bytes spread
bytes_cons w x xs = refl

-- a number put over number i of a section
pub put_set : (w x i at : ℕ) (l xs : List ℕ) → at ≤ length l → i < length xs → put_at (put_at l at (bytes w xs)) (at + w * i) (le_bytes w x) ≡ put_at l at (bytes w (set xs i x))
put_set w x i at l xs fits h =
    let rest : List ℕ = drop (at + length (bytes w xs)) l in
    let split : bytes w (take i xs) ++ bytes w (drop i xs) ≡ bytes w xs = rw (← bytes_append, take-append-drop) in
    let behind : drop w (bytes w (drop i xs) ++ rest) ≡ bytes w (drop (suc i) xs) ++ rest =
    rw (drop-cons xs i 0 h, bytes_cons, append_assoc) (drop_at (le_bytes w (get_or xs i 0)) _ w (length_digits 256 w (get_or xs i 0))) in
    let size : length (bytes w (set xs i x)) ≡ length (bytes w xs) = simp (length_bytes, length-set) in
    put_next w x (at + w * i) (put_at l at (bytes w xs)) (take at l) (take i xs) (bytes w (drop i xs) ++ rest) (rw (← split) (simp append_assoc))
    (rw (length-take-le at l fits, length-take-le i xs (omega arith)))
    ∙ rw (behind, size, set_split xs i x h, ← append_snoc (take i xs) x (drop (suc i) xs), bytes_append w (take i xs ++ (x ∷ []))) (simp append_assoc)
