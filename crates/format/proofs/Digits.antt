-- Laws of digits, `gather` and `spread`: one pair of functions writes and reads trytes, mark words and little-endian numbers, so each law here
-- serves all three. Assumes nothing.
use Prim.Native.Nat.{ℕ, zero, suc, ◌+◌, ◌-◌, ◌*◌, ◌/◌, ◌%◌, ◌^◌, ◌≤◌, ◌<◌, zero-le, suc-le-suc}
use native.Mathlib.Nat.{zero-add, add-zero, le_of_suc-le-suc, not-suc-le-zero, le_refl, le_trans, mul-zero, mul-suc, suc-mul, mul_comm, pow-zero, pow-suc, pow-succ', one-le-mul, zero-mod, zero-div, mod-lt, mod-eq_of_lt, div-eq_of_lt, add-mul-mod_self_left, add-mul-div_left, mod-add-div, div-add-mod, div-lt_iff_lt-mul, div-one, div-div-eq-div-mul, le-div_iff_mul-le, lt-mul-div-succ, mul-add-div, mul-le-mul_left}
use native.Mathlib.Decide.{dec_le}
use native.Mathlib.Omega.{arith}
use native.Mathlib.Numerals.{add-one}
use mathlib.Core.Path.{◌≡◌, refl, sym, ap, ◌∙◌, subst}
use mathlib.Core.List.{List, [], ◌∷◌, ◌++◌, map}
use lib.Arith.{lt-one}
use lib.ListN.{length, get_or, take, drop, length-append, length-drop, length-take, get_or-eq_default}
use lib.Seq.{take_all, take_at, drop-append-add, length-take-le, get_or-take, get_or-drop, ext_get_or}
use Rattle.format.specs.Lists.{join, up, horner, low_digits, gather, spread, Below}
use Rattle.format.proofs.Laws.{length_each, get_or_each}

pub below_tail : (b d : ℕ) (ds : List ℕ) → Below b (d ∷ ds) → Below b ds
below_tail b d ds h i l = h (suc i) (suc-le-suc l)

pub below_head : (b d : ℕ) (ds : List ℕ) → Below b (d ∷ ds) → d < b
below_head b d ds h = h zero (suc-le-suc zero-le)

-- ---- a number and its digits

pub length_digits : (b w x : ℕ) → length (low_digits b w x) ≡ w
length_digits b zero x = refl
length_digits b (suc w) x = ap suc (length_digits b w (x / b))

pub below_digits : (b w x : ℕ) → 0 < b → Below b (low_digits b w x)
below_digits b zero x pos i h = absurd (not-suc-le-zero h)
below_digits b (suc w) x pos zero h = mod-lt x pos
below_digits b (suc w) x pos (suc i) h = below_digits b w (x / b) pos i (le_of_suc-le-suc h)

pub horner_digits : (b w x : ℕ) → 0 < b → x < b ^ w → horner b (low_digits b w x) ≡ x
horner_digits b zero x pos h = sym (lt-one (subst (λ (k : ℕ). x < k) (pow-zero b) h))
horner_digits b (suc w) x pos h =
    ap (λ (q : ℕ). x % b + b * q) (horner_digits b w (x / b) pos ((div-lt_iff_lt-mul pos).1 (subst (λ (k : ℕ). x < k) (pow-suc b w) h)))
    ∙ mod-add-div x b

low : (b d h : ℕ) → d < b → (d + b * h) % b ≡ d
low b d h l = add-mul-mod_self_left d b h ∙ mod-eq_of_lt l

high : (b d h : ℕ) → d < b → (d + b * h) / b ≡ h
high b d h l = add-mul-div_left d h (le_trans (suc-le-suc zero-le) l) ∙ ap (λ (k : ℕ). k + h) (div-eq_of_lt l) ∙ zero-add h

-- the digits of a number that was made of digits are those, and 0 past them
digit_at : (b w : ℕ) (ds : List ℕ) → 0 < b → Below b ds → (r : ℕ) → r < w → get_or (low_digits b w (horner b ds)) r 0 ≡ get_or ds r 0
digit_at b zero ds pos h r l = absurd (not-suc-le-zero l)
digit_at b (suc w) [] pos h zero l = zero-mod b
digit_at b (suc w) [] pos h (suc r) l = ap (λ (x : ℕ). get_or (low_digits b w x) r 0) (zero-div b) ∙ digit_at b w [] pos h r (le_of_suc-le-suc l)
digit_at b (suc w) (d ∷ ds) pos h zero l = low b d (horner b ds) (below_head b d ds h)
digit_at b (suc w) (d ∷ ds) pos h (suc r) l =
    ap (λ (x : ℕ). get_or (low_digits b w x) r 0) (high b d (horner b ds) (below_head b d ds h)) ∙ digit_at b w ds pos (below_tail b d ds h) r (le_of_suc-le-suc l)

power_pos : (b w : ℕ) → 0 < b → 0 < b ^ w
power_pos b zero pos = subst (λ (k : ℕ). 0 < k) (sym (pow-zero b)) (le_refl 1)
power_pos b (suc w) pos = subst (λ (k : ℕ). 0 < k) (sym (pow-suc b w)) (one-le-mul (power_pos b w pos) pos)

-- a number of at most w digits
pub horner_lt : (b w : ℕ) (ds : List ℕ) → 0 < b → Below b ds → length ds ≤ w → horner b ds < b ^ w
horner_lt b w [] pos h l = power_pos b w pos
horner_lt b zero (d ∷ ds) pos h l = absurd (not-suc-le-zero l)
horner_lt b (suc w) (d ∷ ds) pos h l =
    let ih : horner b ds < b ^ w = horner_lt b w ds pos (below_tail b d ds h) (le_of_suc-le-suc l) in
    let m : b * suc (horner b ds) ≤ b * b ^ w = mul-le-mul_left b ih in
    subst (λ (k : ℕ). d + b * horner b ds < k) (sym (pow-succ' b w)) (omega (arith, below_head b d ds h, mul-suc b (horner b ds)))

-- digit r, by division
pub digits_at : (b w x r : ℕ) → r < w → get_or (low_digits b w x) r 0 ≡ x / b ^ r % b
digits_at b zero x r h = absurd (not-suc-le-zero h)
digits_at b (suc w) x zero h = ap (λ (k : ℕ). k % b) (sym (ap (λ (k : ℕ). x / k) (pow-zero b) ∙ div-one x))
digits_at b (suc w) x (suc r) h =
    digits_at b w (x / b) r (le_of_suc-le-suc h) ∙ ap (λ (k : ℕ). k % b) (div-div-eq-div-mul x b (b ^ r) ∙ ap (λ (k : ℕ). x / k) (sym (pow-succ' b r)))

-- w digits, there and back
pub digits_horner : (b w : ℕ) (ds : List ℕ) → 0 < b → Below b ds → length ds ≡ w → low_digits b w (horner b ds) ≡ ds
digits_horner b w ds pos h e =
    ext_get_or 0 (low_digits b w (horner b ds)) ds (length_digits b w (horner b ds) ∙ sym e)
    (λ i l. digit_at b w ds pos h i (subst (λ (k : ℕ). i < k) (length_digits b w (horner b ds)) l))

pub below_take : (b n : ℕ) (ds : List ℕ) → Below b ds → Below b (take n ds)
below_take b n ds h i l =
    subst (λ (x : ℕ). x < b) (sym (get_or-take n ds i 0 (omega (arith, length-take n ds)))) (h i (omega (arith, length-take n ds)))

pub below_drop : (b n : ℕ) (ds : List ℕ) → Below b ds → Below b (drop n ds)
below_drop b n ds h i l = subst (λ (x : ℕ). x < b) (sym (get_or-drop n ds i 0)) (h (n + i) (omega (arith, length-drop n ds)))

-- two lists that agree at each index, 0 past their ends, make one number
pub horner_ext : (b : ℕ) (xs ys : List ℕ) → ((j : ℕ) → get_or xs j 0 ≡ get_or ys j 0) → horner b xs ≡ horner b ys
horner_ext b [] [] h = refl
horner_ext b [] (y ∷ ys) h =
    let e1 : 0 ≡ y = h 0 in
    let e2 : 0 ≡ horner b ys = horner_ext b [] ys (λ j. h (suc j)) in
    sym (ap (λ (k : ℕ). y + b * k) (sym e2) ∙ ap (λ (k : ℕ). y + k) (mul-zero b) ∙ add-zero y ∙ sym e1)
horner_ext b (x ∷ xs) [] h =
    let e1 : x ≡ 0 = h 0 in
    let e2 : horner b xs ≡ 0 = horner_ext b xs [] (λ j. h (suc j)) in
    ap (λ (k : ℕ). x + b * k) e2 ∙ ap (λ (k : ℕ). x + k) (mul-zero b) ∙ add-zero x ∙ e1
horner_ext b (x ∷ xs) (y ∷ ys) h =
    let e1 : x ≡ y = h 0 in
    let e2 : horner b xs ≡ horner b ys = horner_ext b xs ys (λ j. h (suc j)) in
    cc

-- ---- n / w rounded up

module _ (n w : ℕ) (pos : 0 < w) where
  pub lt_up : (i : ℕ) → w * i < n → i < up n w
  lt_up i h = (le-div_iff_mul-le pos).1 (omega (arith, suc-mul i w, mul_comm i w))

  pub le_up : n ≤ w * up n w
  le_up = omega (arith, lt-mul-div-succ (n + (w - 1)) pos, mul-suc w (up n w), ap (λ (k : ℕ). w * k) (add-one (up n w)))

pub up_mul : (w k : ℕ) → 0 < w → up (w * k) w ≡ k
up_mul w k pos =
    let small : w - 1 < w = omega arith in
    mul-add-div pos k (w - 1) ∙ ap (λ (x : ℕ). k + x) (div-eq_of_lt small) ∙ add-zero k

-- ---- blocks of one length, one after the other

module _ {A : Type 0} (w : ℕ) (f : A → List ℕ) (len : (x : A) → length (f x) ≡ w) where
  pub length_blocks : (xs : List A) → length (join (map f xs)) ≡ w * length xs
  length_blocks [] = sym (mul-zero w)
  length_blocks (x ∷ xs) =
      length-append (f x) (join (map f xs)) ∙ omega (arith, len x, length_blocks xs, mul-suc w (length xs))

  pub block : (xs : List A) (i : ℕ) (d : A) → i < length xs → take w (drop (w * i) (join (map f xs))) ≡ f (get_or xs i d)
  block [] i d h = absurd (not-suc-le-zero h)
  block (x ∷ xs) zero d h =
      ap (λ (k : ℕ). take w (drop k (f x ++ join (map f xs)))) (mul-zero w) ∙ take_at (f x) (join (map f xs)) w (len x)
  block (x ∷ xs) (suc i) d h =
      let e : w * suc i ≡ length (f x) + w * i = omega (arith, mul-suc w i, len x) in
      ap (λ (k : ℕ). take w (drop k (f x ++ join (map f xs)))) e
      ∙ ap (take w) (drop-append-add (f x) (join (map f xs)) (w * i))
      ∙ block xs i d (le_of_suc-le-suc h)

-- ---- packed and spread

pub length_gather : (b w : ℕ) (ds : List ℕ) → length (gather b w ds) ≡ up (length ds) w
unfolding gather
length_gather b w ds = length_each (up (length ds) w) (λ i. horner b (take w (drop (w * i) ds)))

pub gather_at : (b w : ℕ) (ds : List ℕ) (i : ℕ) → i < up (length ds) w → get_or (gather b w ds) i 0 ≡ horner b (take w (drop (w * i) ds))
unfolding gather
gather_at b w ds i h = get_or_each (up (length ds) w) (λ i. horner b (take w (drop (w * i) ds))) i 0 h

pub length_spread : (b w : ℕ) (ws : List ℕ) → length (spread b w ws) ≡ w * length ws
unfolding spread
length_spread b w ws = length_blocks w (low_digits b w) (length_digits b w) ws

-- word i's digits stand at w·i
pub spread_at : (b w : ℕ) (ws : List ℕ) (i : ℕ) → i < length ws → take w (drop (w * i) (spread b w ws)) ≡ low_digits b w (get_or ws i 0)
unfolding spread
spread_at b w ws i h = block w (low_digits b w) (length_digits b w) ws i 0 h

module _ (b w : ℕ) (pb : 0 < b) (pw : 0 < w) where
  -- words come back
  pub gather_spread : (ws : List ℕ) → Below (b ^ w) ws → gather b w (spread b w ws) ≡ ws
  gather_spread ws h =
      let e : up (length (spread b w ws)) w ≡ length ws = ap (λ (k : ℕ). up k w) (length_spread b w ws) ∙ up_mul w (length ws) pw in
      ext_get_or 0 (gather b w (spread b w ws)) ws (length_gather b w (spread b w ws) ∙ e)
      (λ i l.
      let l' : i < up (length (spread b w ws)) w = subst (λ (k : ℕ). i < k) (length_gather b w (spread b w ws)) l in
      let l'' : i < length ws = subst (λ (k : ℕ). i < k) e l' in
      gather_at b w (spread b w ws) i l' ∙ ap (horner b) (spread_at b w ws i l'') ∙ horner_digits b w (get_or ws i 0) pb (h i l''))

  -- a part of a block that lies in the list
  pub get_or_block : (ds : List ℕ) (q r : ℕ) → r < w → get_or (take w (drop (w * q) ds)) r 0 ≡ get_or ds (w * q + r) 0
  get_or_block ds q r h = get_or-take w (drop (w * q) ds) r 0 h ∙ get_or-drop (w * q) ds r 0

  pub length_block : (ds : List ℕ) (q : ℕ) → length (take w (drop (w * q) ds)) ≤ w
  length_block ds q = omega (arith, length-take w (drop (w * q) ds))

  pub below_block : (ds : List ℕ) → Below b ds → (q : ℕ) → Below b (take w (drop (w * q) ds))
  below_block ds h q r l =
      let lr : r < w = omega (arith, length_block ds q) in
      let ld : w * q + r < length ds = omega (arith, length-take w (drop (w * q) ds), length-drop (w * q) ds) in
      subst (λ (x : ℕ). x < b) (sym (get_or_block ds q r lr)) (h (w * q + r) ld)

  get_or_spread : (ws : List ℕ) (q r : ℕ) → q < length ws → r < w → get_or (spread b w ws) (w * q + r) 0 ≡ get_or (low_digits b w (get_or ws q 0)) r 0
  get_or_spread ws q r lq lr = sym (get_or_block (spread b w ws) q r lr) ∙ ap (λ (l : List ℕ). get_or l r 0) (spread_at b w ws q lq)

  pub below_spread : (ws : List ℕ) → Below b (spread b w ws)
  below_spread ws p l =
      let q : ℕ = p / w in
      let r : ℕ = p % w in
      let e : w * q + r ≡ p = div-add-mod p w in
      let lq : q < length ws = (div-lt_iff_lt-mul pw).1 (omega (arith, length_spread b w ws, mul_comm w (length ws))) in
      let lr : r < w = mod-lt p pw in
      subst (λ (x : ℕ). x < b) (sym (get_or_spread ws q r lq lr) ∙ ap (λ (k : ℕ). get_or (spread b w ws) k 0) e)
      (below_digits b w (get_or ws q 0) pb r (subst (λ (k : ℕ). r < k) (sym (length_digits b w (get_or ws q 0))) lr))

  -- the word packed from block q has that block's digits
  pub gather_digit : (ds : List ℕ) → Below b ds → (q r : ℕ) → q < up (length ds) w → r < w
      → get_or (low_digits b w (get_or (gather b w ds) q 0)) r 0 ≡ get_or ds (w * q + r) 0
  gather_digit ds h q r lq lr =
      ap (λ (x : ℕ). get_or (low_digits b w x) r 0) (gather_at b w ds q lq)
      ∙ digit_at b w (take w (drop (w * q) ds)) pb (below_block ds h q) r lr
      ∙ get_or_block ds q r lr

  -- digits come back, and past them 0
  pub spread_gather_at : (ds : List ℕ) → Below b ds → (p : ℕ) → get_or (spread b w (gather b w ds)) p 0 ≡ get_or ds p 0
  spread_gather_at ds h p =
      let q : ℕ = p / w in
      let r : ℕ = p % w in
      let e : w * q + r ≡ p = div-add-mod p w in
      ap (λ (k : ℕ). get_or (spread b w (gather b w ds)) k 0) (sym e) ∙ go q r (mod-lt p pw) (dec_le (suc q) (up (length ds) w)) ∙ ap (λ (k : ℕ). get_or ds k 0) e
    where
      go : (q r : ℕ) → r < w → Dec (suc q ≤ up (length ds) w) → get_or (spread b w (gather b w ds)) (w * q + r) 0 ≡ get_or ds (w * q + r) 0
      go q r lr (yes lq) = get_or_spread (gather b w ds) q r (subst (λ (k : ℕ). q < k) (sym (length_gather b w ds)) lq) lr ∙ gather_digit ds h q r lq lr
      go q r lr (no f) =
          let m : w * up (length ds) w ≤ w * q = mul-le-mul_left w (omega arith) in
          let len : length (spread b w (gather b w ds)) ≡ w * up (length ds) w = length_spread b w (gather b w ds) ∙ ap (λ (k : ℕ). w * k) (length_gather b w ds) in
          get_or-eq_default (spread b w (gather b w ds)) 0 (omega arith) ∙ sym (get_or-eq_default ds 0 (omega (arith, le_up (length ds) w pw)))

  pub spread_gather : (ds : List ℕ) → Below b ds → take (length ds) (spread b w (gather b w ds)) ≡ ds
  spread_gather ds h =
      let n : ℕ = length ds in
      let S : List ℕ = spread b w (gather b w ds) in
      let len : length S ≡ w * up n w = length_spread b w (gather b w ds) ∙ ap (λ (k : ℕ). w * k) (length_gather b w ds) in
      let full : length (take n S) ≡ n = length-take-le n S (omega (arith, le_up n w pw)) in
      ext_get_or 0 (take n S) ds full (λ p l. get_or-take n S p 0 (omega arith) ∙ spread_gather_at ds h p)

  -- whole words: nothing is cut off
  pub spread_gather_whole : (ds : List ℕ) (k : ℕ) → Below b ds → length ds ≡ w * k → spread b w (gather b w ds) ≡ ds
  spread_gather_whole ds k h e =
      let S : List ℕ = spread b w (gather b w ds) in
      let len : length S ≡ length ds =
      length_spread b w (gather b w ds) ∙ ap (λ (x : ℕ). w * x) (length_gather b w ds ∙ ap (λ (x : ℕ). up x w) e ∙ up_mul w k pw) ∙ sym e in
      sym (take_all (length ds) S (omega arith)) ∙ spread_gather ds h

  -- digits past L that are 0 are padding
  pub gather_pad : (ds : List ℕ) (L : ℕ) → L ≤ length ds → up L w ≡ up (length ds) w → ((p : ℕ) → L ≤ p → get_or ds p 0 ≡ 0) → gather b w (take L ds) ≡ gather b w ds
  gather_pad ds L fits e z =
      let lt : length (take L ds) ≡ L = length-take-le L ds fits in
      let eu : up (length (take L ds)) w ≡ up (length ds) w = ap (λ (k : ℕ). up k w) lt ∙ e in
      ext_get_or 0 (gather b w (take L ds)) (gather b w ds) (length_gather b w (take L ds) ∙ eu ∙ sym (length_gather b w ds))
      (λ i l.
      let l1 : i < up (length (take L ds)) w = subst (λ (k : ℕ). i < k) (length_gather b w (take L ds)) l in
      let l2 : i < up (length ds) w = subst (λ (k : ℕ). i < k) eu l1 in
      gather_at b w (take L ds) i l1
      ∙ horner_ext b (take w (drop (w * i) (take L ds))) (take w (drop (w * i) ds)) (λ j. go i j (dec_le (suc j) w))
      ∙ sym (gather_at b w ds i l2))
    where
      short : (p : ℕ) → Dec (suc p ≤ L) → get_or (take L ds) p 0 ≡ get_or ds p 0
      short p (yes h) = get_or-take L ds p 0 h
      short p (no h) =
          let h' : L ≤ p = omega arith in
          get_or-eq_default (take L ds) 0 (omega (arith, length-take-le L ds fits)) ∙ sym (z p h')

      go : (i j : ℕ) → Dec (suc j ≤ w) → get_or (take w (drop (w * i) (take L ds))) j 0 ≡ get_or (take w (drop (w * i) ds)) j 0
      go i j (yes h) = get_or_block (take L ds) i j h ∙ short (w * i + j) (dec_le (suc (w * i + j)) L) ∙ sym (get_or_block ds i j h)
      go i j (no h) =
          get_or-eq_default (take w (drop (w * i) (take L ds))) 0 (omega (arith, length_block (take L ds) i))
          ∙ sym (get_or-eq_default (take w (drop (w * i) ds)) 0 (omega (arith, length_block ds i)))
