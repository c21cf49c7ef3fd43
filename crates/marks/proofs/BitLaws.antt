-- A bit set in a word, and in a map of words: it is set there, and every other stays. Assumes nothing.
use mathlib.Core.Path.{◌≡◌, refl, sym, ap, ◌∙◌}
use mathlib.Core.Bool.{Bool, true, false}
use mathlib.Core.List.{List}
use Prim.Native.Nat.{ℕ, zero, suc, ◌+◌, ◌-◌, ◌*◌, ◌/◌, ◌%◌, ◌^◌, ◌<◌}
use native.Mathlib.Nat.{one-mul, mod-lt, mul-mod_left, div-eq_of_lt, zero-div, pow-suc}
use native.Mathlib.Decide.{ℕ_discrete}
use native.Mathlib.Omega.{arith}
use lib.Dec.{lit<, ltb}
use lib.ListN.{length, get_or, set, replicate, get_or-replicate}
use lib.Seq.{get_or-set_same, get_or-set_other}
use lib.Pow.{pow-lt, pow-add, shl_exact, shl-shr}
use lib.Bits.{bit_or, or_shr, or_mod, or_zero_r}
use borrow.Author.Tests.{ltb-true, ltb-false}
use Rattle.marks.specs.Bits.{bit_of, BitSet, bit_in}

-- ---- a word

pow_same : (b : ℕ) → bit_of (2 ^ b) b ≡ 1
pow_same b = ap (λ (n : ℕ). n / 2 ^ b % 2) (sym (one-mul (2 ^ b))) ∙ ap (λ (n : ℕ). n % 2) (shl-shr 1 b)

pow_above : (b k : ℕ) → bit_of (2 ^ (suc k + b)) b ≡ 0
pow_above b k = ap (λ (n : ℕ). n / 2 ^ b % 2) (pow-add 2 (suc k) b) ∙ ap (λ (n : ℕ). n % 2) (shl-shr (2 ^ suc k) b ∙ pow-suc 2 k) ∙ mul-mod_left (2 ^ k) 2

pow_other : (b j : ℕ) → (j ≡ b → ⊥) → bit_of (2 ^ b) j ≡ 0
pow_other b j n = by_order (ltb b j) refl
  where
    by_order : (t : Bool) → ltb b j ≡ t → bit_of (2 ^ b) j ≡ 0
    by_order true e = ap (λ (x : ℕ). x % 2) (div-eq_of_lt (pow-lt (ltb-true b j e)))
    by_order false e = let q : suc (b - j - 1) + j ≡ b = omega (arith, n, ltb-false b j e) in rw q at (pow_above j (b - j - 1))

or_bit : (w m j : ℕ) → bit_of (bit_or w m) j ≡ bit_or (bit_of w j) (bit_of m j)
or_bit w m j = ap (λ (n : ℕ). n % 2) (or_shr w m j) ∙ or_mod (w / 2 ^ j) (m / 2 ^ j) 1

or_one : (d : ℕ) → d < 2 → bit_or d 1 ≡ 1
or_one zero h = refl
or_one (suc zero) h = refl
or_one (suc (suc d)) h = absurd (omega arith)

pub sets : (w b : ℕ) → b < 64 → BitSet w b (bit_or w ((1 * 2 ^ b) % 2 ^ 64))
sets w b h =
    let one : (1 * 2 ^ b) % 2 ^ 64 ≡ 2 ^ b = shl_exact 1 b 64 (lit< tt) (omega arith) ∙ one-mul (2 ^ b) in
    record {
      now_set = rw (one, or_bit, pow_same) (or_one (bit_of w b) (mod-lt (w / 2 ^ b) (lit< tt)));
      others = λ j n. rw (one, or_bit, pow_other b j n) (or_zero_r (bit_of w j));
    }

-- ---- a map of words

pub bit_none : (k v : ℕ) → v / 64 < k → bit_in (replicate k 0) v ≡ 0
bit_none k v h = rw (get_or-replicate {A = ℕ} k (v / 64) 0 0 h) (ap (λ (n : ℕ). n % 2) (zero-div (2 ^ (v % 64))))

module _ (ws : List ℕ) (x : ℕ) {r : ℕ} (inside : x / 64 < length ws) (now : BitSet (get_or ws (x / 64) 0) (x % 64) r) where
  pub bit_same : bit_in (set ws (x / 64) r) x ≡ 1
  bit_same = rw (get_or-set_same ws (x / 64) r 0 inside) now.now_set

  pub bit_other : (v : ℕ) → (v ≡ x → ⊥) → bit_in (set ws (x / 64) r) v ≡ bit_in ws v
  bit_other v n = elim (ℕ_discrete (v / 64) (x / 64)) [
    | yes q ↦ rw (q, get_or-set_same ws (x / 64) r 0 inside) (now.others (v % 64) (λ z. n (omega arith)))
    | no q ↦ rw (get_or-set_other ws (x / 64) (v / 64) r 0 q)
  ]
