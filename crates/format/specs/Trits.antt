-- Document 01, "Level order and trits": rank, select; "The image", section 1: trytes. Trits are a list of numbers below 3.
-- Assumes nothing.
use Rattle.std.specs.Prelude.{ℕ, suc, ◌-◌, ◌<◌, ◌≡◌, List, [], ◌∷◌, eqb, length, get_or, take}
use Rattle.std.proofs.Math.Option.{Option}
use Rattle.format.specs.Lists.{run, keep, count_in, numbered, low_digits, gather, spread}

-- rank of t before place p counts t in places 0 to p - 1
unfoldable pub rank : ℕ → List ℕ → ℕ → ℕ
rank t xs p = count_in t (take p xs)

-- the places that hold t, rising; past the end stands no trit
unfoldable pub places : ℕ → List ℕ → List ℕ
places t xs = keep (λ p. eqb (get_or xs p 3) t) (run 0 (length xs))

-- select of t, number j, is the place of the j-th t, j from 1
unfoldable pub select : ℕ → List ℕ → ℕ → Option ℕ
select t xs j = numbered (places t xs) j

-- that place as a number, where there is one
unfoldable pub nth : ℕ → List ℕ → ℕ → ℕ
nth t xs j = get_or (places t xs) (j - 1) 0

-- five trits a byte: t0 + 3·t1 + 9·t2 + 27·t3 + 81·t4; missing trits are 0
unfoldable pub trytes : List ℕ → List ℕ
trytes xs = gather 3 5 xs

-- the first L trits of the bytes
unfoldable pub untrytes : ℕ → List ℕ → List ℕ
untrytes L bs = take L (spread 3 5 bs)

-- how often t stands in the first r trits of a tryte
unfoldable pub tryte_count : ℕ → ℕ → ℕ → ℕ
tryte_count t byte r = count_in t (take r (low_digits 3 5 byte))

-- "A table of 243 entries gives the zeros and ones of every tryte": an entry is zeros + 8 · ones
abbrev pub tryte_table : List ℕ
tryte_table =
    5 ∷ 12 ∷ 4 ∷ 12 ∷ 19 ∷ 11 ∷ 4 ∷ 11 ∷ 3 ∷ 12 ∷ 19 ∷ 11 ∷ 19 ∷ 26 ∷ 18 ∷ 11 ∷ 18 ∷ 10 ∷ 4 ∷ 11 ∷ 3 ∷ 11 ∷ 18 ∷ 10 ∷ 3 ∷ 10 ∷ 2 ∷ 12 ∷ 19 ∷ 11 ∷ 19 ∷ 26 ∷ 18 ∷ 11 ∷ 18 ∷ 10 ∷ 19 ∷ 26 ∷ 18 ∷ 26 ∷ 33 ∷ 25 ∷ 18 ∷ 25 ∷ 17 ∷ 11 ∷ 18 ∷ 10 ∷ 18 ∷ 25 ∷ 17 ∷ 10 ∷ 17 ∷ 9 ∷ 4 ∷ 11 ∷ 3 ∷ 11 ∷ 18 ∷ 10 ∷ 3 ∷ 10 ∷ 2 ∷ 11 ∷ 18 ∷ 10 ∷ 18 ∷ 25 ∷ 17 ∷ 10 ∷ 17 ∷ 9 ∷ 3 ∷ 10 ∷ 2 ∷ 10 ∷ 17 ∷ 9 ∷ 2 ∷ 9 ∷ 1 ∷ 12 ∷ 19 ∷ 11 ∷ 19 ∷ 26 ∷ 18 ∷ 11 ∷ 18 ∷ 10 ∷ 19 ∷ 26 ∷ 18 ∷ 26 ∷ 33 ∷ 25 ∷ 18 ∷ 25 ∷ 17 ∷ 11 ∷ 18 ∷ 10 ∷ 18 ∷ 25 ∷ 17 ∷ 10 ∷ 17 ∷ 9 ∷ 19 ∷ 26 ∷ 18 ∷ 26 ∷ 33 ∷ 25 ∷ 18 ∷ 25 ∷ 17 ∷ 26 ∷ 33 ∷ 25 ∷ 33 ∷ 40 ∷ 32 ∷ 25 ∷ 32 ∷ 24 ∷ 18 ∷ 25 ∷ 17 ∷ 25 ∷ 32 ∷ 24 ∷ 17 ∷ 24 ∷ 16 ∷ 11 ∷ 18 ∷ 10 ∷ 18 ∷ 25 ∷ 17 ∷ 10 ∷ 17 ∷ 9 ∷ 18 ∷ 25 ∷ 17 ∷ 25 ∷ 32 ∷ 24 ∷ 17 ∷ 24 ∷ 16 ∷ 10 ∷ 17 ∷ 9 ∷ 17 ∷ 24 ∷ 16 ∷ 9 ∷ 16 ∷ 8 ∷ 4 ∷ 11 ∷ 3 ∷ 11 ∷ 18 ∷ 10 ∷ 3 ∷ 10 ∷ 2 ∷ 11 ∷ 18 ∷ 10 ∷ 18 ∷ 25 ∷ 17 ∷ 10 ∷ 17 ∷ 9 ∷ 3 ∷ 10 ∷ 2 ∷ 10 ∷ 17 ∷ 9 ∷ 2 ∷ 9 ∷ 1 ∷ 11 ∷ 18 ∷ 10 ∷ 18 ∷ 25 ∷ 17 ∷ 10 ∷ 17 ∷ 9 ∷ 18 ∷ 25 ∷ 17 ∷ 25 ∷ 32 ∷ 24 ∷ 17 ∷ 24 ∷ 16 ∷ 10 ∷ 17 ∷ 9 ∷ 17 ∷ 24 ∷ 16 ∷ 9 ∷ 16 ∷ 8 ∷ 3 ∷ 10 ∷ 2 ∷ 10 ∷ 17 ∷ 9 ∷ 2 ∷ 9 ∷ 1 ∷ 10 ∷ 17 ∷ 9 ∷ 17 ∷ 24 ∷ 16 ∷ 9 ∷ 16 ∷ 8 ∷ 2 ∷ 9 ∷ 1 ∷ 9 ∷ 16 ∷ 8 ∷ 1 ∷ 8 ∷ 0 ∷ []

-- ---- what statements say of it

-- p is the place of the j-th t: it holds t, and t stands j - 1 times before it
pub record Selected (t : ℕ) (xs : List ℕ) (j p : ℕ) : Type 0 where
  pub inside : p < length xs
  pub holds : get_or xs p 0 ≡ t
  pub ranked : suc (rank t xs p) ≡ j
