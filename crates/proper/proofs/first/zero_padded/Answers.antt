-- The chain's test of all places past the first l is the definition's test of their trits.
use Rattle.std.proofs.Common.{ℕ, zero, suc, Bool, eqb, List, ◌∷◌, ◌≡◌, ◌+◌, ◌-◌, ◌*◌, ◌<◌, ◌&&◌, ◌∙◌, refl, ap, arith, rules, tests, length, get_or, drop}
use Rattle.std.specs.List.{list_all, range_with_len}
use Rattle.std.proofs.lemmas.Iterator.{YieldsList-from_range}
use Rattle.std.proofs.lemmas.Iterator.Search.{all_from_yields_List}
use lib.Seq.{drop-cons}
use lib.ListN.{drop_of_length-le}
use native.Mathlib.Numerals.{add-one}
use Rattle.format.specs.Lists.{every, spread}
use Rattle.format.specs.Proper.{padded}
use Rattle.format.proofs.Digits.{length_spread}
use Rattle.proper.proofs.first.zero_padded.Goals as goal

all_every : (f : ℕ → Bool) (xs : List ℕ) (n a : ℕ) → length xs ≡ a + n → list_all (λ p. f (get_or xs p 0)) (range_with_len a n) ≡ every f (drop a xs)
all_every f xs zero a e = rw (drop_of_length-le xs {i = a} (omega arith)) refl
all_every f xs (suc n) a e =
    let h : a < length xs = omega arith in
    let front : drop a xs ≡ get_or xs a 0 ∷ drop (a + 1) xs = rw (add-one, drop-cons xs a 0) in
    rw front (ap (λ (b : Bool). f (get_or xs a 0) && b) (all_every f xs n (a + 1) (omega arith)))

pub returns : goal.returns
unfolding padded
returns c =
    let x = c.args in
    let xs : List ℕ = spread 3 5 x.bs.now in
    all_from_yields_List (λ p. eqb 0 (get_or xs p 0)) _ _ _ c.all.ensures.ran (YieldsList-from_range x.l (5 * length x.bs.now) (5 * length x.bs.now - x.l) (cc) refl) (λ p b q k. search (rules, tests))
    ∙ all_every (eqb 0) xs (5 * length x.bs.now - x.l) x.l (omega (arith, length_spread 3 5 x.bs.now, c.requires.0))
