-- The trits that are left determine the cursor: so the contracts of `first`, `step` and `next_tryte` allow one answer each. Assumes nothing.
use Rattle.std.specs.Prelude.{Option, Some, None}
use mathlib.Core.Path.{◌≡◌, refl, sym, ap, ◌∙◌}
use mathlib.Core.List.{List, [], ◌∷◌, ◌++◌}
use Prim.Native.Nat.{ℕ, ◌+◌, ◌≤◌}
use native.Mathlib.Decide.{dec_le}
use native.Mathlib.Omega.{arith}
use lib.ListN.{length, get_or, take, drop, length-append, length-drop}
use lib.Seq.{length-take-le, take-append_seam}
use Rattle.format.specs.Lists.{count_in}
use Rattle.format.specs.Level.{Walk, see, see_all, close, turns, walk}
use Rattle.format.proofs.Walks.{see_cases}
use Rattle.packing.specs.Work.{graph_of}
use Rattle.packing.specs.Stream.{row_end, Stands, Rest, Wrote, Stepped, Took}
use Rattle.packing.specs.declared.stream.Cursor.{Cursor}
use Rattle.packing.specs.declared.stream.Trit.{Trit}
use Rattle.packing.specs.declared.stream.Trit.TheVariants.{End, Real, Shadow}

-- an operand writes a trit, and a row's end one
row_length : (vs : List ℕ) (w : Walk) → length (close (see_all vs w)).trits ≡ length w.trits + length vs + 1
unfolding see_all
row_length [] w = omega (arith, length-append w.trits (0 ∷ []))
row_length (v ∷ vs) w =
    let one = see_cases (λ (x : Walk). length x.trits ≡ length w.trits + 1) v w (λ e. length-append w.trits (1 ∷ [])) (λ k e. length-append w.trits (2 ∷ [])) in
    omega (arith, row_length vs (see v w))

left_is : {t : List ℕ} {n : ℕ} {w : Walk} {c : Cursor} → Stands t n w c → c.i ≤ n → length (turns (graph_of t) c.i).trits ≡ length w.trits + c.left + 1
left_is {t} {w = w} {c = c} s h =
    omega (
      arith,
      ap (λ (x : Walk). length x.trits) (s.row h),
      row_length (take c.left (drop c.at t)) w,
      length-take-le c.left (drop c.at t) (omega (arith, s.inside, length-drop c.at t)),
    )

stands_one : {t : List ℕ} {n : ℕ} {w w' : Walk} {c c' : Cursor} → Stands t n w c → Stands t n w' c' → w.trits ≡ w'.trits → c ≡ c'
stands_one {t} {n} {c = c} {c' = c'} s s' e = go (dec_le c.i n)
  where
    same_i : c.i ≡ c'.i
    same_i = s.rows ∙ ap (count_in 0) e ∙ sym s'.rows

    alike : c.left ≡ c'.left → c.at ≡ c'.at → c ≡ c'
    alike l a = λ j. record { i = same_i j; at = a j; left = l j; ones = (s.reals ∙ ap (count_in 1) e ∙ sym s'.reals) j }

    go : Dec (c.i ≤ n) → c ≡ c'
    go (yes h) =
        let h' : c'.i ≤ n = omega (arith, same_i) in
        let l : c.left ≡ c'.left = omega (arith, left_is s h, left_is s' h', ap (λ (x : ℕ). length (turns (graph_of t) x).trits) same_i, ap length e) in
        alike l (omega (arith, s.ends h, s'.ends h', ap (row_end t) same_i))
    go (no h) =
        let p = s.past (omega arith) in
        let p' = s'.past (omega (arith, same_i)) in
        alike (p.0 ∙ sym p'.0) (p.3 ∙ sym p'.3)

cancel_right : (a b c d : List ℕ) → a ++ c ≡ b ++ d → c ≡ d → a ≡ b
cancel_right a b c d e f =
    let l : length a ≡ length b = omega (arith, ap length e, length-append a c, length-append b d, ap length f) in
    sym (take-append_seam a c) ∙ (λ i. take (l i) (e i)) ∙ take-append_seam b d

module _ {t : List ℕ} {n : ℕ} where
  rest_one : {l l' : Walk} {c c' : Cursor} → Rest t n l c → Rest t n l' c' → l.trits ≡ l'.trits → c ≡ c'
  rest_one {l} {l'} r r' e =
      stands_one r.stands r'.stands
      (cancel_right r.sofar.trits r'.sofar.trits l.trits l'.trits (ap (λ (x : Walk). x.trits) (sym r.all ∙ r'.all)) e)

  pub first_one : {c c' : Cursor} → Rest t n (walk (graph_of t)) c → Rest t n (walk (graph_of t)) c' → c ≡ c'
  first_one r r' = rest_one r r' refl

  pub took_determined : {k : ℕ} {left : Walk} {v v' : ℕ} {c c' : Cursor} → Took t n k left v c → Took t n k left v' c' → (v ≡ v') × (c ≡ c')
  took_determined p p' = (p.value ∙ sym p'.value, rest_one p.rest p'.rest (p.trits ∙ sym p'.trits))

-- a step's trit; 3 where none is left
abbrev trit_of : Option Trit → ℕ
trit_of (Some End) = 0
trit_of (Some Real) = 1
trit_of (Some (Shadow p)) = 2
trit_of None = 3

told : (t : List ℕ) (n : ℕ) (left : Walk) (c : Cursor) (r : Option Trit) → Stepped t n left r c → get_or left.trits 0 3 ≡ trit_of r
told t n left c (Some End) s = ap (λ (l : List ℕ). get_or l 0 3) s.trits
told t n left c (Some Real) s = ap (λ (l : List ℕ). get_or l 0 3) s.trits
told t n left c (Some (Shadow p)) s = ap (λ (l : List ℕ). get_or l 0 3) s.trits
told t n left c None s = ap (λ (l : List ℕ). get_or l 0 3) s.0

module _ (t : List ℕ) (n : ℕ) (left : Walk) {c c' : Cursor} where
  wrote_one : {a : ℕ} {H H' : List ℕ} → Wrote t n a H left c → Wrote t n a H' left c' → c ≡ c'
  wrote_one w w' = rest_one w.rest w'.rest (ap (drop 1) (sym w.trits ∙ w'.trits))

  pub step_determined : (r r' : Option Trit) → Stepped t n left r c → Stepped t n left r' c' → (r ≡ r') × (c ≡ c')
  step_determined r r' s s' = go r r' s s' (sym (told t n left c r s) ∙ told t n left c' r' s')
    where
      go : (r r' : Option Trit) → Stepped t n left r c → Stepped t n left r' c' → trit_of r ≡ trit_of r' → (r ≡ r') × (c ≡ c')
      go (Some End) (Some End) s s' e = (refl, wrote_one s s')
      go (Some Real) (Some Real) s s' e = (refl, wrote_one s s')
      go (Some (Shadow p)) (Some (Shadow p')) s s' e =
          let h : p ≡ p' = ap (λ (l : List ℕ). get_or l 0 0) (sym s.shadows ∙ s'.shadows) in (λ i. Some (Shadow (h i)), wrote_one s s')
      go None None s s' e = (refl, rest_one s.2 s'.2 refl)
      go (Some End) (Some Real) s s' e = absurd (omega arith)
      go (Some End) (Some (Shadow p)) s s' e = absurd (omega arith)
      go (Some End) None s s' e = absurd (omega arith)
      go (Some Real) (Some End) s s' e = absurd (omega arith)
      go (Some Real) (Some (Shadow p)) s s' e = absurd (omega arith)
      go (Some Real) None s s' e = absurd (omega arith)
      go (Some (Shadow p)) (Some End) s s' e = absurd (omega arith)
      go (Some (Shadow p)) (Some Real) s s' e = absurd (omega arith)
      go (Some (Shadow p)) None s s' e = absurd (omega arith)
      go None (Some End) s s' e = absurd (omega arith)
      go None (Some Real) s s' e = absurd (omega arith)
      go None (Some (Shadow p)) s s' e = absurd (omega arith)
