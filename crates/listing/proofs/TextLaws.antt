-- A text is written word after word: what is left of it is written next. Assumes nothing.
use Prim.Native.Nat.{ℕ, suc, ◌+◌, ◌-◌, ◌/◌, ◌%◌, ◌≤◌, ◌<◌}
use native.Mathlib.Nat.{add-zero, sub-zero}
use native.Mathlib.Numerals.{add-one}
use native.Mathlib.Omega.{arith}
use mathlib.Core.Path.{◌≡◌, sym, ap, ◌∙◌, subst}
use mathlib.Core.Bool.{Bool, true, false}
use mathlib.Core.List.{List, [], ◌∷◌, ◌++◌, map, append_assoc, append-nil}
use lib.ListN.{length, length-append}
use lib.Seq.{paste-zero}
use lib.Dec.{ltb}
use borrow.Author.Tests.{lt-ltb, le-ltb}
use Rattle.format.specs.Lists.{run, one_to, join}
use Rattle.format.specs.Listing.{text, decimal_in, newline, refusal}
use Rattle.little.proofs.Laws.{put_more, length_put}
use Rattle.listing.specs.Wrote.{Room, Wrote, field}

-- ---- words

-- of a whole text that has room from `at` on, the words `rest` are left to write from `end` on
pub record Left (was : List ℕ) (at : ℕ) (whole now : List ℕ) (end : ℕ) (rest : List (List ℕ)) : Type 0 where
  pub done : List ℕ
  pub is : whole ≡ done ++ join rest
  pub room : Room was at whole
  pub wrote : Wrote was at done end now

pub begin : (words : List (List ℕ)) {text : List ℕ} {at : ℕ} {whole : List ℕ} → whole ≡ join words → Room text at whole → Left text at whole text at words
begin words {text} {at} e r = record { done = []; is = e; room = r; wrote = record { ends = sym (add-zero at); are = paste-zero text at [] } }

-- two words
pub begin_two : (a b : List ℕ) {text : List ℕ} {at : ℕ} → Room text at (a ++ b) → Left text at (a ++ b) text at (a ∷ b ∷ [])
begin_two a b r = begin (a ∷ b ∷ []) (ap (λ (l : List ℕ). a ++ l) (sym (append-nil b))) r

-- the line of a refusal
pub begin_refusal : {code c : ℕ} {words : List ℕ} {at : ℕ} → code ≡ c → Room words at (refusal c) → Left words at (refusal c) words at (field (text "refused ") code ∷ newline ∷ [])
unfolding refusal
begin_refusal {code} e r = begin (field (text "refused ") code ∷ newline ∷ []) (ap refusal (sym e)) r

module _ {was : List ℕ} {at : ℕ} {whole now : List ℕ} {end : ℕ} where
  pub left_length : {rest : List (List ℕ)} → Left was at whole now end rest → length now ≡ length was
  left_length {rest} l =
      ap length l.wrote.are ∙ length_put at was l.done (omega (arith, l.room.fits, ap length l.is, length-append l.done (join rest)))

  -- the next word has room
  pub fits : {word : List ℕ} {rest : List (List ℕ)} → Left was at whole now end (word ∷ rest) → Room now end word
  fits {word} {rest} l = record {
    fits = omega (
      arith,
      left_length l,
      l.room.fits,
      l.wrote.ends,
      ap length l.is,
      length-append l.done (word ++ join rest),
      length-append word (join rest),
    );
  }

  -- and is written
  pub next : {word : List ℕ} {rest : List (List ℕ)} {end' : ℕ} {now' : List ℕ}
      → Left was at whole now end (word ∷ rest) → Wrote now end word end' now' → Left was at whole now' end' rest
  next {word} {rest} l w = record {
    done = l.done ++ word;
    is = l.is ∙ sym (append_assoc l.done word (join rest));
    room = l.room;
    wrote = record {
      ends = omega (arith, w.ends, l.wrote.ends, length-append l.done word);
      are = put_more at end was l.done word (omega (arith, l.room.fits)) l.wrote.ends l.wrote.are w.are;
    };
  }

  pub finish : Left was at whole now end [] → Wrote was at whole end now
  finish l = rw (l.is, append-nil) l.wrote

-- what is written for one of two equal words is written for the other
pub wrote_same : {was : List ℕ} {at : ℕ} {word word' : List ℕ} {end : ℕ} {now : List ℕ} → word ≡ word' → Wrote was at word end now → Wrote was at word' end now
wrote_same e w = rw (← e) w

-- ---- a text of parts 1 to n

-- the parts after part k
abbrev pub parts_from : (ℕ → List ℕ) → ℕ → ℕ → List (List ℕ)
parts_from f n k = map f (run (k + 1) (n - k))

pub parts_all : (f : ℕ → List ℕ) (n : ℕ) → join (map f (one_to n)) ≡ join (parts_from f n 0)
parts_all f n = ap (λ (k : ℕ). join (map f (run 1 k))) (sym (sub-zero n))

module _ (f : ℕ → List ℕ) (n k : ℕ) {was : List ℕ} {at : ℕ} {whole now : List ℕ} {end : ℕ} (l : Left was at whole now end (parts_from f n k)) where
  -- the next part
  pub part_next : k < n → {word : List ℕ} → word ≡ f (k + 1) → Left was at whole now end (word ∷ parts_from f n (k + 1))
  part_next h e =
      let m : n - k ≡ suc (n - (k + 1)) = omega arith in
      rw (e, add-one (k + 1)) (rw m at l)

  pub parts_done : n ≤ k → Wrote was at whole end now
  parts_done h = let m : n - k ≡ 0 = omega arith in finish (rw m at l)

-- part b, where the parts from b on are left
pub part_at : (f : ℕ → List ℕ) (n b : ℕ) {was : List ℕ} {at : ℕ} {whole now : List ℕ} {end : ℕ} → Left was at whole now end (parts_from f n (b - 1))
    → 1 ≤ b → b ≤ n → {word : List ℕ} → word ≡ f b → Left was at whole now end (word ∷ parts_from f n (b + 1 - 1))
part_at f n b {was} {at} {whole} {now} {end} l low high {word} e =
    let p : b ≡ b - 1 + 1 = omega arith in
    let q : b - 1 + 1 ≡ b + 1 - 1 = omega arith in
    subst (λ (k : ℕ). Left was at whole now end (word ∷ parts_from f n k)) q (part_next f n (b - 1) l (omega arith) (e ∙ ap f p))

-- ---- digits

-- a number in decimal, of at most d digits: none, one, or those before the last and the last
module _ {text : List ℕ} {at : ℕ} (d x : ℕ) (r : Room text at (decimal_in d x)) where
  pub digits_none : d ≡ 0 → Left text at (decimal_in d x) text at []
  digits_none e = begin [] (ap (λ (k : ℕ). decimal_in k x) e) r

  by : (k : ℕ) (b : Bool) → d ≡ suc k → ltb x 10 ≡ b → decimal_in d x ≡ elim b [ true ↦ (48 + x) ∷ [] | false ↦ decimal_in k (x / 10) ++ ((48 + x % 10) ∷ []) ]
  by k b e t = rw (e, ← t)

  pub digits_one : (d ≡ 0 → ⊥) → x < 10 → Left text at (decimal_in d x) text at (((48 + x % 10) ∷ []) ∷ [])
  digits_one some h =
      let e : x % 10 ≡ x = omega arith in begin _ (by (d - 1) true (omega arith) (lt-ltb x 10 h) ∙ ap (λ (k : ℕ). (48 + k) ∷ []) (sym e)) r

  pub digits_more : (d ≡ 0 → ⊥) → 10 ≤ x → Left text at (decimal_in d x) text at (decimal_in (d - 1) (x / 10) ∷ ((48 + x % 10) ∷ []) ∷ [])
  digits_more some h = begin _ (by (d - 1) false (omega arith) (le-ltb x 10 h)) r
