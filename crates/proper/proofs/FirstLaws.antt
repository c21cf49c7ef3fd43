-- Section 1's rules, as walks over its bytes and its trits see them. Assumes nothing.
use Prim.Native.Nat.{ℕ, zero, suc, ◌+◌, ◌-◌, ◌*◌, ◌≤◌, ◌<◌}
use native.Mathlib.Nat.{zero-add, le_of_suc-le-suc, not-suc-le-zero}
use native.Mathlib.Decide.{dec_le}
use native.Mathlib.Omega.{arith}
use native.Mathlib.Numerals.{add-one}
use mathlib.Core.Path.{◌≡◌, refl, sym, ap, ◌∙◌}
use mathlib.Core.Bool.{Bool, true, false, ◌&&◌}
use mathlib.Core.List.{List, [], ◌∷◌}
use mir.Val.{bool_byte}
use lib.Dec.{eqb, leb, lit≤}
use lib.ListN.{length, get_or, drop, drop_of_length-le}
use lib.Seq.{drop-cons, get_or-take}
use borrow.Author.Tests.{eqb-true, eqb-false, eq-eqb, ne_eqb, le-leb, leb-true}
use borrow.Author.Count.{below_none, below_more}
use Rattle.format.specs.Lists.{bit, count_in, every, spread, up, Below}
use Rattle.format.specs.Trits.{rank, untrytes, tryte_count}
use Rattle.format.specs.Image.{until_zero, node_count, root_count, edge_count}
use Rattle.format.specs.Proper.{bytes_low, padded, roots_first, balanced, grown, limits, contents_fault1, OwnRules}
use Rattle.format.proofs.Laws.{both_true, true_both, get_or_other, count_three, count_le, rank_zero, rank_suc, rank_mono, rank_past, rank_here, rank_hit, rank_miss, rank_count, rank_le, rank_three}
use Rattle.format.proofs.CheckLaws.{contents_1_gives, limits_nodes, length_untrytes, trits_untrytes, trytes_untrytes}
use Rattle.format.proofs.EdgeLaws.{lt_of_rank}
use Rattle.format.proofs.Sums.{roots_nodes}
use Rattle.format.proofs.ProperLaws.{zeros_ones, last_zero_lem, grown_walk, walk_grown}
use Rattle.trits.specs.Search.{Tryte}
use Rattle.trits.proofs.Trytes.{rank_more}
use Rattle.samples.specs.Lent.{TritsIn}
use Rattle.proper.specs.FirstSays.{Ballot}

-- ---- a test over what is left of a list

module _ (f : ℕ → Bool) (xs : List ℕ) (p : ℕ) where
  step : p < length xs → every f (drop p xs) ≡ (f (get_or xs p 0) && every f (drop (p + 1) xs))
  step h = rw (add-one, drop-cons xs p 0)

  pub every_more : p < length xs → f (get_or xs p 0) ≡ true → every f (drop p xs) ≡ every f (drop (p + 1) xs)
  every_more h e = step h ∙ ap (λ (b : Bool). b && every f (drop (p + 1) xs)) e

  pub every_stop : p < length xs → f (get_or xs p 0) ≡ false → every f (drop p xs) ≡ false
  every_stop h e = step h ∙ ap (λ (b : Bool). b && every f (drop (p + 1) xs)) e

  pub every_end : length xs ≤ p → every f (drop p xs) ≡ true
  every_end h = ap (every f) (drop_of_length-le xs h)

-- ---- trits by place

pub trit_of_lem : (l : ℕ) (bs : List ℕ) (p x : ℕ) → p < l → x ≡ get_or (spread 3 5 bs) p 0 → get_or (untrytes l bs) p 0 ≡ x
unfolding untrytes
trit_of_lem l bs p x h e = get_or-take l (spread 3 5 bs) p 0 h ∙ sym e

-- a test as a number
pub bit_is : (b : Bool) {n : ℕ} → n ≡ bool_byte b → n ≡ bit b
bit_is true e = e
bit_is false e = e

pub bit_few : (b : Bool) {n : ℕ} → n ≡ bool_byte b → n ≤ 1
bit_few true e = omega arith
bit_few false e = omega arith

-- one trit more
pub rank_turn : (t : ℕ) (xs : List ℕ) (p x n d : ℕ) → p < length xs → get_or xs p 0 ≡ x → n ≡ rank t xs p → d ≡ bit (eqb x t) → n + d ≡ rank t xs (p + 1)
rank_turn t xs p x n d h ex en ed = rw add-one (omega (arith, rank_suc t xs p h, ap (λ (y : ℕ). bit (eqb y t)) ex))

-- bytes below 243 with zero padding are the trytes of their trits
pub tryted : {l : ℕ} {bs : List ℕ} → length bs ≡ up l 5 → l ≤ 125536 → bytes_low bs ≡ true → padded l bs ≡ true → TritsIn (untrytes l bs) bs
tryted {l} {bs} long few low pad = record {
  threes = trits_untrytes l bs;
  few = omega (arith, length_untrytes l bs long);
  trytes_are = sym (trytes_untrytes l bs long low pad);
}

-- ---- the roots: ones only, up to the first zero

-- so far there are ones only
front : (t : ℕ) (xs : List ℕ) (p : ℕ) → p ≤ length xs → rank 1 xs p ≡ p → count_in t (until_zero xs) ≡ rank t xs p + count_in t (until_zero (drop p xs))
unfolding rank
front t xs zero h e = sym (zero-add (count_in t (until_zero xs)))
front t [] (suc p) h e = absurd (not-suc-le-zero h)
front t (zero ∷ xs) (suc p) h e = absurd (omega (arith, rank_le 1 xs p))
front t (suc zero ∷ xs) (suc p) h e = omega (arith, front t xs p (le_of_suc-le-suc h) (omega arith))
front t (suc (suc x) ∷ xs) (suc p) h e = absurd (omega (arith, rank_le 1 xs p, ap bit (ne_eqb (suc (suc x)) 1 (λ z. omega arith))))

pub record OnesOnly (trits : List ℕ) (p : ℕ) : Type 0 where
  pub threes : Below 3 trits
  pub inside : p ≤ length trits
  pub ones : rank 1 trits p ≡ p

module _ {trits : List ℕ} {p : ℕ} (o : OnesOnly trits p) where
  pub roots_end : length trits ≤ p → balanced trits ≡ true → ⊥
  unfolding node_count
  roots_end h e = omega (arith, o.ones, rank_past 1 trits p h, zeros_ones trits e, count_le 0 trits)

  module _ (h : p < length trits) where
    at : (t x : ℕ) → get_or trits p 0 ≡ x → count_in t (until_zero trits) ≡ rank t trits p + count_in t (until_zero (x ∷ drop (suc p) trits))
    at t x e = front t trits p o.inside o.ones ∙ rw (drop-cons trits p 0, e)

    pub roots_zero : get_or trits p 0 ≡ 0 → (roots_first trits ≡ true) × (p ≡ root_count trits)
    unfolding roots_first root_count
    roots_zero e =
        (eq-eqb (count_in 2 (until_zero trits)) 0 (omega (arith, at 2 0 e, o.ones, rank_three trits o.threes p o.inside)), omega (arith, o.ones, at 1 0 e))

    pub roots_two : get_or trits p 0 ≡ 2 → roots_first trits ≡ true → ⊥
    unfolding roots_first
    roots_two e r = omega (arith, at 2 2 e, eqb-true (count_in 2 (until_zero trits)) 0 r)

    pub roots_more : get_or trits p 0 ≡ 1 → OnesOnly trits (p + 1)
    roots_more e = record { threes = o.threes; inside = omega arith; ones = rank_hit 1 trits p h e ∙ ap (λ (k : ℕ). k + 1) o.ones }

-- ---- the nodes: no fewer ones than zeros before any trit, and one fewer before the end

pub ballot_none : (trits : List ℕ) → Ballot trits 0 0 0
ballot_none trits = record {
  inside = omega arith;
  zeros_are = sym (rank_zero 0 trits);
  ones_are = sym (rank_zero 1 trits);
  enough = below_none (λ q. rank 0 trits q ≤ rank 1 trits q);
}

module _ {trits : List ℕ} {p zeros ones : ℕ} (b : Ballot trits p zeros ones) where
  pub ballot_few : (zeros ≤ p) × (ones ≤ p)
  ballot_few = (omega (arith, b.zeros_are, rank_le 0 trits p), omega (arith, b.ones_are, rank_le 1 trits p))

  pub ballot_more : p < length trits → zeros ≤ ones → (x z o : ℕ) → get_or trits p 0 ≡ x → z ≡ bit (eqb x 0) → o ≡ bit (eqb x 1)
      → Ballot trits (p + 1) (zeros + z) (ones + o)
  ballot_more h le x z o ex ez eo = record {
    inside = omega arith;
    zeros_are = rank_turn 0 trits p x zeros z h ex b.zeros_are ez;
    ones_are = rank_turn 1 trits p x ones o h ex b.ones_are eo;
    enough = below_more (λ q. rank 0 trits q ≤ rank 1 trits q) p b.enough (omega (arith, b.zeros_are, b.ones_are));
  }

  -- a whole tryte more, before which the ones are as many as the zeros before its end
  pub ballot_tryte : {q x z o : ℕ} → Tryte trits q x → p ≡ 5 * q → p + 5 ≤ length trits → z ≡ tryte_count 0 x 5 → o ≡ tryte_count 1 x 5 → zeros + z ≤ ones
      → Ballot trits (p + 5) (zeros + z) (ones + o)
  ballot_tryte {q} {x} {z} {o} T e h ez eo le =
      let on : (t : ℕ) → rank t trits (p + 5) ≡ rank t trits p + tryte_count t x 5 = λ t. rw e (rank_more T t 5 (lit≤ tt) (omega arith)) in
      record {
        inside = h;
        zeros_are = omega (arith, b.zeros_are, on 0);
        ones_are = omega (arith, b.ones_are, on 1);
        enough = λ r l. elim (dec_le p r) [
          | yes y ↦ omega (arith, rank_mono 0 trits r (p + 5) (omega arith), on 0, b.zeros_are, b.ones_are, rank_mono 1 trits p r y)
          | no y ↦ b.enough r (omega arith)
        ];
      }

-- the last zero is the last trit
zeros_before : (trits : List ℕ) (p : ℕ) → balanced trits ≡ true → p < length trits → rank 0 trits p ≤ count_in 1 trits
unfolding node_count
zeros_before trits p e h =
    let last : ℕ = length trits - 1 in
    let z : get_or trits last 0 ≡ 0 = get_or_other trits last 0 3 (omega arith) ∙ last_zero_lem trits e in
    omega (arith, rank_mono 0 trits p last (omega arith), rank_here 0 trits last (omega arith) z, rank_count 0 trits (suc last), zeros_ones trits e)

-- fewer ones than zeros before a trit
pub ballot_broken : {trits : List ℕ} {zeros ones : ℕ} (p : ℕ) → Ballot trits p zeros ones → p < length trits → ones < zeros → balanced trits ≡ true → grown trits ≡ true → ⊥
ballot_broken {trits} zero b h l eb eg = omega (arith, b.zeros_are, rank_zero 0 trits)
ballot_broken {trits} (suc q) b h l eb eg = go (eqb (get_or trits q 0) 0) refl
  where
    go : (t : Bool) → eqb (get_or trits q 0) 0 ≡ t → ⊥
    go true e =
        let z : get_or trits q 0 ≡ 0 = eqb-true (get_or trits q 0) 0 e in
        let r : rank 0 trits (suc q) ≡ suc (rank 0 trits q) = rank_here 0 trits q (omega arith) z in
        omega (arith, grown_walk trits eg q (omega arith) z (omega (arith, zeros_before trits (suc q) eb h)), b.zeros_are, b.ones_are, rank_mono 1 trits q (suc q) (omega arith))
    go false e = omega (arith, b.zeros_are, b.ones_are, b.enough q (omega arith), rank_suc 0 trits q (omega arith), ap bit e, rank_mono 1 trits q (suc q) (omega arith))

-- at the end
module _ {trits : List ℕ} {p zeros ones : ℕ} (b : Ballot trits p zeros ones) (end : length trits ≤ p) where
  zeros_all : zeros ≡ count_in 0 trits
  zeros_all = b.zeros_are ∙ rank_past 0 trits p end

  ones_all : ones ≡ count_in 1 trits
  ones_all = b.ones_are ∙ rank_past 1 trits p end

  pub ballot_other : (ones + 1 ≡ zeros → ⊥) → balanced trits ≡ true → ⊥
  unfolding node_count
  ballot_other h e = h (omega (arith, zeros_all, ones_all, zeros_ones trits e))

  module _ (right : ones + 1 ≡ zeros) where
    -- the last trit made the zeros more than the ones
    ends : get_or trits (length trits - 1) 3 ≡ 0
    ends = go (length trits - 1) (omega (arith, zeros_all, count_le 0 trits)) (eqb (get_or trits (length trits - 1) 3) 0) refl
      where
        go : (q : ℕ) → suc q ≡ length trits → (t : Bool) → eqb (get_or trits q 3) 0 ≡ t → get_or trits q 3 ≡ 0
        go q eq true e = eqb-true (get_or trits q 3) 0 e
        go q eq false e =
            let z : get_or trits q 0 ≡ 0 → ⊥ = λ w. eqb-false _ 0 e (get_or_other trits q 3 0 (omega arith) ∙ w) in
            absurd (omega (arith, b.enough q (omega arith), zeros_all, rank_past 0 trits (q + 1) (omega arith), rank_miss 0 trits q (omega arith) z, ones_all, rank_count 1 trits q))

    pub ballot_all : (balanced trits ≡ true) × (grown trits ≡ true) × (ones ≡ node_count trits)
    unfolding balanced node_count
    ballot_all = (
      true_both _ _ (eq-eqb (count_in 1 trits + 1) (count_in 0 trits) (omega (arith, zeros_all, ones_all))) (eq-eqb _ 0 ends),
      walk_grown trits (omega (arith, zeros_all, ones_all)) (λ q h z l.
          let r : rank 0 trits (suc q) ≡ suc (rank 0 trits q) = rank_here 0 trits q h z in
          let on : suc q < p = lt_of_rank 0 trits (suc q) p (omega (arith, b.zeros_are, ones_all)) in
          omega (arith, b.enough (suc q) on, rank_suc 1 trits q h, ap (λ (x : ℕ). bit (eqb x 1)) z)),
      ones_all,
    )

-- ---- the refusals

pub not_both : {t : Bool} → t ≡ false → t ≡ true → ⊥
not_both f e = let z : ◌≡◌ {A = ℕ} 0 1 = cc in omega arith

pub rule_broken : {l : ℕ} {bs : List ℕ} → (OwnRules l bs → ⊥) → contents_fault1 l bs ≡ 23
rule_broken {l} {bs} h = (contents_1_gives l bs).rule_broken h

-- the bytes keep section 1's own rules, and give so many nodes and roots
pub record Ruled (l : ℕ) (bs : List ℕ) (nodes roots : ℕ) : Type 0 where
  pub long : length (untrytes l bs) ≡ l
  pub own : OwnRules l bs
  pub nodes_are : nodes ≡ node_count (untrytes l bs)
  pub roots_are : roots ≡ root_count (untrytes l bs)

pub ruled : {l : ℕ} {bs : List ℕ} {n c : ℕ} → length bs ≡ up l 5 → true ≡ bytes_low bs → true ≡ padded l bs
    → (roots_first (untrytes l bs) ≡ true) × (c ≡ root_count (untrytes l bs))
    → (balanced (untrytes l bs) ≡ true) × (grown (untrytes l bs) ≡ true) × (n ≡ node_count (untrytes l bs)) → Ruled l bs n c
ruled {l} {bs} long low pad r n = record {
  long = length_untrytes l bs long;
  own = record { is_low = sym low; is_padded = sym pad; roots_are_first = r.0; is_balanced = n.0; is_grown = n.1 };
  nodes_are = n.2;
  roots_are = r.1;
}

module _ {l : ℕ} {bs : List ℕ} {n c : ℕ} (s : Ruled l bs n c) where
  shadows_are : 2 * n + 1 + count_in 2 (untrytes l bs) ≡ l
  unfolding node_count
  shadows_are = omega (arith, s.long, s.nodes_are, zeros_ones (untrytes l bs) s.own.is_balanced, count_three (untrytes l bs) (trits_untrytes l bs))

  edges_are : l - n - c - 1 ≡ edge_count (untrytes l bs)
  unfolding edge_count
  edges_are = omega (arith, s.long, s.nodes_are, s.roots_are)

  pub ruled_room : (n + c + 1 ≤ l) × (2 * n + 1 ≤ l)
  ruled_room = (omega (arith, shadows_are, roots_nodes (untrytes l bs), s.nodes_are, s.roots_are), omega (arith, shadows_are))

  pub ruled_nodes : 30000 < n → contents_fault1 l bs ≡ 22
  ruled_nodes h = (contents_1_gives l bs).limit_passed s.own (λ e. omega (arith, limits_nodes (untrytes l bs) e, s.nodes_are))

  pub ruled_edges : 65535 < l - n - c - 1 → contents_fault1 l bs ≡ 22
  unfolding limits
  ruled_edges h =
      (contents_1_gives l bs).limit_passed s.own (λ e. omega (arith, leb-true (edge_count (untrytes l bs)) 65535 (both_true (leb (node_count (untrytes l bs)) 30000) _ e).1, edges_are))

  pub ruled_all : n ≤ 30000 → l - n - c - 1 ≤ 65535
      → (contents_fault1 l bs ≡ 0) × (n ≡ node_count (untrytes l bs)) × (c ≡ root_count (untrytes l bs)) × (l - 2 * n - 1 ≡ count_in 2 (untrytes l bs))
  unfolding contents_fault1 limits
  ruled_all hn hm =
      let o = s.own in
      let low : leb (node_count (untrytes l bs)) 30000 ≡ true = le-leb (node_count (untrytes l bs)) 30000 (omega (arith, s.nodes_are)) in
      let few : leb (edge_count (untrytes l bs)) 65535 ≡ true = le-leb (edge_count (untrytes l bs)) 65535 (omega (arith, edges_are)) in
      (rw (o.is_low, o.is_padded, o.roots_are_first, o.is_balanced, o.is_grown, low, few), s.nodes_are, s.roots_are, omega (arith, shadows_are))
