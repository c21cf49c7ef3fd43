-- One trit of an accepted image: its numbers fit, what it puts, and where the unpacker stands after it. Assumes nothing.
use Prim.Native.Nat.{ℕ, suc, ◌+◌, ◌-◌, ◌*◌, ◌≤◌, ◌<◌}
use native.Mathlib.Omega.{arith}
use mathlib.Core.Path.{◌≡◌, sym}
use mathlib.Core.List.{List}
use lib.Dec.{lit<}
use lib.ListN.{length, get_or, set}
use Rattle.format.specs.Trits.{rank}
use Rattle.format.specs.Image.{node_count, root_count, shadow_at, read}
use Rattle.format.specs.Edges.{operand_at}
use Rattle.format.specs.Proper.{trits_of, shadows_of, ProperTrits}
use Rattle.format.proofs.Laws.{rank_hit, rank_miss, rank_count, rank_here}
use Rattle.format.proofs.ImageReads.{number_inside, number_reads}
use Rattle.format.proofs.OnImage.{proper, sectioned}
use Rattle.trits.specs.declared.Layout.{Layout}
use Rattle.trits.specs.Layout.{layout_of}
use Rattle.unpacking.specs.declared.Stand.{Stand}
use Rattle.unpacking.specs.Standing.{Standing, last_zero, stand_at, word_at, trit_put}
use Rattle.unpacking.proofs.SizeLaws.{Sizes, sizes, table_fits}
use Rattle.unpacking.proofs.WordLaws.{last_hit, last_miss, last_from, last_past, zero_word, put_zero, put_other}

-- the trit at p, past the first zero, in the code's words
module _ {b : List ℕ} {lay : Layout} {p : ℕ} {s : Stand} (T : Standing b lay p s) where
  abbrev trits : List ℕ
  trits = trits_of b

  abbrev H : List ℕ
  H = shadows_of b

  P : ProperTrits trits H
  P = proper T.laid.whole

  S : Sizes b lay
  S = sizes T.laid

  a : root_count trits < p
  a = omega (arith, S, T.from, T.inside)

  l : p < length trits
  l = omega (arith, S, T.from, T.inside)

  pub last : (lay.roots ≤ s.zero) × (s.zero < p)
  last = rw T.is (omega (arith, S, last_from P p a l, last_past P p a l))

  pub three_left : get_or trits p 0 < 3
  three_left = P.threes p l

  -- the numbers fit
  pub count_fits : get_or trits p 0 ≡ 0 → p - s.zero - 1 < 65536
  count_fits e =
      rw T.is
      (omega (
        arith,
        zero_word P p a l e,
        table_fits T.laid (word_at trits (last_zero trits p)) (omega (arith, S, last_past P p a l)),
      ))

  pub ones_few : get_or trits p 0 ≡ 1 → s.ones < 30000
  unfolding node_count
  ones_few e = rw T.is (omega (arith, S, rank_here 1 trits p l e, rank_count 1 trits (suc p)))

  twos_few : get_or trits p 0 ≡ 2 → rank 2 trits p < length H
  twos_few e = omega (arith, rank_here 2 trits p l e, rank_count 2 trits (suc p), P.paired)

  pub shadow_inside : get_or trits p 0 ≡ 2 → lay.at2 + 2 * s.twos + 2 ≤ length b
  unfolding layout_of
  shadow_inside e = rw (T.is, T.laid.is) (number_inside (sectioned T.laid.whole) 0 (lit< tt) (rank 2 trits p) (twos_few e))

  -- what is put
  pub zero_put : (table : List ℕ) → get_or trits p 0 ≡ 0 → set table (s.zero - lay.roots + 1) (p - s.zero - 1) ≡ trit_put trits H p table
  zero_put table e = rw (S.roots_are, T.is) (sym (put_zero trits H p table e))

  other_put : (table : List ℕ) (x : ℕ) → (get_or trits p 0 ≡ 0 → ⊥) → x ≡ operand_at trits H p → set table (p - lay.roots + 1) x ≡ trit_put trits H p table
  other_put table x e f = rw (S.roots_are, f) (sym (put_other trits H p table e))

  pub one_put : (table : List ℕ) → get_or trits p 0 ≡ 1 → set table (p - lay.roots + 1) (s.ones + 1) ≡ trit_put trits H p table
  unfolding operand_at
  one_put table e = other_put table (s.ones + 1) (λ q. omega arith) (rw (T.is, e))

  pub two_put : (table : List ℕ) → get_or trits p 0 ≡ 2 → set table (p - lay.roots + 1) (read 2 (lay.at2 + 2 * s.twos) b) ≡ trit_put trits H p table
  unfolding layout_of operand_at shadow_at
  two_put table e =
      other_put table (read 2 (lay.at2 + 2 * s.twos) b) (λ q. omega arith)
      (rw (T.is, T.laid.is, e) (number_reads (sectioned T.laid.whole) 0 (lit< tt) (rank 2 trits p) (twos_few e)))

  -- where the unpacker stands after it
  stand_next : {o t z : ℕ} → o ≡ rank 1 trits (p + 1) → t ≡ rank 2 trits (p + 1) → z ≡ last_zero trits (p + 1) → record { ones = o; twos = t; zero = z } ≡ stand_at trits (p + 1)
  stand_next o t z = λ i. record { ones = o i; twos = t i; zero = z i }

  pub stand_zero : get_or trits p 0 ≡ 0 → record { ones = s.ones; twos = s.twos; zero = p } ≡ stand_at trits (p + 1)
  stand_zero e = rw T.is (stand_next (sym (rank_miss 1 trits p l (λ q. omega arith))) (sym (rank_miss 2 trits p l (λ q. omega arith))) (sym (last_hit P p l e)))

  pub stand_one : get_or trits p 0 ≡ 1 → record { ones = s.ones + 1; twos = s.twos; zero = s.zero } ≡ stand_at trits (p + 1)
  stand_one e = rw T.is (stand_next (sym (rank_hit 1 trits p l e)) (sym (rank_miss 2 trits p l (λ q. omega arith))) (sym (last_miss P p l (λ q. omega arith))))

  pub stand_two : get_or trits p 0 ≡ 2 → record { ones = s.ones; twos = s.twos + 1; zero = s.zero } ≡ stand_at trits (p + 1)
  stand_two e = rw T.is (stand_next (sym (rank_miss 1 trits p l (λ q. omega arith))) (sym (rank_hit 2 trits p l e)) (sym (last_miss P p l (λ q. omega arith))))
