-- The pass over the trits: before place p every word of the table stands but the count of the last zero's operands. Assumes nothing.
use Prim.Native.Nat.{ℕ, ◌+◌, ◌-◌, ◌≤◌, ◌<◌}
use native.Mathlib.Omega.{arith}
use native.Mathlib.Decide.{ℕ_discrete}
use mathlib.Core.Path.{◌≡◌, sym, ap, ap₂, ◌∙◌}
use mathlib.Core.List.{List, ◌++◌}
use lib.ListN.{length, get_or, take, set, length-set}
use lib.Seq.{set-set, drop-set-lt}
use Rattle.format.specs.Lists.{one_to, over}
use Rattle.format.specs.Image.{root_count}
use Rattle.format.specs.Table.{words}
use Rattle.format.specs.Proper.{trits_of, shadows_of, ProperTrits}
use Rattle.format.proofs.Laws.{length_run}
use Rattle.format.proofs.Neighbours.{unpack_nodes}
use Rattle.format.proofs.OnImage.{proper}
use Rattle.little.specs.Put.{put_at}
use Rattle.trits.specs.declared.Layout.{Layout}
use Rattle.trits.specs.Layout.{Laid}
use Rattle.unpacking.specs.declared.Stand.{Stand}
use Rattle.unpacking.specs.Standing.{table_of, last_zero, stand_at, word_at, trit_put, over_first}
use Rattle.unpacking.proofs.FillLaws.{Filled, filled_first, filled_next, filled_late, over_end}
use Rattle.unpacking.proofs.WordLaws.{stand_first, last_hit, last_miss, last_end, zero_word, other_word, roots_word, roots_rest, put_zero, put_other}
use Rattle.unpacking.proofs.SizeLaws.{sizes}

-- The unpacker stands before place p, and has put the words up to there.
pub record Rows (b : List ℕ) (lay : Layout) (old table : List ℕ) (p : ℕ) (s : Stand) : Type 0 where
  pub stands : s ≡ stand_at (trits_of b) p
  pub from : lay.roots < p
  pub upto : p ≤ lay.trits
  pub filled : Filled (table_of b) old table (word_at (trits_of b) (last_zero (trits_of b) p)) (word_at (trits_of b) p)

module _ {b : List ℕ} {lay : Layout} (L : Laid b lay) where
  abbrev trits : List ℕ
  trits = trits_of b

  abbrev H : List ℕ
  H = shadows_of b

  abbrev ws : List ℕ
  ws = table_of b

  P : ProperTrits trits H
  P = proper L.whole

  first_word : get_or ws 0 0 ≡ lay.nodes
  unfolding words
  first_word = unpack_nodes trits H P ∙ sym (sizes L).nodes_are

  -- n is put; `old` has it already
  pub rows_first : (entry old : List ℕ) → lay.trits < length entry → old ≡ set entry 0 lay.nodes
      → Rows b lay old old (lay.roots + 1) (record { ones = lay.roots; twos = 0; zero = lay.roots })
  rows_first entry old h e =
      let S = sizes L in
      let q : stand_at trits (lay.roots + 1) ≡ record { ones = lay.roots; twos = 0; zero = lay.roots } = rw S.roots_are (sym (stand_first P)) in
      let z : last_zero trits (lay.roots + 1) ≡ lay.roots = λ i. (q i).zero in
      let late : word_at trits (last_zero trits (lay.roots + 1)) ≡ 1 = omega (arith, S, z) in
      let w : word_at trits (lay.roots + 1) ≡ 2 = omega (arith, S) in
      let n : old ≡ set old 0 (get_or ws 0 0) = rw (first_word, e) (sym (set-set entry 0 lay.nodes lay.nodes)) in
      record {
        stands = sym q;
        from = omega arith;
        upto = omega (arith, S);
        filled = rw (late, w) (filled_first ws old old (omega (arith, S)) (omega (arith, S, ap length e, length-set entry 0 lay.nodes)) n);
      }

  module _ {old table : List ℕ} {p : ℕ} {s : Stand} (R : Rows b lay old table p s) where
    -- one more trit
    pub rows_next : p < lay.trits → (next : Stand) → next ≡ stand_at trits (p + 1) → (put : List ℕ) → put ≡ trit_put trits H p table → Rows b lay old put (p + 1) next
    rows_next h next e put f =
        let S = sizes L in
        let a : root_count trits < p = omega (arith, S, R.from) in
        let step : word_at trits (p + 1) ≡ word_at trits p + 1 = omega arith in
        record { stands = e; from = omega (arith, R.from); upto = omega arith; filled = rw (f, step) (go a (omega (arith, S)) (omega (arith, S)) (ℕ_discrete (get_or trits p 0) 0)) }
      where
        go : root_count trits < p → p < length trits → word_at trits p < length ws → Dec (get_or trits p 0 ≡ 0)
            → Filled ws old (trit_put trits H p table) (word_at trits (last_zero trits (p + 1))) (word_at trits p + 1)
        go a l w (yes z) = rw (put_zero trits H p table z, last_hit P p l z) (filled_late R.filled w _ (sym (zero_word P p a l z)))
        go a l w (no z) = rw (put_other trits H p table z, last_miss P p l z) (filled_next R.filled w _ (sym (other_word P p a l z)))

    -- the last: the count of the roots
    pub rows_last : (entry : List ℕ) (x : ℕ) → old ≡ set entry 0 x → lay.trits ≤ p
        → set table (lay.trits - lay.roots) lay.roots ≡ over_first (lay.trits - lay.roots + 1) ws entry
    rows_last entry x o h =
        let S = sizes L in
        let e : p ≡ length trits = omega (arith, S, R.upto) in
        let z : last_zero trits p ≡ length trits - 1 = ap (last_zero trits) e ∙ last_end P in
        let k : word_at trits (last_zero trits p) ≡ lay.trits - lay.roots = omega (arith, S, z) in
        let w : word_at trits p ≡ lay.trits - lay.roots + 1 = omega (arith, S) in
        let v : get_or ws (word_at trits (last_zero trits p)) 0 ≡ lay.roots =
        ap (λ (x : ℕ). get_or ws (word_at trits x) 0) z ∙ roots_word P ∙ sym S.roots_are in
        ap₂ (set table) (sym k) (sym v) ∙ R.filled.are ∙ ap (λ (x : ℕ). over_first x ws old) w
        ∙ ap (λ (l : List ℕ). take (lay.trits - lay.roots + 1) ws ++ l) (rw o (drop-set-lt (lay.trits - lay.roots + 1) entry 0 x (omega arith)))

  -- and the roots behind it
  pub roots_last : (old : List ℕ) → lay.trits < length old
      → put_at (over_first (lay.trits - lay.roots + 1) ws old) (lay.trits - lay.roots + 1) (one_to lay.roots) ≡ over ws old
  roots_last old h =
      let S = sizes L in
      over_end ws old (one_to lay.roots) (lay.trits - lay.roots + 1) (omega (arith, S, length_run 1 lay.roots)) (omega (arith, S))
      (roots_rest P (lay.trits - lay.roots + 1) (omega (arith, S)) ∙ ap one_to (sym S.roots_are))
