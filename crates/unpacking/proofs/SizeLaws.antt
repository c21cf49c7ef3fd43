-- The numbers of an accepted image's layout, and that its table's words fit 16 bits. Assumes nothing.
use Prim.Native.Nat.{ℕ, ◌+◌, ◌≤◌, ◌<◌}
use native.Mathlib.Omega.{arith}
use mathlib.Core.Path.{◌≡◌, ap, ◌∙◌}
use mathlib.Core.List.{List}
use lib.ListN.{length, get_or}
use Rattle.format.specs.Image.{node_count, root_count, edge_count}
use Rattle.format.specs.Table.{Graph, words}
use Rattle.format.specs.Proper.{trits_of, shadows_of, ProperTrits}
use Rattle.format.specs.Unpack.{unpack}
use Rattle.format.proofs.Cutting.{scanned}
use Rattle.format.proofs.Places.{all_at}
use Rattle.format.proofs.CheckLaws.{limits_nodes}
use Rattle.format.proofs.ProperLaws.{length_trits}
use Rattle.format.proofs.Sums.{roots_nodes}
use Rattle.format.proofs.Accepting.{reads_as, scanned_counts}
use Rattle.format.proofs.Neighbours.{unpack_scanned, unpack_accepted}
use Rattle.format.proofs.Outcomes.{length_words, words_fit}
use Rattle.format.proofs.OnImage.{proper}
use Rattle.trits.specs.declared.Layout.{Layout}
use Rattle.trits.specs.Layout.{layout_of, Laid}
use Rattle.unpacking.specs.Standing.{table_of}

-- the numbers of a layout
pub record Sizes (b : List ℕ) (lay : Layout) : Type 0 where
  pub trits_are : lay.trits ≡ length (trits_of b)
  pub roots_are : lay.roots ≡ root_count (trits_of b)
  pub nodes_are : lay.nodes ≡ node_count (trits_of b)
  pub table_has : length (table_of b) ≡ lay.trits + 1
  pub trits_few : lay.trits ≤ 125536
  pub nodes_few : lay.nodes ≤ 30000
  pub roots_few : lay.roots ≤ lay.nodes
  pub room : lay.roots + lay.nodes < lay.trits

module _ {b : List ℕ} {lay : Layout} (L : Laid b lay) where
  abbrev trits : List ℕ
  trits = trits_of b

  abbrev H : List ℕ
  H = shadows_of b

  P : ProperTrits trits H
  P = proper L.whole

  counts_table : length (table_of b) ≡ length trits + 1
  unfolding edge_count
  counts_table =
      let g = scanned_counts trits H P in
      ap (λ (x : Graph). length (words x)) (unpack_scanned trits H P)
      ∙ omega (arith, length_words (scanned trits H), g.0, g.1, g.2, length_trits trits H P, roots_nodes trits)

  pub sizes : Sizes b lay
  unfolding layout_of
  sizes =
      let t : lay.trits ≡ length trits = λ i. (L.is i).trits in
      let r : lay.roots ≡ root_count trits = λ i. (L.is i).roots in
      let n : lay.nodes ≡ node_count trits = λ i. (L.is i).nodes in
      record {
        trits_are = t;
        roots_are = r;
        nodes_are = n;
        table_has = omega (arith, counts_table);
        trits_few = omega (arith, P.length_high);
        nodes_few = omega (arith, limits_nodes trits P.in_limits);
        roots_few = omega (arith, roots_nodes trits);
        room = omega (arith, length_trits trits H P, roots_nodes trits);
      }

  pub table_fits : (i : ℕ) → i < length (table_of b) → get_or (table_of b) i 0 < 65536
  table_fits i h =
      let a = reads_as (table_of b) (unpack trits H) (unpack_accepted trits H P) in
      all_at (λ w. w < 65536) (table_of b) i 0 (words_fit (unpack trits H) a.1 a.2) h
