-- Entry i of a section of an accepted image: where it stands, and what it is. Assumes nothing.
use Prim.Native.Nat.{ℕ, ◌+◌, ◌*◌, ◌≤◌, ◌<◌}
use native.Mathlib.Omega.{arith}
use mathlib.Core.Path.{◌≡◌}
use mathlib.Core.List.{List}
use lib.Dec.{lit<}
use lib.ListN.{length, get_or}
use Rattle.format.specs.Image.{node_count, mark_words, mark_samples, marked_nodes, starts, grouped, read}
use Rattle.format.specs.Proper.{trits_of, shadows_of, Whole}
use Rattle.format.proofs.Sizes.{length_starts, length_grouped, length_mark_words, length_mark_samples}
use Rattle.format.proofs.CheckLaws.{shadow_nodes}
use Rattle.format.proofs.ImageReads.{number_inside, number_reads}
use Rattle.format.proofs.OnImage.{proper, sectioned}
use Rattle.trits.specs.declared.Layout.{Layout}
use Rattle.trits.specs.Layout.{layout_of, Laid}

-- x is the number of so many bytes at a place
pub record Entry (b : List ℕ) (width at x : ℕ) : Type 0 where
  pub inside : at + width ≤ length b
  pub reads : read width at b ≡ x

module _ {b : List ℕ} {lay : Layout} (L : Laid b lay) where
  abbrev w : Whole b
  w = L.whole

  abbrev trits : List ℕ
  trits = trits_of b

  abbrev H : List ℕ
  H = shadows_of b

  pub entry_2 : (i : ℕ) → i < length H → Entry b 2 (lay.at2 + 2 * i) (get_or H i 0)
  unfolding layout_of
  entry_2 i h = rw L.is (record { inside = number_inside (sectioned w) 0 (lit< tt) i h; reads = number_reads (sectioned w) 0 (lit< tt) i h })

  pub entry_3 : (q : ℕ) → 64 * q < node_count trits → Entry b 8 (lay.at3 + 8 * q) (get_or (mark_words trits H) q 0)
  unfolding layout_of
  entry_3 q l =
      let h : q < length (mark_words trits H) = omega (arith, length_mark_words trits H) in
      rw L.is (record { inside = number_inside (sectioned w) 1 (lit< tt) q h; reads = number_reads (sectioned w) 1 (lit< tt) q h })

  pub entry_4 : (j : ℕ) → j ≤ length (marked_nodes trits H) → Entry b 4 (lay.at4 + 4 * j) (get_or (starts trits H) j 0)
  unfolding layout_of
  entry_4 j l =
      let h : j < length (starts trits H) = omega (arith, length_starts trits H) in
      rw L.is (record { inside = number_inside (sectioned w) 2 (lit< tt) j h; reads = number_reads (sectioned w) 2 (lit< tt) j h })

  pub entry_5 : (j : ℕ) → j < length H → Entry b 4 (lay.at5 + 4 * j) (get_or (grouped trits H (node_count trits)) j 0)
  unfolding layout_of
  entry_5 j l =
      let h : j < length (grouped trits H (node_count trits)) =
      omega (arith, length_grouped trits H (proper w).paired (shadow_nodes trits H (proper w).paired (proper w).seen)) in
      rw L.is (record { inside = number_inside (sectioned w) 3 (lit< tt) j h; reads = number_reads (sectioned w) 3 (lit< tt) j h })

  pub entry_9 : (q : ℕ) → 64 * q < node_count trits → Entry b 2 (lay.at9 + 2 * q) (get_or (mark_samples trits H) q 0)
  unfolding layout_of
  entry_9 q l =
      let h : q < length (mark_samples trits H) = omega (arith, length_mark_samples trits H) in
      rw L.is (record { inside = number_inside (sectioned w) 7 (lit< tt) q h; reads = number_reads (sectioned w) 7 (lit< tt) q h })
