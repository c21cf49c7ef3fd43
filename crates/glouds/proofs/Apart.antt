-- The exported word can be taken apart: divided by 2^32 it is the refusal, and the rest is the length. Assumes nothing.
use Prim.Native.Nat.{ℕ, ◌/◌, ◌%◌, ◌<◌}
use native.Mathlib.Omega.{arith}
use mathlib.Core.Path.{◌≡◌, refl}
use mathlib.Core.List.{List}
use Rattle.format.specs.Answers.{Numbers, ExactlyOne}
use Rattle.format.specs.Packing.{pack_outcome}
use Rattle.format.specs.Lists.{Below}
use Rattle.format.specs.Unpack.{unpack_outcome}
use Rattle.format.proofs.Demands.{packing_fits, unpacking_fits}
use Rattle.glouds.specs.Exports.{as_word, pack_export, pack_exported, unpack_export, unpack_exported}

apart : (n : Numbers) → n.value < 4294967296 → (as_word n / 4294967296 ≡ n.code) × (as_word n % 4294967296 ≡ n.value)
apart n h = (omega (arith, h), omega (arith, h))

module _ (table order work image : List ℕ) where
  pub pack_apart : let o = pack_outcome table order work image in
      ((pack_export o).word / 4294967296 ≡ o.returned.code) × ((pack_export o).word % 4294967296 ≡ o.returned.value)
  pack_apart = apart (pack_outcome table order work image).returned (packing_fits table order work image)

  -- the contract of `glouds_pack` allows exactly one word and one content of each buffer
  pub pack_determined : ExactlyOne (λ (x : ℕ × List ℕ × List ℕ × List ℕ). pack_export (pack_outcome table order work image) ≡ pack_exported x.0 x.1 x.2 x.3)
  pack_determined =
      let o = pack_export (pack_outcome table order work image) in
      ((o.word, o.order, o.work, o.image), refl, λ y e. λ i. ((e i).word, (e i).order, (e i).work, (e i).image))

module _ (image table : List ℕ) (low : Below 256 image) where
  pub unpack_apart : let o = unpack_outcome image table in
      ((unpack_export o).word / 4294967296 ≡ o.returned.code) × ((unpack_export o).word % 4294967296 ≡ o.returned.value)
  unpack_apart = apart (unpack_outcome image table).returned (unpacking_fits image table low)

  -- the contract of `glouds_unpack` allows exactly one word and one table
  pub unpack_determined : ExactlyOne (λ (x : ℕ × List ℕ). unpack_export (unpack_outcome image table) ≡ unpack_exported x.0 x.1)
  unpack_determined = let o = unpack_export (unpack_outcome image table) in ((o.word, o.table), refl, λ y e. λ i. ((e i).word, (e i).table))
