-- What a run of bytes that the checker accepts is, for code that is lent it: proper trits and shadows, in the nine sections of their image. Assumes nothing.
use Prim.Native.Nat.{ℕ}
use mathlib.Core.Path.{sym, subst}
use mathlib.Core.List.{List}
use lib.ListN.{length}
use Rattle.format.specs.Image.{node_count, marked_nodes, section1, sizes}
use Rattle.format.specs.Proper.{trits_of, shadows_of, ProperTrits, Whole}
use Rattle.format.proofs.CheckLaws.{Sound, image_passed}
use Rattle.format.proofs.ImageReads.{uniforms, Sectioned, image_sectioned}

-- the sizes of b's nine sections
abbrev pub sizes_in : List ℕ → List ℕ
sizes_in b = sizes (length (trits_of b)) (node_count (trits_of b)) (length (shadows_of b)) (length (marked_nodes (trits_of b) (shadows_of b)))

module _ {b : List ℕ} (w : Whole b) where
  sound : Sound b
  sound = image_passed b w.bytes w.passes

  pub proper : ProperTrits (trits_of b) (shadows_of b)
  proper = sound.proper

  pub sectioned : Sectioned (section1 (trits_of b) (shadows_of b)) (uniforms (trits_of b) (shadows_of b)) (sizes_in b) b
  sectioned = subst (Sectioned _ _ _) (sym sound.same) (image_sectioned (trits_of b) (shadows_of b) proper)
