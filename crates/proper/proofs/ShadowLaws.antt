-- The entries of H are read from section 2, and each is a node. Assumes nothing.
use Prim.Native.Nat.{ℕ, ◌+◌, ◌*◌, ◌<◌}
use native.Mathlib.Omega.{arith}
use mathlib.Core.Path.{◌≡◌, sym, ap, ◌∙◌}
use mathlib.Core.List.{List, [], ◌∷◌, ◌++◌, append-nil}
use lib.Dec.{eqb}
use lib.ListN.{length, get_or}
use Rattle.format.specs.Lists.{bit, count_in}
use Rattle.format.specs.Image.{bytes, node_count, read}
use Rattle.format.specs.Table.{AllNodes}
use Rattle.format.specs.Proper.{ProperTrits}
use Rattle.format.proofs.Laws.{count_append}
use Rattle.format.proofs.Sizes.{length_bytes}
use Rattle.format.proofs.CheckLaws.{shadow_nodes, shadows_small}
use Rattle.format.proofs.ImageReads.{number_at}
use Rattle.proper.specs.Known.{Shadowed}

pub all_nodes : {trits H : List ℕ} → ProperTrits trits H → AllNodes (node_count trits) H
all_nodes {trits} {H} p = shadow_nodes trits H p.paired p.seen

module _ {trits H hs : List ℕ} (s : Shadowed trits H hs) where
  pub length_shadows : length hs ≡ 2 * length H
  length_shadows = ap length s.shadows_are ∙ length_bytes 2 H

  pub shadow_at_lem : (i : ℕ) → i < length H → read 2 (2 * i) hs ≡ get_or H i 0
  shadow_at_lem i l = ap (read 2 (2 * i)) (s.shadows_are ∙ sym (append-nil (bytes 2 H))) ∙ number_at 2 H [] i l (shadows_small trits H s.proper i l)

-- one entry more
pub count_snoc : (t : ℕ) (H : List ℕ) (h : ℕ) → count_in t (H ++ h ∷ []) ≡ count_in t H + bit (eqb h t)
count_snoc t H h = omega (arith, count_append t H (h ∷ []))
