-- Demand 2, "Unpacking gives the table in level order"; and what unpacking answers and leaves. Assumes nothing.
use Rattle.std.specs.Prelude.{ℕ, zero, suc, List, map, leb, length, Result}
use Rattle.format.specs.Lists.{one_to, over}
use Rattle.format.specs.Table.{Graph, words}
use Rattle.format.specs.Image.{node_count, root_count}
use Rattle.format.specs.Edges.{operand_of, operand_edges}
use Rattle.format.specs.Faults.{fault, ◌then◌}
use Rattle.format.specs.Proper.{check_image, trits_of, shadows_of}
use Rattle.format.specs.Answers.{Numbers, done, stops, unpacked_numbers}
use Rattle.format.specs.declared.Refusal.{Refusal}

-- the operands of each node, as its edges say, and the roots, which have level numbers 1 to c
unfoldable pub unpack : List ℕ → List ℕ → Graph
unpack trits H = record { operands = map (λ (i : ℕ). map operand_of (operand_edges trits H i)) (one_to (node_count trits)); roots = one_to (root_count trits) }

-- ---- the outcome

pub record UnpackOutcome : Type 0 where
  pub returned : Numbers
  pub table : List ℕ

-- what an entry that answers r leaves, for its contract
abbrev pub unpack_leaves : Result ℕ Refusal → List ℕ → UnpackOutcome
unpack_leaves r table = record { returned = unpacked_numbers r; table = table }

abbrev pub unpack_settled : ℕ → List ℕ → List ℕ → UnpackOutcome
unpack_settled zero ws buffer = record { returned = done (length ws); table = over ws buffer }
unpack_settled (suc c) ws buffer = record { returned = stops (suc c); table = buffer }

-- "21 to 26, then 51; it writes only the table and returns its length"
unfoldable pub unpack_outcome : List ℕ → List ℕ → UnpackOutcome
unpack_outcome image buffer =
    let ws : List ℕ = words (unpack (trits_of image) (shadows_of image)) in
    unpack_settled (check_image image then fault 51 (leb (length ws) (length buffer))) ws buffer
