-- Document 01, "Level order and trits" and "Batches of questions": the edges that trits and shadows say, in order of their place in the trits.
-- Assumes nothing.
use Rattle.std.specs.Prelude.{ℕ, ◌+◌, Bool, ◌&&◌, cond, List, map, eqb, ltb, length, get_or}
use Rattle.format.specs.Lists.{run, keep}
use Rattle.format.specs.Trits.{rank}
use Rattle.format.specs.Image.{shadow_at}

-- an edge: its place in the trits, its user, its operand, and its sort, 1 real or 2 shadow
pub record Edge : Type 0 where
  pub place : ℕ
  pub user : ℕ
  pub operand : ℕ
  pub sort : ℕ

abbrev pub user_of : Edge → ℕ
user_of e = e.user

abbrev pub operand_of : Edge → ℕ
operand_of e = e.operand

-- What stands at place p. The user is the number of zeros before it, since the operands of node i stand between the i-th zero and the
-- next one; before the first zero it is the super-root, 0. A 1 is the next node, a 2 the next entry of H.
unfoldable pub operand_at : List ℕ → List ℕ → ℕ → ℕ
operand_at trits H p = cond (eqb (get_or trits p 0) 1) (rank 1 trits p + 1) (shadow_at trits H p)

unfoldable pub edge_at : List ℕ → List ℕ → ℕ → Edge
edge_at trits H p = record { place = p; user = rank 0 trits p; operand = operand_at trits H p; sort = get_or trits p 0 }

-- an edge stands at each place that holds no 0 and that is not the super-root's
abbrev pub is_edge : List ℕ → ℕ → Bool
is_edge trits p = ltb 0 (get_or trits p 0) && ltb 0 (rank 0 trits p)

unfoldable pub edge_list : List ℕ → List ℕ → List Edge
edge_list trits H = map (edge_at trits H) (keep (is_edge trits) (run 0 (length trits)))

-- the operands of node i, in their order
unfoldable pub operand_edges : List ℕ → List ℕ → ℕ → List Edge
operand_edges trits H i = keep (λ e. eqb e.user i) (edge_list trits H)

-- "Uses are edges in order of their place in the trits, so the real one, if any, comes first." The super-root is no user.
unfoldable pub use_edges : List ℕ → List ℕ → ℕ → List Edge
use_edges trits H i = keep (λ e. eqb e.operand i) (edge_list trits H)
