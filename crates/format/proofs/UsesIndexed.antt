-- A node's group is read off the index: the entries of section 5 from its start in section 4 up to the next start. Assumes nothing.
use Prim.Native.Nat.{ℕ, zero, suc, ◌+◌, ◌-◌, ◌≤◌, ◌<◌}
use native.Mathlib.Omega.{arith}
use native.Mathlib.Numerals.{add-one, sub-one}
use mathlib.Core.Path.{◌≡◌, sym, ap, ap₂, ◌∙◌}
use mathlib.Core.List.{List}
use lib.ListN.{length, get_or, take, drop, length-append}
use borrow.Author.Tests.{lt-ltb}
use Rattle.format.specs.Lists.{bit, count_in}
use Rattle.format.specs.Trits.{rank}
use Rattle.format.specs.Image.{node_count, marked, marks, group, grouped, starts}
use Rattle.format.specs.Proper.{ProperTrits}
use Rattle.format.specs.Table.{AllNodes}
use Rattle.format.proofs.Laws.{rank_hit}
use Rattle.format.proofs.Sizes.{length_marks, grouped_suc}
use Rattle.format.proofs.CheckLaws.{shadow_nodes}
use Rattle.format.proofs.Marks.{marks_at, starts_at, group_at}

-- node k + 1
next_indexed : (trits H : List ℕ) → ProperTrits trits H → (k : ℕ) → k < node_count trits → 0 < count_in (suc k) H → let j : ℕ = rank 1 (marks trits H) k in
    group trits H (suc k) ≡ take (get_or (starts trits H) (j + 1) 0 - get_or (starts trits H) j 0) (drop (get_or (starts trits H) j 0) (grouped trits H (node_count trits)))
unfolding marked
next_indexed trits H p k l pos =
    let nodes : AllNodes (node_count trits) H = shadow_nodes trits H p.paired p.seen in
    let j : ℕ = rank 1 (marks trits H) k in
    let mark : get_or (marks trits H) k 0 ≡ 1 = marks_at trits H k l ∙ ap bit (lt-ltb 0 (count_in (suc k) H) pos) in
    let here : get_or (starts trits H) j 0 ≡ length (grouped trits H k) = starts_at trits H p.paired nodes k (omega arith) in
    let next : get_or (starts trits H) (j + 1) 0 ≡ length (grouped trits H (suc k)) =
    ap (λ (r : ℕ). get_or (starts trits H) r 0) (sym (rank_hit 1 (marks trits H) k (omega (arith, length_marks trits H)) mark) ∙ ap (rank 1 (marks trits H)) (add-one k))
    ∙ starts_at trits H p.paired nodes (suc k) l in
    let size : length (group trits H (suc k)) ≡ get_or (starts trits H) (j + 1) 0 - get_or (starts trits H) j 0 =
    omega (arith, ap length (grouped_suc trits H k), length-append (grouped trits H k) (group trits H (suc k))) in
    sym (ap₂ (λ (a b : ℕ). take a (drop b (grouped trits H (node_count trits)))) (sym size) here ∙ group_at trits H (node_count trits) k l)

pub uses_indexed : (trits H : List ℕ) → ProperTrits trits H → (i : ℕ) → 1 ≤ i → i ≤ node_count trits → 0 < count_in i H → let j : ℕ = rank 1 (marks trits H) (i - 1) in
    group trits H i ≡ take (get_or (starts trits H) (j + 1) 0 - get_or (starts trits H) j 0) (drop (get_or (starts trits H) j 0) (grouped trits H (node_count trits)))
uses_indexed trits H p zero low high pos = absurd (omega arith)
uses_indexed trits H p (suc k) low high pos = rw sub-one (next_indexed trits H p k high pos)
