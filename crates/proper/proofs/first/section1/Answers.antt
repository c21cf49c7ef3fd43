-- Past the four tests the bytes are `Ruled`.
use Rattle.std.proofs.Common.{◌≡◌, ◌∙◌, ℕ, Option, None, Some, Ok, Err, sym, arith}
use Rattle.std.specs.Option.{ok_or}
use Rattle.format.proofs.Handed.{handed}
use Rattle.format.specs.Trits.{untrytes}
use Rattle.format.specs.declared.Refusal.{Refusal}
use Rattle.format.specs.declared.Refusal.TheVariants.{TritsWrong}
use Rattle.proper.specs.FirstSays.{RootsSay, NodesSay}
use Rattle.proper.proofs.FirstLaws.{not_both, rule_broken, Ruled, ruled, ruled_room, ruled_nodes, ruled_edges, ruled_all}
use Rattle.proper.proofs.first.section1.Goals as goal
use Rattle.proper.proofs.first.section1.Goals.{In_ok-nodes, then-not-bytes_low-via-then-not-bytes_low, then-not-bytes_low-via-else-not-bytes_low+then-not-zero_padded}

pub returns-then-not-bytes_low : goal.returns-then-not-bytes_low
returns-then-not-bytes_low c =
    elim c.then-not-bytes_low.branch [
      | then-not-bytes_low-via-then-not-bytes_low w ↦ rule_broken (λ o. not_both (sym c.bytes_low.ensures ∙ w.if-not-bytes_low.true) o.is_low)
      | then-not-bytes_low-via-else-not-bytes_low+then-not-zero_padded w ↦ rule_broken (λ o. not_both (sym w.zero_padded.ensures ∙ w.if-not-zero_padded.true) o.is_padded)
    ]

-- what is said of an answer, where `?` ends with an error and where it goes on
none : (P : Option ℕ → Type 0) (o : Option ℕ) {f : Refusal} → Err f ≡ ok_or o TritsWrong → P o → P None × (f ≡ TritsWrong)
none P None e h = (h, cc)
none P (Some x) e h = cc

some : (P : Option ℕ → Type 0) (o : Option ℕ) {x : ℕ} → Ok x ≡ ok_or o TritsWrong → P o → P (Some x)
some P None {x = x} e h = cc
some P (Some y) {x = x} e h = let z : x ≡ y = cc in rw z h

pub returns-in_err-roots : goal.returns-in_err-roots
returns-in_err-roots c =
    let n = none (RootsSay (untrytes c.args.l c.args.bs.now)) _ c.in_err-roots.ensures.value c.roots_given.ensures in
    rw (handed c.from_residual.ensures.1, n.1) (rule_broken (λ o. n.0 o.roots_are_first o.is_balanced))

pub returns-in_err-nodes : goal.returns-in_err-nodes
returns-in_err-nodes c =
    let n = none (NodesSay (untrytes c.args.l c.args.bs.now)) _ c.in_err-nodes.ensures.value c.nodes_given.ensures in
    rw (handed c.from_residual-in_err-nodes.ensures.1, n.1) (rule_broken (λ o. n.0 o.is_balanced o.is_grown))

ruled_here : (c : In_ok-nodes) → Ruled c.args.l c.args.bs.now c.in_ok-nodes.nodes c.in_ok-roots.roots
ruled_here c =
    let trits = untrytes c.args.l c.args.bs.now in
    ruled c.requires.0 c.if-not-bytes_low.ensures c.if-not-zero_padded.ensures
    (some (RootsSay trits) _ c.in_ok-roots.ensures.value c.roots_given.ensures) (some (NodesSay trits) _ c.in_ok-nodes.ensures.value c.nodes_given.ensures)

pub returns-then-too_many : goal.returns-then-too_many
returns-then-too_many c = ruled_nodes (ruled_here (goal.at.returns-then-too_many c).In_ok-nodes) (omega arith)

pub overflow_sub-l : goal.overflow_sub-l
overflow_sub-l c = omega (arith, ruled_room (ruled_here (goal.at.overflow_sub-l c).In_ok-nodes))

pub overflow_sub-l-2 : goal.overflow_sub-l-2
overflow_sub-l-2 c = omega (arith, ruled_room (ruled_here (goal.at.overflow_sub-l-2 c).In_ok-nodes))

pub overflow_sub-l-3 : goal.overflow_sub-l-3
overflow_sub-l-3 c = omega (arith, ruled_room (ruled_here (goal.at.overflow_sub-l-3 c).In_ok-nodes))

pub returns-then-l-nodes-gt-MAX_EDGES : goal.returns-then-l-nodes-gt-MAX_EDGES
returns-then-l-nodes-gt-MAX_EDGES c = ruled_edges (ruled_here (goal.at.returns-then-l-nodes-gt-MAX_EDGES c).In_ok-nodes) (omega arith)

pub overflow_sub-result : goal.overflow_sub-result
overflow_sub-result c = omega (arith, ruled_room (ruled_here (goal.at.overflow_sub-result c).In_ok-nodes))

pub overflow_sub-result-2 : goal.overflow_sub-result-2
overflow_sub-result-2 c = omega (arith, ruled_room (ruled_here (goal.at.overflow_sub-result-2 c).In_ok-nodes))

pub returns : goal.returns
returns c = ruled_all (ruled_here (goal.at.returns c).In_ok-nodes) (omega arith) (omega arith)
