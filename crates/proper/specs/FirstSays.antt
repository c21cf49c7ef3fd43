-- What the functions on section 1 count and answer. Assumes nothing.
use Rattle.std.specs.Prelude.{ℕ, ◌≤◌, ◌<◌, ◌≡◌, true, List, length, Result, Ok, Err, Option, Some, None}
use Rattle.format.specs.Lists.{count_in}
use Rattle.format.specs.Trits.{rank, untrytes}
use Rattle.format.specs.Image.{node_count, root_count}
use Rattle.format.specs.Proper.{roots_first, balanced, grown, contents_fault1}
use Rattle.format.specs.Answers.{refusal_number}
use Rattle.format.specs.declared.Refusal.{Refusal}
use Rattle.proper.specs.declared.first.Sizes.{Sizes}
use Rattle.proper.specs.declared.first.Count.{Count}

-- section 1's contents give this refusal, or none and these sizes: n, c, k
abbrev pub FirstSays : ℕ → List ℕ → Result Sizes Refusal → Type 0
FirstSays l bs (Err f) = contents_fault1 l bs ≡ refusal_number f
FirstSays l bs (Ok z) =
    (contents_fault1 l bs ≡ 0) × (z.nodes ≡ node_count (untrytes l bs)) × (z.roots ≡ root_count (untrytes l bs)) × (z.shadows ≡ count_in 2 (untrytes l bs))

-- the number of roots, or a rule is broken
abbrev pub RootsSay : List ℕ → Option ℕ → Type 0
RootsSay trits (Some c) = (roots_first trits ≡ true) × (c ≡ root_count trits)
RootsSay trits None = roots_first trits ≡ true → balanced trits ≡ true → ⊥

-- the number of nodes, or a rule is broken
abbrev pub NodesSay : List ℕ → Option ℕ → Type 0
NodesSay trits (Some n) = (balanced trits ≡ true) × (grown trits ≡ true) × (n ≡ node_count trits)
NodesSay trits None = balanced trits ≡ true → grown trits ≡ true → ⊥

-- so many zeros and ones stand before place p, and before every earlier place the zeros are no more than the ones
pub record Ballot (trits : List ℕ) (p zeros ones : ℕ) : Type 0 where
  pub inside : p ≤ length trits
  pub zeros_are : zeros ≡ rank 0 trits p
  pub ones_are : ones ≡ rank 1 trits p
  pub enough : (q : ℕ) → q < p → rank 0 trits q ≤ rank 1 trits q

-- so stands a count at a place that has a trit, with no more zeros than ones before it
abbrev pub Balloted : ℕ → List ℕ → Count → Type 0
Balloted l bs c = (length (untrytes l bs) ≡ l) × Ballot (untrytes l bs) c.p c.zeros c.ones × (c.p < l) × (c.zeros ≤ c.ones)
