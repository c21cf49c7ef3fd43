-- A walked table, and that this is one fact, which a struct can hold. Assumes nothing.
use Rattle.std.specs.Prelude.{ℕ, List, [], ◌∷◌}
use Rattle.std.specs.Coded.{×_prop, Unit-prop}
use Rattle.std.proofs.Props.{props}
use Rattle.format.specs.Lists.{All, Nodup}
use Rattle.format.specs.Level.{walk}
use Rattle.packing.specs.Work.{graph_of, WorkAt}

-- the buffer after the walk through a table, whose n nodes are all reached
abbrev pub Walked : List ℕ → ℕ → List ℕ → Type 0
Walked table n work = WorkAt table n (walk (graph_of table)) n work

pub all_prop : {A : Type 0} {P : A → Type 0} → ((x : A) → IsProp (P x)) → (l : List A) → IsProp (All P l)
all_prop h [] = Unit-prop
all_prop h (x ∷ l) = ×_prop (h x) (all_prop h l)

pub nodup_prop : (l : List ℕ) → IsProp (Nodup l)
nodup_prop [] = Unit-prop
nodup_prop (x ∷ l) = ×_prop (Prim.hlevel props) (nodup_prop l)

pub ruleset walked_props = (all_prop, nodup_prop, props)
