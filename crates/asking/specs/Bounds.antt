-- Where the group of node i + 1 stands in section 5. Assumes nothing.
use Rattle.std.specs.Prelude.{ℕ, suc, List, length}
use Rattle.format.specs.Image.{grouped}
use Rattle.asking.specs.declared.index.Group.{Group}

-- after the groups of nodes 1 to i, up to those of nodes 1 to i + 1
abbrev pub bounds : List ℕ → List ℕ → ℕ → Group
bounds trits H i = record { first = length (grouped trits H i); next = length (grouped trits H (suc i)) }
