-- What the exported entries answer and leave. Assumes nothing.
use Rattle.std.specs.Prelude.{ℕ, ◌+◌, ◌*◌, List}
use Rattle.format.specs.Answers.{Numbers}
use Rattle.format.specs.Packing.{PackOutcome}
use Rattle.format.specs.Unpack.{UnpackOutcome}

-- refusal · 2^32 + value
abbrev pub as_word : Numbers → ℕ
as_word n = 4294967296 * n.code + n.value

pub record PackExport : Type 0 where
  pub word : ℕ
  pub order : List ℕ
  pub work : List ℕ
  pub image : List ℕ

-- packing's outcome, its answer as one word
abbrev pub pack_export : PackOutcome → PackExport
pack_export o = record { word = as_word o.returned; order = o.order; work = o.work; image = o.image }

-- what an entry that answers r leaves
abbrev pub pack_exported : ℕ → List ℕ → List ℕ → List ℕ → PackExport
pack_exported r order work image = record { word = r; order = order; work = work; image = image }

pub record UnpackExport : Type 0 where
  pub word : ℕ
  pub table : List ℕ

-- unpacking's outcome, its answer as one word
abbrev pub unpack_export : UnpackOutcome → UnpackExport
unpack_export o = record { word = as_word o.returned; table = o.table }

abbrev pub unpack_exported : ℕ → List ℕ → UnpackExport
unpack_exported r table = record { word = r; table = table }
