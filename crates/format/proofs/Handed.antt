-- What a `?` on a Result hands on, as one equation. Assumes nothing.
use mathlib.Core.Path.{◌≡◌, ap, ◌∙◌}
use Rattle.std.specs.Prelude.{Result, Err}
use Rattle.std.specs.Result.{IsErrAnd}
use Rattle.std.proofs.lemmas.Result.{err_from_is_err_and}

pub handed : {T E : Type 0} {f : E} {r : Result T E} → IsErrAnd r (λ e. e ≡ f) → r ≡ Err f
handed {r = r} h = let p = err_from_is_err_and r h in p.1 ∙ ap Err p.2
