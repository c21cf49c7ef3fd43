-- A number up to the count has its place.
use Rattle.std.proofs.Common.{sym, ap, ◌∙◌}
use Rattle.format.specs.Proper.{trits_of}
use Rattle.format.specs.Answers.{found_place}
use Rattle.format.proofs.Select.{select_some}
use Rattle.asking.proofs.KindLaws.{found_there}
use Rattle.asking.proofs.question.place.Goals as goal

pub unwrap-requires : goal.unwrap-requires
unwrap-requires c = found_there c.args.t (trits_of c.args.image.now.bytes.now) c.args.j c.requires.1 c.requires.2 c.select.result c.select.ensures

pub returns : goal.returns
returns c = select_some _ _ _ _ (sym (sym (ap found_place c.unwrap.ensures) ∙ c.select.ensures))
