-- Three words, one behind the other.
use Rattle.asking.proofs.BatchTurns.{set_three}
use Rattle.asking.proofs.batch.put_three.Goals as goal

pub returns : goal.returns
returns c = let x = c.args in set_three x.answers.now x.at x.code x.value x.sort c.requires
