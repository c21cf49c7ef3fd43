-- The answers to the questions that are taken stand in the buffer.
use Rattle.std.proofs.Common.{◌≡◌, ◌*◌, drop}
use Rattle.asking.specs.BatchSteps.{replies}
use Rattle.asking.proofs.BatchTurns.{Answered}
use Rattle.asking.proofs.batch.ask_all.Given as goal

abbrev pub invariant-loop-i : goal.invariant-loop-i
invariant-loop-i l = record {
  threes : l.i-iterator.iter.size ≡ 3;
  rest : l.i-iterator.iter.rest.now ≡ drop (3 * l.i-iterator.count) l.questions;
  answered : Answered (replies l.image.bytes.now l.questions) l.initial.answers l.answers l.found l.i-iterator.count;
}
