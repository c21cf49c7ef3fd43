-- 41, 42, 43, a refused image, or the answers and the sums.
use Rattle.std.proofs.Common.{arith}
use Rattle.format.proofs.Handed.{handed}
use Rattle.format.proofs.BatchLaws.{batch_41, batch_42, batch_43}
use Rattle.asking.proofs.BatchTurns.{run_refused, found_few, run_whole}
use Rattle.asking.proofs.batch.run.Goals as goal

pub returns-then-questions-ne0 : goal.returns-then-questions-ne0
returns-then-questions-ne0 c =
    let x = c.args in
    batch_41 x.image.now x.questions.now x.answers.now x.tally (λ e. omega arith)

pub returns-then-answers-questions : goal.returns-then-answers-questions
returns-then-answers-questions c =
    let x = c.args in
    batch_42 x.image.now x.questions.now x.answers.now x.tally (omega arith) (omega arith)

pub returns-then-not-roomy : goal.returns-then-not-roomy
returns-then-not-roomy c =
    let x = c.args in
    batch_43 x.image.now x.questions.now x.answers.now x.tally (omega arith) (omega arith) c.if-not-roomy.ensures

pub returns-in_err-image : goal.returns-in_err-image
returns-in_err-image c =
    let x = c.args in
    rw (handed c.from_residual.ensures.1)
    (run_refused x.image.now x.questions.now x.answers.now x.tally (omega arith) (omega arith) c.if-not-roomy.ensures c.in_err-image.field-0.0 c.in_err-image.ensures)

pub count-requires : goal.count-requires
count-requires c =
    let b = c.in_ok-image.image.bytes.now in
    (c.if-not-roomy.ensures, found_few b c.args.questions.now (omega arith) c.ask_all-found.result c.ask_all-found.ensures.0)

pub returns : goal.returns
returns c =
    let x = c.args in
    let e = c.in_ok-image.ensures.1 in
    run_whole x.image.now x.questions.now x.answers.now x.tally (omega arith) (omega arith) c.if-not-roomy.ensures c.in_ok-image.ensures.0
    _ (rw e at c.ask_all-found.ensures.0) _ (rw e at c.ask_all-found.ensures.1) _ c.count.ensures
