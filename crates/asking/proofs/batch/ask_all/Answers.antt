-- A turn takes one question and puts its answer.
use Rattle.std.proofs.Common.{ℕ, Bool, true, false, refl, ◌+◌, ◌*◌, ◌≡◌, ◌<◌, ◌∙◌, ◌++◌, sym, ap, length, drop, length-take, length-drop, length-append, arith}
use Rattle.std.specs.Int.{from_bool}
use Rattle.format.specs.Lists.{bit}
use Rattle.format.specs.Batch.{three_words}
use Rattle.little.specs.Put.{put_at}
use Rattle.asking.specs.BatchSteps.{replies, reply_at, good_one}
use Rattle.asking.proofs.BatchTurns.{Answered, answered_none, answered_few, answered_next, answered_all, replies_length, reply_at_lem, rest_is, question_is}
use Rattle.asking.proofs.batch.ask_all.Goals as goal
use Rattle.asking.proofs.batch.ask_all.Goals.{In-Some, After-ask_one, After-from-found}

pub loop-i-init : goal.loop-i-init
loop-i-init c =
    rw (c.into_iter-i-iterator.ensures.into_iter_gives, c.enumerate-i-items.ensures.source, c.enumerate-i-items.ensures.count)
    (record {
      threes = c.chunks_exact.ensures.size;
      rest = c.chunks_exact.ensures.rest;
      answered = answered_none c.args.image.now.bytes.now c.args.questions.now c.requires.0 c.args.answers.now c.requires.1;
    })

byte_bit : (b : Bool) → from_bool b ≡ bit b
byte_bit true = refl
byte_bit false = refl

-- the question that is taken
taken : (c : In-Some) → drop (3 * c.loop-i.i-iterator.count) c.args.questions.now ≡ c.in-Some.question.now ++ c.next.new.self.iter.rest.now
taken c = sym c.loop-i.invariant.rest ∙ c.in-Some.ensures.steps.0.1.0

threes : (c : In-Some) → length c.in-Some.question.now ≡ 3
threes c = c.in-Some.ensures.steps.0.1.1 ∙ c.loop-i.invariant.threes

-- it is inside the batch
inside : (c : In-Some) → 3 * c.loop-i.i-iterator.count + 2 < length c.args.questions.now
inside c =
    omega (arith, ap length (taken c), length-drop (3 * c.loop-i.i-iterator.count) c.args.questions.now, length-append c.in-Some.question.now c.next.new.self.iter.rest.now, threes c)

pub ask_one-requires : goal.ask_one-requires
ask_one-requires c =
    let s = (goal.at.ask_one-requires c).In-Some in
    (omega (arith, threes s, inside s, length-take {A = ℕ}), omega (arith, inside s, c.in-Some.ensures.steps.1, c.requires.1, c.loop-i.auto.answers))

-- what a turn did
turn : (c : After-ask_one) → let x = c.args in
    Answered (replies x.image.now.bytes.now x.questions.now) x.answers.now c.ask_one.new.answers (c.loop-i.found + bit c.ask_one.result) (c.loop-i.i-iterator.count + 1)
turn c =
    let image = c.args.image.now.bytes.now in
    let questions = c.args.questions.now in
    let i = c.loop-i.i-iterator.count in
    let taken = sym c.loop-i.invariant.rest ∙ c.in-Some.ensures.steps.0.1.0 in
    let three = c.in-Some.ensures.steps.0.1.1 ∙ c.loop-i.invariant.threes in
    let own = question_is questions c.in-Some.question.now c.next.new.self.iter.rest.now (3 * i) taken three image in
    let here : 3 * i + 2 < length questions = omega (arith, ap length taken, length-drop (3 * i) questions, length-append c.in-Some.question.now c.next.new.self.iter.rest.now, three) in
    let good : bit c.ask_one.result ≡ good_one (reply_at image c.in-Some.question.now 0) = c.ask_one.ensures.0 in
    let put : c.ask_one.new.answers ≡ put_at c.loop-i.answers (3 * c.in-Some.i) (three_words (reply_at image c.in-Some.question.now 0)) = c.ask_one.ensures.1 in
    answered_next c.loop-i.invariant.answered (omega (arith, replies_length image questions c.requires.0)) (reply_at image questions (3 * i)) (reply_at_lem image questions c.requires.0 i (omega arith))
    (bit c.ask_one.result) (rw own at good) c.ask_one.new.answers (rw (own, c.in-Some.ensures.steps.1) at put)

one : (c : After-from-found) → c.from-found.result ≡ bit c.ask_one.result
one c = c.from-found.ensures ∙ byte_bit c.ask_one.result

pub overflow_add-found : goal.overflow_add-found
overflow_add-found c = omega (arith, one (goal.at.overflow_add-found c).After-from-found, answered_few (turn ((goal.at.overflow_add-found c).After-ask_one)), c.in-Some.ensures.steps.1, c.in-Some.ensures.steps.3)

pub loop-i-preserved : goal.loop-i-preserved
loop-i-preserved c =
    let s = (goal.at.loop-i-preserved c).In-Some in
    rw c.in-Some.ensures.steps.2
    (record {
      threes = c.in-Some.ensures.steps.0.0 ∙ c.loop-i.invariant.threes;
      rest = rest_is c.args.questions.now c.in-Some.question.now c.next.new.self.iter.rest.now (3 * c.loop-i.i-iterator.count) (taken s) (threes s) ∙ ap (λ (k : ℕ). drop k c.args.questions.now) (omega arith);
      answered = rw (one (goal.at.loop-i-preserved c).After-from-found) (turn ((goal.at.loop-i-preserved c).After-ask_one));
    })

pub returns : goal.returns
returns c =
    let left = ap length c.loop-i.invariant.rest ∙ length-drop (3 * c.loop-i.i-iterator.count) c.args.questions.now in
    answered_all c.loop-i.invariant.answered (omega (arith, replies_length c.args.image.now.bytes.now c.args.questions.now c.requires.0, left, c.in-None.ensures.steps, c.loop-i.invariant.threes))
