-- Each return is one fault of the front, or none.
use Rattle.std.proofs.Common.{◌≡◌, ◌∙◌, sym, arith, length-drop}
use Rattle.std.proofs.lemmas.Result.{MatchResult-weaker}
use Rattle.format.proofs.Handed.{handed}
use Rattle.format.specs.Proper.{count_of, SectionGives}
use Rattle.format.specs.Answers.{refusal_number}
use Rattle.format.proofs.OneToOne.{refusal_some}
use Rattle.proper.specs.Examined.{opens, Opened}
use Rattle.proper.proofs.OpenLaws.{opens_gives}
use Rattle.proper.proofs.check.section.Goals as goal
use Rattle.proper.proofs.check.section.Goals.{Start}

gives : (c : Start) → let x = c.args in
    SectionGives (opens (refusal_number x.code) x.entries x.size x.rest.now) x.rest.now (count_of x.rest.now ≡ x.entries) (refusal_number x.code) x.size 0
gives c = opens_gives (refusal_number c.args.code) c.args.entries c.args.size c.args.rest.now (refusal_some c.args.code)

pub returns-in_err-found : goal.returns-in_err-found
returns-in_err-found c =
    let e = c.in_err-found.ensures in
    rw (handed c.from_residual.ensures.1, e.0) (sym ((gives (goal.at.returns-in_err-found c).Start).count_missing e.1))

pub returns-then-found-entries : goal.returns-then-found-entries
returns-then-found-entries c =
    let e = c.in_ok-found.ensures in
    sym ((gives (goal.at.returns-then-found-entries c).Start).count_wrong e.0 (λ r. c.if-found-entries.true (e.1 ∙ r)))

pub returns : goal.returns
returns c =
    let x = c.args in
    let b = x.rest.now in
    let n = refusal_number x.code in
    let e = c.in_ok-found.ensures in
    let g = gives (goal.at.returns c).Start in
    let right = sym e.1 ∙ c.if-found-entries.false in
    let long = length-drop 4 b in
    MatchResult-weaker _ {P' = λ p. Opened n x.entries x.size b p.0.now p.1.now} {Q' = λ f. refusal_number f ≡ opens n x.entries x.size b} c.contents.ensures
    (λ p k. record { front = sym (g.contents_there e.0 right (omega (arith, k.room, long))); cut = k })
    (λ f k. rw k.0 (sym (g.contents_missing e.0 right (omega (arith, k.1, long)))))
