-- Section 1's faults, or what sections 2 to 9 give.
use Rattle.std.proofs.Common.{Result, Ok, Err, ◌≡◌, ◌∙◌, ◌≤◌, ℕ, sym, ap, arith, length-drop}
use Rattle.format.proofs.Handed.{handed}
use Rattle.format.specs.Lists.{up}
use Rattle.format.specs.Trits.{untrytes}
use Rattle.format.specs.Proper.{count_of, contents_of, rest_of, size1, trits_of, contents_fault1, fault1, check_image, SectionGives}
use Rattle.format.specs.declared.Refusal.TheVariants.{ImageEnds, ImageTooLarge, TritsWrong}
use Rattle.format.proofs.Steps.{checker_gives}
use Rattle.format.specs.declared.Refusal.{Refusal}
use Rattle.trits.specs.declared.Layout.{Layout}
use Rattle.trits.specs.Layout.{layout_of, laying}
use Rattle.proper.specs.Examined.{Examines, shadows2, check2, FirstPassed}
use Rattle.proper.proofs.PassedLaws.{examines_as, refused_1, missing_1, passed_1, laid_out, first_passed_is}
use Rattle.proper.proofs.check.examine.Goals as goal
use Rattle.proper.proofs.check.examine.Goals.{In_ok-l, In_ok-bs, In_ok-sizes}

-- section 1, where its count is within the limit
first : (c : In_ok-l) → c.in_ok-l.l ≤ 125536 → let b = c.args.bytes.now in
    SectionGives (fault1 b) b (1 ≤ count_of b) 23 (size1 b) (contents_fault1 (count_of b) (contents_of (size1 b) b))
first c h = (checker_gives c.args.bytes.now).section_1 (omega (arith, c.in_ok-l.ensures))

pub returns-in_err-l : goal.returns-in_err-l
returns-in_err-l c =
    let e = c.in_err-l.ensures in
    rw (handed c.from_residual.ensures.1, e.0) (refused_1 _ ImageEnds (missing_1 c.args.bytes.now e.1))

pub returns-then-l-gt-MAX_TRITS : goal.returns-then-l-gt-MAX_TRITS
returns-then-l-gt-MAX_TRITS c =
    let e = c.in_ok-l.ensures in
    refused_1 _ ImageTooLarge ((checker_gives c.args.bytes.now).too_large e.0 (omega (arith, e.1)))

pub returns-then-l-eq0 : goal.returns-then-l-eq0
returns-then-l-eq0 c =
    let e = c.in_ok-l.ensures in
    refused_1 _ TritsWrong ((first (goal.at.returns-then-l-eq0 c).In_ok-l (omega arith)).count_wrong e.0 (λ h. omega (arith, e.1, h)))

pub returns-in_err-bs : goal.returns-in_err-bs
returns-in_err-bs c =
    let b = c.args.bytes.now in
    let e = c.in_ok-l.ensures in
    let k = c.in_err-bs.ensures in
    rw (handed c.from_residual-in_err-bs.ensures.1, k.0) (refused_1 b ImageEnds ((first (goal.at.returns-in_err-bs c).In_ok-l (omega arith)).contents_missing e.0 (omega (arith, e.1)) (omega (arith, length-drop 4 b, e.1, k.1))))

-- the size of section 1's contents
size_is : (c : In_ok-bs) → c.div_ceil.result ≡ up (count_of c.args.bytes.now) 5
size_is c = omega (arith, c.in_ok-l.ensures)

-- the bytes of section 1, and those behind them, as the definitions cut them
bytes_are : (c : In_ok-bs) → let b = c.args.bytes.now in c.in_ok-bs.bs.now ≡ contents_of (size1 b) b
bytes_are c = c.in_ok-bs.ensures.part_is ∙ ap (λ (x : ℕ). contents_of x c.args.bytes.now) (size_is c)

rest_are : (c : In_ok-bs) → let b = c.args.bytes.now in c.in_ok-bs.rest.now ≡ rest_of (size1 b) b
rest_are c = c.in_ok-bs.ensures.rest_is ∙ ap (λ (x : ℕ). rest_of x c.args.bytes.now) (size_is c)

there : (c : In_ok-bs) → fault1 c.args.bytes.now ≡ contents_fault1 c.in_ok-l.l c.in_ok-bs.bs.now
there c =
    let b = c.args.bytes.now in
    let e = c.in_ok-l.ensures in
    (first (goal.at-In_ok-bs c).In_ok-l (omega arith)).contents_there e.0 (omega (arith, e.1)) (omega (arith, length-drop 4 b, e.1, c.in_ok-bs.ensures.room))
    ∙ (λ i. contents_fault1 (sym e.1 i) (sym (bytes_are c) i))

pub returns-in_err-sizes : goal.returns-in_err-sizes
returns-in_err-sizes c =
    rw (handed c.from_residual-in_err-sizes.ensures.1) (refused_1 _ _ (there (goal.at.returns-in_err-sizes c).In_ok-bs ∙ c.in_err-sizes.ensures))

-- section 1 has passed
passed : (c : In_ok-sizes) → FirstPassed c.in_ok-bs.bs.now c.in_ok-l.l c.in_ok-sizes.sizes.nodes c.in_ok-sizes.sizes.roots c.in_ok-sizes.sizes.shadows
passed c = first_passed_is {z = c.in_ok-sizes.sizes} (omega arith) (omega arith) (omega (arith, c.in_ok-bs.ensures.part_long)) c.in_ok-sizes.ensures

pub from2-requires : goal.from2-requires
from2-requires c = passed (goal.at.from2-requires c).In_ok-sizes

-- what sections 2 to 9 give, by the image
whole : (c : In_ok-sizes) (r : Result Layout Refusal) → let ts = untrytes c.in_ok-l.l c.in_ok-bs.bs.now in let rest = c.in_ok-bs.rest.now in
    Examines (check2 ts rest) (laying ts (shadows2 ts rest)) r → Examines (check_image c.args.bytes.now) (layout_of c.args.bytes.now) r
unfolding trits_of
whole c r h =
    let cut = (goal.at-In_ok-sizes c).In_ok-bs in
    let b = c.args.bytes.now in
    let is = c.in_ok-l.ensures.1 in
    examines_as r
    ((λ i. check2 (untrytes (is i) (bytes_are cut i)) (rest_are cut i)) ∙ sym (passed_1 b (there cut ∙ (passed c).passed)))
    ((λ i. laying (untrytes (is i) (bytes_are cut i)) (shadows2 (untrytes (is i) (bytes_are cut i)) (rest_are cut i))) ∙ sym (laid_out b))
    h

pub returns-in_err-lay : goal.returns-in_err-lay
returns-in_err-lay c =
    rw (handed c.from_residual-in_err-lay.ensures.1) (whole (goal.at.returns-in_err-lay c).In_ok-sizes (Err c.in_err-lay.field-0.0) c.in_err-lay.ensures)

pub of-requires : goal.of-requires
of-requires c = whole (goal.at.of-requires c).In_ok-sizes (Ok c.in_ok-lay.lay) c.in_ok-lay.ensures
