-- A case for each trit: what it puts, and where the unpacker stands after it.
use Rattle.std.proofs.Common.{◌≡◌, ◌+◌, ◌*◌, ◌≤◌, ◌∙◌, sym, ap, length, get_or, set, arith}
use Rattle.format.specs.Proper.{trits_of}
use Rattle.unpacking.proofs.SizeLaws.{sizes}
use Rattle.unpacking.proofs.StandLaws.{last, count_fits, ones_few, shadow_inside, zero_put, one_put, two_put, three_left, stand_zero, stand_one, stand_two}
use Rattle.unpacking.proofs.put_trit.Goals as goal
use Rattle.unpacking.proofs.put_trit.Goals.{In-0, In-1, In_default}

pub trit-requires : goal.trit-requires
trit-requires c = let x = c.requires.0 in omega (arith, x.inside, sizes x.laid)

-- a zero

zero : (c : In-0) → get_or (trits_of c.args.image.now.bytes.now) c.args.p 0 ≡ 0
zero c = sym c.trit.ensures ∙ c.in-0.is

pub overflow_sub-count : goal.overflow_sub-count
overflow_sub-count c = omega (arith, last c.requires.0)

pub overflow_sub-count-in-0 : goal.overflow_sub-count-in-0
overflow_sub-count-in-0 c = omega (arith, last c.requires.0)

pub overflow_cast-table : goal.overflow_cast-table
overflow_cast-table c = omega (arith, count_fits c.requires.0 (zero ((goal.at.overflow_cast-table c).In-0)))

pub overflow_sub-table : goal.overflow_sub-table
overflow_sub-table c = omega (arith, last c.requires.0)

pub overflow_add-table : goal.overflow_add-table
overflow_add-table c = omega (arith, last c.requires.0)

pub offset_bounds-table-s : goal.offset_bounds-table-s
offset_bounds-table-s c = omega (arith, last c.requires.0, c.requires.0.inside, sizes c.requires.0.laid)

pub bounds-table-s : goal.bounds-table-s
bounds-table-s c = omega (arith, last c.requires.0, c.requires.0.inside)

pub returns-in-0 : goal.returns-in-0
returns-in-0 c =
    let e = zero ((goal.at.returns-in-0 c).In-0) in
    (stand_zero c.requires.0 e, zero_put c.requires.0 c.args.table.now e)

-- a one

one : (c : In-1) → get_or (trits_of c.args.image.now.bytes.now) c.args.p 0 ≡ 1
one c = sym c.trit.ensures ∙ c.in-1.is

pub overflow_add-next : goal.overflow_add-next
overflow_add-next c = omega (arith, ones_few c.requires.0 (one ((goal.at.overflow_add-next c).In-1)))

pub overflow_cast-table-in-1 : goal.overflow_cast-table-in-1
overflow_cast-table-in-1 c = omega (arith, ones_few c.requires.0 (one ((goal.at.overflow_cast-table-in-1 c).In-1)))

pub returns-in-1 : goal.returns-in-1
returns-in-1 c =
    let e = one ((goal.at.returns-in-1 c).In-1) in
    (stand_one c.requires.0 e, one_put c.requires.0 c.args.table.now e)

-- a two

two : (c : In_default) → get_or (trits_of c.args.image.now.bytes.now) c.args.p 0 ≡ 2
two c = omega (arith, c.trit.ensures, three_left c.requires.0)

inside : (c : In_default) → let a = c.args in a.image.now.lay.at2 + 2 * a.s.twos + 2 ≤ length a.image.now.bytes.now
inside c = shadow_inside c.requires.0 (two c)

pub overflow_mul-s : goal.overflow_mul-s
overflow_mul-s c = omega (arith, inside ((goal.at.overflow_mul-s c).In_default))

pub overflow_add-image : goal.overflow_add-image
overflow_add-image c = omega (arith, inside ((goal.at.overflow_add-image c).In_default))

pub get-shadow-requires-clause-inside : goal.get-shadow-requires-clause-inside
get-shadow-requires-clause-inside c = inside ((goal.at.get-shadow-requires-clause-inside c).In_default)

pub overflow_add-result : goal.overflow_add-result
overflow_add-result c = omega (arith, inside ((goal.at.overflow_add-result c).In_default))

pub returns-in_default : goal.returns-in_default
returns-in_default c =
    let e = two ((goal.at.returns-in_default c).In_default) in
    (stand_two c.requires.0 e, ap (set c.args.table.now _) c.get-shadow.ensures.0 ∙ two_put c.requires.0 c.args.table.now e)
