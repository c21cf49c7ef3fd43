-- The next neighbour is left, and is put. Assumes nothing.
use Rattle.std.proofs.Common.{[], ◌∷◌, ◌++◌, refl, ap, ◌∙◌, arith}
use Rattle.format.specs.Question.{Reply}
use Rattle.asking.specs.Kinds.{kind_number}
use Rattle.listing.specs.Neighbours.{neighbour_text, neighbours}
use Rattle.listing.proofs.TextLaws.{Left, begin_two, fits, next, finish, part_at, parts_done}
use Rattle.listing.proofs.LineLaws.{begin_neighbours}
use Rattle.listing.proofs.lines.put_neighbours.Goals as goal
use Rattle.listing.proofs.lines.put_neighbours.Goals.{After-put}

-- the neighbours are left
marked : (c : After-put) → let x = c.args in let ns = neighbours x.image.now.bytes.now (kind_number x.count) (kind_number x.each) x.i in let now = c.put.new.self in
    Left x.text.now.bytes.now x.text.now.end (x.sign.now ++ ns) now.bytes.now now.end (ns ∷ [])
marked c = next (begin_two c.args.sign.now _ c.requires) c.put.ensures.wrote

pub loop-b-init : goal.loop-b-init
loop-b-init c = record {
  left = begin_neighbours _ _ _ _ (c.value-many.ensures ∙ ap (λ (r : Reply). r.value) (rw c.from.ensures at c.answer.ensures)) (fits (marked (goal.at.loop-b-init c).After-put));
  same = refl;
}

pub put_neighbour-requires : goal.put_neighbour-requires
put_neighbour-requires c = fits (part_at _ _ _ c.loop-b.invariant.left (omega arith) c.loop-b-test.true (ap neighbour_text (rw c.from-in-loop-b.ensures at c.answer-in-loop-b.ensures)))

pub loop-b-preserved : goal.loop-b-preserved
loop-b-preserved c = record {
  left = next (part_at _ _ _ c.loop-b.invariant.left (omega arith) c.loop-b-test.true (ap neighbour_text (rw c.from-in-loop-b.ensures at c.answer-in-loop-b.ensures))) c.put_neighbour.ensures.wrote;
  same = c.put_neighbour.ensures.same ∙ c.loop-b.invariant.same;
}

pub returns-clause-wrote : goal.returns-clause-wrote
returns-clause-wrote c =
    finish (next (marked (goal.at.returns-clause-wrote c).After-put) (parts_done _ _ _ c.loop-b.invariant.left (omega arith)))

pub returns-2-clause-wrote : goal.returns-2-clause-wrote
returns-2-clause-wrote c =
    finish (next (marked (goal.at.returns-2-clause-wrote c).After-put)
    (parts_done _ _ _ (next (part_at _ _ _ c.loop-b.invariant.left (omega arith) c.loop-b-test.true (ap neighbour_text (rw c.from-in-loop-b.ensures at c.answer-in-loop-b.ensures))) c.put_neighbour.ensures.wrote) (omega arith)))

pub returns-2-clause-same : goal.returns-2-clause-same
returns-2-clause-same c = c.put_neighbour.ensures.same ∙ c.loop-b.invariant.same ∙ c.put.ensures.same
