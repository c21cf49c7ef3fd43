-- One tryte more, by `put_tryte`.
use Rattle.std.proofs.Common.{arith, refl, sym, ◌∙◌}
use native.Mathlib.Nat.{le_refl}
use Rattle.format.proofs.Sizes.{length_trytes}
use Rattle.format.proofs.Over.{over_none, over_length, over_whole}
use Rattle.packing.proofs.SectionLaws.{put_tryte}
use Rattle.packing.proofs.sections.put_trytes.Goals as goal

pub loop-byte-init : goal.loop-byte-init
loop-byte-init c = record { written = over_none _ _ _ (length_trytes _ ∙ sym c.requires.1) (le_refl _); next = _; trits = refl; rest = c.first-c.ensures }

pub next_tryte-requires : goal.next_tryte-requires
next_tryte-requires c = let p = c.loop-byte.invariant in record { left = p.next; rest = p.rest }

pub loop-byte-preserved : goal.loop-byte-preserved
loop-byte-preserved c = put_tryte c.loop-byte.invariant (omega arith) c.requires.1 c.next_tryte.ensures.1

pub returns : goal.returns
returns c = let w = c.loop-byte.invariant.written in over_whole w (omega (arith, over_length w)) refl
