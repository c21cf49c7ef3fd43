-- Three sections, one behind the other.
use Rattle.std.proofs.Common.{arith}
use Rattle.format.specs.Image.{section7, section8}
use Rattle.samples.specs.Samples.{sample_section}
use Rattle.packing.proofs.ImageLaws.{offsets, plan6, plan7, plan8, samples_put}
use Rattle.packing.proofs.image.put_samples.Goals as goal

pub put_sample_section-requires : goal.put_sample_section-requires
put_sample_section-requires c =
    let p = c.requires in
    (p.0, p.1, p.2, plan6 p.2.laid, omega (arith, offsets p.2.laid))

pub put_sample_section-requires-2 : goal.put_sample_section-requires-2
put_sample_section-requires-2 c =
    let p = c.requires in
    let s = (c.put_sample_section.ensures p.0 p.1 p.2).1 in
    (p.0, p.1, s, plan7 s.laid, omega (arith, offsets s.laid))

pub put_sample_section-requires-3 : goal.put_sample_section-requires-3
put_sample_section-requires-3 c =
    let p = c.requires in
    let s = (c.put_sample_section-2.ensures p.0 p.1 (c.put_sample_section.ensures p.0 p.1 p.2).1).1 in
    (p.0, p.1, s, plan8 s.laid, omega (arith, offsets s.laid))

pub returns : goal.returns
unfolding section7 section8 sample_section
returns c =
    λ trits H s.
    let a = c.put_sample_section.ensures trits H s in
    let b = c.put_sample_section-2.ensures trits H a.1 in
    let e = c.put_sample_section-3.ensures trits H b.1 in
    samples_put s.laid a.0 b.0 e.0
