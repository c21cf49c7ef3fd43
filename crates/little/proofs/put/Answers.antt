-- One byte more, by `put_add`; at the end the slice is those bytes.
use Rattle.std.proofs.Common.{◌≡◌, ◌+◌, ◌-◌, drop, length-take, length-drop, arith}
use Rattle.little.proofs.Laws.{put_more_byte, puts_all}
use Rattle.little.proofs.put.Goals as goal

pub loop-byte-preserved : goal.loop-byte-preserved
loop-byte-preserved g c = put_more_byte c.loop-byte.invariant c.loop-byte-test.true (omega arith)

pub returns : goal.returns
returns g c =
    let a = c.args in
    let k : a.at + g.row.N - a.at ≡ g.row.N = omega arith in
    puts_all a.at g.row.N a.s.now c.loop-byte.invariant c.requires k (omega (arith, c.loop-byte.auto.byte-index-end, length-take g.row.N (drop a.at a.s.now), length-drop a.at a.s.now))
