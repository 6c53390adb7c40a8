use Rattle.std.proofs.Common.{arith, ◌-◌, length, drop, length-take, length-drop}
use Rattle.session.proofs.Written.{written_more}
use Rattle.session.proofs.put.put.Goals as goal

pub loop-at-preserved : goal.loop-at-preserved
loop-at-preserved g c =
    let w = c.in_ok-count.ensures in
    let xs = c.args.bytes.now in
    let at = c.loop-at.at in
    record {
      written = written_more _ _ _ c.in_ok-count.count at xs c.loop-at.invariant.written w.bytes;
      within = omega (arith, w.bound, length-take (length xs - at) (drop at xs), length-drop at xs);
    }
