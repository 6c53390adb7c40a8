use Rattle.std.proofs.Common.{length}
use Rattle.frames.proofs.Numbers.{put_more}
use Rattle.frames.proofs.number.put_number.Goals as goal

pub loop-i-preserved : goal.loop-i-preserved
loop-i-preserved c = put_more c.loop-i.out c.args.n c.loop-i.i (length c.args.out.now) c.loop-i.rest c.loop-i-test.true c.loop-i.auto.i c.loop-i.auto.out c.loop-i.invariant
