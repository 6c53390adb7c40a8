use Rattle.std.proofs.Common.{arith}
use Rattle.std.proofs.lemmas.Int.Digits.{number_more}
use Rattle.frames.proofs.number.get_number.Goals as goal

pub loop-b-preserved : goal.loop-b-preserved
loop-b-preserved c = omega (arith, number_more 256 c.args.bytes.now c.loop-b.b-index c.loop-b-test.true)
