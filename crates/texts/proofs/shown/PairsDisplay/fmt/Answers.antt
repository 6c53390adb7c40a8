use Rattle.std.proofs.Common.{true, refl}
use Rattle.std.proofs.Output.{has_written_append, has_written_of_eq}
use Rattle.texts.proofs.Digits.{encode_more}
use Rattle.texts.proofs.shown.PairsDisplay.fmt.Goals as goal

pub loop-byte-preserved : goal.loop-byte-preserved
loop-byte-preserved g c p =
    let so_far = c.loop-byte.invariant p in
    has_written_of_eq _ _ _ _ _ (encode_more c.args.self.now.0.now c.loop-byte.byte-index c.digit-high.result c.digit-low.result c.loop-byte-test.true c.digit-high.ensures.digit c.digit-low.ensures.digit c.digit-high.ensures.ascii c.digit-low.ensures.ascii) (has_written_append _ _ _ _ _ _ so_far (c.in_ok-write.ensures.writes so_far.plain (refl {a = true})))
