use Rattle.script.proofs.Counting.{too_great}
use Rattle.script.proofs.digits.value.Goals as goal

pub returns-in_default : goal.returns-in_default
returns-in_default c =
    too_great c.args.digits.now c.loop-digit.number c.loop-digit.digit-index c.loop-digit-test.true c.loop-digit.invariant.rest c.in_default.ensures
