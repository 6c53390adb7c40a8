-- The output of the worked script, computed from its bytes.
use Rattle.std.proofs.Common.{refl}
use Rattle.std.specs.Fmt.{digits}
use Rattle.hex.specs.Hex.{encode_with}
use Rattle.figures.specs.Scripts.{WorkedScript}

pub worked_script : WorkedScript
unfolding digits encode_with
worked_script = refl
