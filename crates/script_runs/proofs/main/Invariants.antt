use Rattle.std.proofs.Common.{length}
use Rattle.script_runs.proofs.main.Given as goal

abbrev pub decreases-loop-script : goal.decreases-loop-script
decreases-loop-script l = length l.rest
