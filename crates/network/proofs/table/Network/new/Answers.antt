use Rattle.std.proofs.Common.{arith}
use Rattle.network.proofs.Refusing.{free_keeps}
use Rattle.network.proofs.table.Network.new.Goals as goal

pub invariant_of-result : goal.invariant_of-result
invariant_of-result c = free_keeps 0 (omega arith)
