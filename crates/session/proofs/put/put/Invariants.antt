use Rattle.std.proofs.Common.{◌-◌, ◌≤◌, length, drop}
use Rattle.session.specs.Writing.{Written}
use Rattle.session.proofs.put.put.Given as goal

-- the bytes before this place were written
abbrev pub invariant-loop-at : goal.invariant-loop-at
invariant-loop-at g l = record {
  written : Written (g.W.Write.contents l.fn.writer) (g.W.Write.contents l.writer) (drop l.at l.bytes) l.bytes;
  within : l.at ≤ length l.bytes;
}

abbrev pub decreases-loop-at : goal.decreases-loop-at
decreases-loop-at g l = length l.bytes - l.at
