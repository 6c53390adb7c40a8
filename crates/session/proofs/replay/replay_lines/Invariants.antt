use Rattle.std.proofs.Common.{◌≡◌, ◌+◌, ◌≤◌, length}
use Rattle.script.specs.Lines.{lines}
use Rattle.session.specs.Printed.{printed_from}
use Rattle.session.specs.Standing.{closed, answers}
use Rattle.session.specs.Writing.{Written}
use Rattle.session.proofs.replay.replay_lines.Given as goal

-- what was written and what the lines that are left are owed are what all lines are owed
abbrev pub invariant-loop-line : goal.invariant-loop-line
invariant-loop-line g l = record {
  written : Written (g.W.Write.contents l.fn.writer) (g.W.Write.contents l.writer) (printed_from l.number (answers closed (lines l.rest))) (printed_from 1 (answers closed (lines l.input)));
  few : l.number + length l.rest ≤ 65537;
  room : length l.memory ≡ 65536;
}

abbrev pub decreases-loop-line : goal.decreases-loop-line
decreases-loop-line g l = length l.rest
