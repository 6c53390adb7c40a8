use Rattle.std.proofs.Common.{ℕ, ◌+◌, ◌^◌, ◌<◌, [], length}
use Rattle.diffusion.specs.Runs.{rack}
use Rattle.script.specs.Lines.{lines}
use Rattle.session.specs.Sessions.{After}
use Rattle.session.proofs.Playing.{Playing}
use Rattle.session.proofs.replay.play.Given as goal

-- what was written and what the lines that are left are owed are what all lines are owed
abbrev pub invariant-loop-line : goal.invariant-loop-line
invariant-loop-line g l = record {
  playing : (nodes : ℕ) → After g.S.Synopsis.kind g.S.Synopsis.form nodes [] (rack l.fn.network l.fn.values l.fn.memory) → Playing g.S.Synopsis.kind g.S.Synopsis.form g.S.Paged.page nodes l.first (lines l.input) (g.W.Write.contents l.fn.writer) (rack l.network l.values l.memory) l.number (g.W.Write.contents l.writer) (lines l.rest);
  few : l.number + length l.rest < 2 ^ 64;
}

abbrev pub decreases-loop-line : goal.decreases-loop-line
decreases-loop-line g l = length l.rest
