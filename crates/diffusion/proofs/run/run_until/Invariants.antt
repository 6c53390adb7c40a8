use Rattle.diffusion.specs.Runs.{rack}
use Rattle.diffusion.proofs.Running.{Going}
use Rattle.diffusion.proofs.run.run_until.Given as goal

-- the turns so far are a run, and all of their answers were heard
abbrev pub invariant-loop-turn : goal.invariant-loop-turn
invariant-loop-turn g l =
    Going g.S.Synopsis.kind g.S.Synopsis.form g.L.Listener.hears g.L.Listener.stops l.nodes l.fn.values l.fn.memory l.turns l.fn.listener l.turn-index l.listener (rack l.network l.values l.memory)
