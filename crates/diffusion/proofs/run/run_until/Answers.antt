use Rattle.std.proofs.Common.{arith}
use Rattle.std.proofs.lemmas.List.{get_or_default}
use Rattle.diffusion.specs.Turns.{tells}
use Rattle.diffusion.specs.Runs.{rack}
use Rattle.diffusion.proofs.Promising.{promise}
use Rattle.diffusion.proofs.Running.{going, gone_on, stopped, finished}
use Rattle.diffusion.proofs.run.run_until.Goals as goal

pub loop-turn-init : goal.loop-turn-init
loop-turn-init g c =
    let e = c.in_ok-open.ensures in
    let h = g.L.Listener in
    going g.S.Synopsis.kind g.S.Synopsis.form h.hears h.stops c.args.nodes c.args.values.now c.args.memory.now c.args.turns.now c.args.listener.now c.open.new.self c.open.new.values e.answer e.table e.after

pub loop-turn-preserved : goal.loop-turn-preserved
loop-turn-preserved g c =
    let h = g.L.Listener in
    let l = c.loop-turn in
    let made = c.answer_turn-answer in
    gone_on g.S.Synopsis.kind g.S.Synopsis.form h.hears h.stops c.args.nodes c.args.values.now c.args.memory.now c.args.turns.now c.args.listener.now l.turn-index _ l.listener (rack l.network l.values l.memory) (rack made.new.network made.new.values made.new.memory) c.loop-turn-test.true (get_or_default c.args.turns.now l.turn-index _ _ c.loop-turn-test.true) l.invariant made.ensures.step (tells made.result) made.ensures.answer c.hear.new.self c.in_default.ensures.heard

pub returns-in-Err-clause-made : goal.returns-in-Err-clause-made
returns-in-Err-clause-made g c =
    let h = g.L.Listener in
    let l = c.loop-turn in
    let made = c.answer_turn-answer in
    stopped g.S.Synopsis.kind g.S.Synopsis.form h.hears h.stops c.args.nodes c.args.values.now c.args.memory.now c.args.turns.now c.args.listener.now l.turn-index _ l.listener (rack l.network l.values l.memory) (rack made.new.network made.new.values made.new.memory) c.loop-turn-test.true (get_or_default c.args.turns.now l.turn-index _ _ c.loop-turn-test.true) l.invariant made.ensures.step (tells made.result) made.ensures.answer c.hear.new.self c.in-Err.ensures.stopped

pub returns-clause-made : goal.returns-clause-made
returns-clause-made g c =
    let h = g.L.Listener in
    let l = c.loop-turn in
    finished g.S.Synopsis.kind g.S.Synopsis.form h.hears h.stops c.args.nodes c.args.values.now c.args.memory.now c.args.turns.now c.args.listener.now l.turn-index l.listener (rack l.network l.values l.memory) (omega arith) l.invariant

pub returns-in_err-open-clause-promise : goal.returns-in_err-open-clause-promise
returns-in_err-open-clause-promise g c = promise g.S.Synopsis.kind g.met.S.Synopsis.lawful g.S.Synopsis.form

pub returns-in-Err-clause-promise : goal.returns-in-Err-clause-promise
returns-in-Err-clause-promise g c = promise g.S.Synopsis.kind g.met.S.Synopsis.lawful g.S.Synopsis.form

pub returns-clause-promise : goal.returns-clause-promise
returns-clause-promise g c = promise g.S.Synopsis.kind g.met.S.Synopsis.lawful g.S.Synopsis.form
