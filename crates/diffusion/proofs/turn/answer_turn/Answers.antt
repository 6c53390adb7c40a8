use Rattle.diffusion.specs.Turns.{tells}
use Rattle.diffusion.proofs.Gluing.{glued_tells, glued_leaves, glued_others}
use Rattle.diffusion.proofs.turn.answer_turn.Goals as goal

pub returns-clause-answer : goal.returns-clause-answer
returns-clause-answer g c =
    glued_tells g.S.Synopsis.kind g.met.S.Synopsis.lawful g.S.Synopsis.form c.args.network.now c.args.values.now c.args.memory.now c.args.turn.now c.min-v.result c.min-m.result c.min-v.ensures c.min-m.ensures (tells c.make_call.result) c.make_call.ensures.answer

pub returns-clause-step : goal.returns-clause-step
returns-clause-step g c = record {
  leaves = glued_leaves g.S.Synopsis.kind g.met.S.Synopsis.lawful g.S.Synopsis.form c.args.network.now c.args.values.now c.args.memory.now c.args.turn.now c.min-v.result c.min-m.result c.min-v.ensures c.min-m.ensures (tells c.make_call.result) c.make_call.new.network c.make_call.new.values c.make_call.new.memory c.make_call.ensures.answer c.make_call.ensures.after;
  others = glued_others g.S.Synopsis.kind g.met.S.Synopsis.lawful g.S.Synopsis.form c.args.network.now c.args.values.now c.args.memory.now c.args.turn.now c.min-v.result c.min-m.result c.min-v.ensures c.min-m.ensures (tells c.make_call.result) c.make_call.new.values c.make_call.ensures.answer c.make_call.auto.values c.make_call.ensures.others;
}
