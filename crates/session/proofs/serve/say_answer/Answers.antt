use Rattle.std.proofs.Common.{◌≡◌, ◌≤◌, length, Ok, subst, sym, arith}
use Rattle.diffusion.specs.Turns.{Told}
use Rattle.diffusion.specs.Runs.{rack, rack_tells}
use Rattle.script.specs.declared.ask.Ask.{Ask}
use Rattle.script.specs.declared.ask.Ask.TheVariants as ask
use Rattle.script.specs.Asking.{seen_ask}
use Rattle.session.specs.Owing.{whole}
use Rattle.session.specs.Answers.{said_tells}
use Rattle.session.proofs.Serving.{Served, Said, said_so, heard, call_served, usage_served, enough}
use Rattle.session.proofs.serve.say_answer.Goals as goal

pub returns-in-Call : goal.returns-in-Call
returns-in-Call g c nodes h s =
    let k = g.S.Synopsis.kind in
    let form = g.S.Synopsis.form in
    let laws = g.met.S.Synopsis.lawful in
    let page = g.S.Paged.page in
    let m = c.make_turn in
    let before = rack c.args.network.now c.args.values.now c.args.memory.now in
    let after = rack m.new.network m.new.values m.new.memory in
    let e : c.args.ask ≡ ask.Call c.in-Call.call = c.in-Call.is in
    subst (λ (a : Ask). Said k laws form page nodes h (Ok (seen_ask a)) m.result m.new.listener.text.bytes c.args.output.now.number after) (sym e)
    (said_so k laws form page nodes h (Ok (seen_ask (ask.Call c.in-Call.call))) m.result _ c.args.output.now.number (rack_tells k form before (whole c.in-Call.call)) after (heard m.result _ _ _ m.ensures.told) (call_served k laws form page nodes h before after c.in-Call.call s m.ensures.step))

pub returns-else-values-nodes : goal.returns-else-values-nodes
returns-else-values-nodes g c nodes h s =
    let k = g.S.Synopsis.kind in
    let form = g.S.Synopsis.form in
    let laws = g.met.S.Synopsis.lawful in
    let page = g.S.Paged.page in
    let said = c.say-in-Usage in
    let node = c.in-Usage.node in
    let here = rack c.args.network.now c.args.values.now c.args.memory.now in
    let e : c.args.ask ≡ ask.Usage node = c.in-Usage.is in
    subst (λ (a : Ask). Said k laws form page nodes h (Ok (seen_ask a)) said.result said.new.self.text.bytes c.args.output.now.number here) (sym e)
    (said_so k laws form page nodes h (Ok (seen_ask (ask.Usage node))) said.result _ c.args.output.now.number (said_tells c.page_of.result) here said.ensures.text
    (subst (λ (w : Told). Served k laws form page nodes h (Ok (ask.Usage node)) w here) (sym c.page_of.ensures) (usage_served k laws form page nodes h here node s)))

pub returns-then-values-nodes : goal.returns-then-values-nodes
returns-then-values-nodes g c nodes h s =
    let here = rack c.args.network.now c.args.values.now c.args.memory.now in
    let there : c.args.network.now.count ≤ length c.args.values.now = enough g.S.Synopsis.kind g.met.S.Synopsis.lawful g.S.Synopsis.form nodes h here s in
    absurd (omega arith)
