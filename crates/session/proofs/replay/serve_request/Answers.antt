use Rattle.std.proofs.Common.{◌+◌, [], ◌∷◌, cond, Ok, sym, subst}
use Rattle.script.specs.declared.ask.Request.{Request}
use Rattle.script.specs.Asking.{ask_of}
use Rattle.script.specs.Lines.{lines}
use Rattle.session.specs.Standing.{closed, ask_owes, ask_leaves, answers}
use Rattle.session.specs.Printed.{printed_from}
use Rattle.session.specs.Writing.{WroteAllBut}
use Rattle.session.proofs.Playing.{opening_on}
use Rattle.session.proofs.replay.serve_request.Goals as goal

pub returns-in-Open : goal.returns-in-Open
returns-in-Open g c room =
    let left = lines c.args.left.now in
    let n = c.args.number in
    let a = g.W.Write.contents c.args.writer.now in
    let b = g.W.Write.contents c.open_by_letter.new.writer in
    subst (λ (q : Request). WroteAllBut c.open_by_letter.result a b (λ went. printed_from (n + 1) (cond went [] (answers closed left))) (printed_from n (ask_owes closed (Ok (ask_of q room)) ∷ answers (ask_leaves closed (Ok (ask_of q room))) left))) (sym c.in-Open.is)
    (opening_on c.open_by_letter.result a b (λ went. printed_from (n + 1) (cond went [] (answers closed left))) n c.in-Open.kind c.in-Open.nodes left c.open_by_letter.ensures)

pub returns-in-Call : goal.returns-in-Call
returns-in-Call g c room =
    let left = lines c.args.left.now in
    let n = c.args.number in
    let r = c.refuse in
    subst (λ (q : Request). WroteAllBut r.result (g.W.Write.contents c.args.writer.now) (g.W.Write.contents r.new.writer) (λ went. printed_from (n + 1) (cond went [] (answers closed left))) (printed_from n (ask_owes closed (Ok (ask_of q room)) ∷ answers (ask_leaves closed (Ok (ask_of q room))) left))) (sym c.in-Call.is) (r.ensures (answers closed left))

pub returns-in-Arrive : goal.returns-in-Arrive
returns-in-Arrive g c room =
    let left = lines c.args.left.now in
    let n = c.args.number in
    let r = c.refuse-in-Arrive in
    subst (λ (q : Request). WroteAllBut r.result (g.W.Write.contents c.args.writer.now) (g.W.Write.contents r.new.writer) (λ went. printed_from (n + 1) (cond went [] (answers closed left))) (printed_from n (ask_owes closed (Ok (ask_of q room)) ∷ answers (ask_leaves closed (Ok (ask_of q room))) left))) (sym c.in-Arrive.is) (r.ensures (answers closed left))

pub returns-in-Usage : goal.returns-in-Usage
returns-in-Usage g c room =
    let left = lines c.args.left.now in
    let n = c.args.number in
    let r = c.refuse-in-Usage in
    subst (λ (q : Request). WroteAllBut r.result (g.W.Write.contents c.args.writer.now) (g.W.Write.contents r.new.writer) (λ went. printed_from (n + 1) (cond went [] (answers closed left))) (printed_from n (ask_owes closed (Ok (ask_of q room)) ∷ answers (ask_leaves closed (Ok (ask_of q room))) left))) (sym c.in-Usage.is) (r.ensures (answers closed left))
