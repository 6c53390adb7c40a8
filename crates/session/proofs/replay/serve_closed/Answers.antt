use Rattle.std.proofs.Common.{◌+◌, [], cond, Ok, Err}
use Rattle.script.specs.Asking.{ask_of}
use Rattle.script.specs.Lines.{lines}
use Rattle.session.specs.Standing.{closed, answers}
use Rattle.session.specs.Printed.{printed_from}
use Rattle.session.proofs.Playing.{line_served}
use Rattle.session.proofs.replay.serve_closed.Goals as goal

pub returns-in-Ok : goal.returns-in-Ok
returns-in-Ok g c =
    let left = lines c.args.left.now in
    let n = c.args.number in
    let room = c.read_line.new.room in
    line_served c.serve_request.result (g.W.Write.contents c.args.writer.now) (g.W.Write.contents c.serve_request.new.writer) (λ went. printed_from (n + 1) (cond went [] (answers closed left))) n c.args.line.now left (Ok (ask_of c.in-Ok.request room)) c.in-Ok.ensures.asked (c.serve_request.ensures room)

pub returns-in-Err : goal.returns-in-Err
returns-in-Err g c =
    let left = lines c.args.left.now in
    let n = c.args.number in
    line_served c.refuse.result (g.W.Write.contents c.args.writer.now) (g.W.Write.contents c.refuse.new.writer) (λ went. printed_from (n + 1) (cond went [] (answers closed left))) n c.args.line.now left (Err c.in-Err.fault) c.in-Err.ensures.asked (c.refuse.ensures (answers closed left))
