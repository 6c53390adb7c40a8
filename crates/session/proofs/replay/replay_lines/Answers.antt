use Rattle.std.proofs.Common.{true, false, arith}
use Rattle.script.specs.Lines.{lines}
use Rattle.session.specs.Printed.{printed_from}
use Rattle.session.specs.Standing.{closed, answers}
use Rattle.session.proofs.Written.{after_error}
use Rattle.session.proofs.Playing.{line_on, went_on}
use Rattle.session.proofs.replay.replay_lines.Goals as goal

pub returns-in_err-went : goal.returns-in_err-went
returns-in_err-went g c =
    let l = c.loop-line in
    let w = c.in_err-went.ensures in
    let all = printed_from 1 (answers closed (lines c.args.input.now)) in
    after_error c.from_residual.result _ _ _ _ _ c.from_residual.ensures.0 (line_on (g.W.Write.contents c.args.writer.now) (g.W.Write.contents l.writer) (g.W.Write.contents c.serve_closed.new.writer) l.number c.in-Some.line.now (lines l.rest.now) (lines c.in-Some.left.now) all w.0 c.in-Some.ensures.lines l.invariant.written w.1)

pub returns-then-went : goal.returns-then-went
returns-then-went g c =
    let l = c.loop-line in
    let all = printed_from 1 (answers closed (lines c.args.input.now)) in
    went_on (g.W.Write.contents c.args.writer.now) (g.W.Write.contents l.writer) (g.W.Write.contents c.serve_closed.new.writer) l.number c.in-Some.line.now (lines l.rest.now) (lines c.in-Some.left.now) all c.in_ok-went.went true c.if-went.true c.in-Some.ensures.lines l.invariant.written c.in_ok-went.ensures

pub loop-line-preserved : goal.loop-line-preserved
loop-line-preserved g c =
    let l = c.loop-line in
    let all = printed_from 1 (answers closed (lines c.args.input.now)) in
    record {
      written = went_on (g.W.Write.contents c.args.writer.now) (g.W.Write.contents l.writer) (g.W.Write.contents c.serve_closed.new.writer) l.number c.in-Some.line.now (lines l.rest.now) (lines c.in-Some.left.now) all c.in_ok-went.went false c.if-went.false c.in-Some.ensures.lines l.invariant.written c.in_ok-went.ensures;
      few = omega (arith, c.in-Some.ensures.shorter, l.invariant.few);
      room = omega (arith, c.serve_closed.auto.memory, l.invariant.room);
    }
