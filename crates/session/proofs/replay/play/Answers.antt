use Rattle.std.proofs.Common.{arith}
use Rattle.diffusion.specs.Runs.{rack}
use Rattle.script.specs.Lines.{lines}
use Rattle.session.proofs.Playing.{played, broken, finished}
use Rattle.session.proofs.replay.play.Goals as goal

pub returns-in_err-serve_in : goal.returns-in_err-serve_in
returns-in_err-serve_in g c nodes a =
    let l = c.loop-line in
    let p = l.invariant.playing nodes a in
    let served = c.in_err-serve_in.ensures nodes p.history p.session in
    broken g.S.Synopsis.kind g.S.Synopsis.form g.S.Paged.page nodes c.args.first (lines c.args.input.now) (g.W.Write.contents c.args.writer.now) c.from_residual.result (rack l.network l.values l.memory) l.number (g.W.Write.contents l.writer) (g.W.Write.contents c.serve_in.new.writer) c.in-Some.line.now (lines c.in-Some.after.now) (lines l.rest.now) c.from_residual.ensures.0 c.in-Some.ensures.lines p served.0

pub loop-line-preserved : goal.loop-line-preserved
loop-line-preserved g c =
    let l = c.loop-line in
    let n = c.serve_in.new in
    record {
      playing = λ nodes a.
          let p = l.invariant.playing nodes a in
          let served = c.in_ok-serve_in.ensures nodes p.history p.session in
          played g.S.Synopsis.kind g.S.Synopsis.form g.S.Paged.page nodes c.args.first (lines c.args.input.now) (g.W.Write.contents c.args.writer.now) (rack l.network l.values l.memory) (rack n.network n.values n.memory) l.number (g.W.Write.contents l.writer) (g.W.Write.contents n.writer) c.in-Some.line.now (lines c.in-Some.after.now) (lines l.rest.now) c.in-Some.ensures.lines p served.1 served.0;
      few = omega (arith, c.in-Some.ensures.shorter, l.invariant.few);
    }

pub returns : goal.returns
returns g c nodes a =
    let l = c.loop-line in
    finished g.S.Synopsis.kind g.S.Synopsis.form g.S.Paged.page nodes c.args.first (lines c.args.input.now) (g.W.Write.contents c.args.writer.now) (rack l.network l.values l.memory) l.number (g.W.Write.contents l.writer) (lines l.rest.now) c.in_default.ensures.lines (l.invariant.playing nodes a)
