use Rattle.std.proofs.Common.{sym, subst, ◌∙◌}
use Rattle.session.specs.Writing.{Wrote}
use Rattle.session.proofs.Written.{nothing_yet}
use Rattle.session.proofs.Serving.{was_ok}
use Rattle.session.proofs.serve.serve_in.Goals as goal

pub returns-then-is_err : goal.returns-then-is_err
returns-then-is_err g c nodes h s = ((_, nothing_yet (g.W.Write.contents c.args.writer.now) _), (c.answer_line.ensures nodes h s).1)

pub returns : goal.returns
returns g c nodes h s =
    let a = c.answer_line.ensures nodes h s in
    let text = was_ok c.answer_line.result _ (sym c.is_err.ensures.value ∙ c.if-is_err.false) a.0 in (
      subst (Wrote c.put.result (g.W.Write.contents c.args.writer.now) (g.W.Write.contents c.put.new.writer)) (c.as_bytes.ensures.value ∙ c.as_str.ensures.value ∙ text) c.put.ensures,
      a.1,
    )
