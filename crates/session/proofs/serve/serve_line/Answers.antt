use Rattle.std.proofs.Common.{ℕ, subst}
use Rattle.std.specs.Prelude.{is_some}
use Rattle.script.specs.declared.ask.Stage.TheVariants.{Open}
use Rattle.script.specs.Asking.{asked}
use Rattle.session.specs.Owing.{open_owes}
use Rattle.session.specs.Printed.{line_text}
use Rattle.session.specs.Writing.{Wrote}
use Rattle.session.proofs.serve.serve_line.Goals as goal

pub returns : goal.returns
returns g c nodes h s =
    let a = c.serve_in.ensures nodes h s in
    (subst (λ (n : ℕ). Wrote c.serve_in.result (g.W.Write.contents c.args.writer.now) (g.W.Write.contents c.serve_in.new.writer) (line_text n (open_owes g.S.Synopsis.kind g.S.Paged.page nodes h (asked (Open (is_some g.S.Paged.page)) c.args.line.now)))) c.new-output.ensures.number a.0, a.1)
