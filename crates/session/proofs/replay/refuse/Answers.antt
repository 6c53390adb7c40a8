use Rattle.std.proofs.Common.{◌∷◌, ◌+◌}
use Rattle.session.specs.Owing.{line_refusal}
use Rattle.session.specs.Printed.{line_text, printed_from}
use Rattle.session.proofs.Written.{nothing_yet, after_error, part_more}
use Rattle.session.proofs.replay.refuse.Goals as goal

pub returns-in_err-put_line : goal.returns-in_err-put_line
returns-in_err-put_line g c others =
    let r = c.from_residual in
    let n = c.args.number in
    let w = c.in_err-put_line.ensures in
    let a = g.W.Write.contents c.args.writer.now in
    after_error r.result _ _ _ _ _ r.ensures.0 (part_more a a (g.W.Write.contents c.put_line.new.writer) (line_text n (line_refusal c.args.fault)) w.0 (printed_from (n + 1) others) (printed_from n (line_refusal c.args.fault ∷ others)) (nothing_yet a _) w.1)
