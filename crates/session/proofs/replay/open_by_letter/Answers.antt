use Rattle.std.proofs.Common.{◌+◌, [], ◌∷◌, cond, sym, subst}
use Rattle.diffusion.specs.Turns.{is_accepted}
use Rattle.script.specs.declared.ask.KindLetter.{KindLetter}
use Rattle.script.specs.Lines.{lines}
use Rattle.session.specs.Owing.{opens, open_answers}
use Rattle.session.specs.Standing.{kind_of_letter, page_of_letter, closed, answers}
use Rattle.session.specs.Printed.{printed_from}
use Rattle.session.specs.Writing.{WroteAllBut}
use Rattle.session.proofs.replay.open_by_letter.Goals as goal

pub returns-in-Pile : goal.returns-in-Pile
returns-in-Pile g c =
    let left = lines c.args.left.now in
    let n = c.args.number in
    let nodes = c.args.nodes in
    subst (λ (l : KindLetter). WroteAllBut c.open-in-Pile.result (g.W.Write.contents c.args.writer.now) (g.W.Write.contents c.open-in-Pile.new.writer) (λ went. printed_from (n + 1) (cond went [] (answers closed left))) (printed_from n (opens (kind_of_letter l) nodes ∷ cond (is_accepted (opens (kind_of_letter l) nodes)) (open_answers (kind_of_letter l) (page_of_letter l) nodes [] left) (answers closed left)))) (sym c.in-Pile.is) c.open-in-Pile.ensures
