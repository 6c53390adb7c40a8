use Rattle.std.proofs.Common.{is_some, ap, ◌∙◌, sym}
use Rattle.runs.proofs.Rows.{row_falls, row_rests}
use Rattle.runs.proofs.run.is_run_row.Goals as goal

pub returns-then-is_none : goal.returns-then-is_none
returns-then-is_none g c =
    row_rests g.E.Ord.cmp g.E.Element.blank c.args.count c.args.places.now c.in-Some.front.now c.in-Some.rest.now c.in-Some.ensures.cases (ap is_some (sym c.fall.ensures) ∙ c.if-is_none.ensures) c.all_blank.result c.all_blank.ensures

pub returns-else-is_none : goal.returns-else-is_none
returns-else-is_none g c =
    c.if-is_none.false ∙ row_falls g.E.Ord.cmp g.E.Element.blank c.args.count c.args.places.now c.in-Some.front.now c.in-Some.rest.now c.in-Some.ensures.cases (ap is_some (sym c.fall.ensures) ∙ c.if-is_none.ensures)
