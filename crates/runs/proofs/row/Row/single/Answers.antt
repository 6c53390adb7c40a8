use Rattle.runs.proofs.Rows.{single_form, none_form, some_place}
use Rattle.runs.proofs.row.Row.single.Goals as goal

pub returns-in-Some : goal.returns-in-Some
returns-in-Some g c =
    let d = c.default-places.result in
    single_form g.E.Ord.cmp g.E.Element.blank c.args.item g.row.N d (g.met.E.Fresh.fresh d c.default-places.ensures) (some_place g.row.N d c.in-Some.ensures.item.0)

pub returns-in-None : goal.returns-in-None
returns-in-None g c = none_form g.E.Ord.cmp g.E.Element.blank c.args.item g.row.N c.default-places.result c.in-None.ensures.item.0
