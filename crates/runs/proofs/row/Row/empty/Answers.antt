use Rattle.std.proofs.Common.{replicate, refl}
use Rattle.runs.proofs.Rows.{empty_form, empty_kept}
use Rattle.runs.proofs.row.Row.empty.Goals as goal

pub returns : goal.returns
returns g c =
    let places = replicate g.row.N c.default.result in
    record {
      kept = empty_kept g.E.Ord.cmp g.E.Element.blank c.default.result (g.met.E.Fresh.fresh c.default.result c.default.ensures) g.row.N;
      nothing = refl;
      form = empty_form g.E.Ord.cmp g.E.Element.blank g.row.N places;
    }
