use Rattle.std.proofs.Common.{◌≡◌, ◌-◌, length, take, sym, ap, ◌∙◌, arith, rules}
use Rattle.runs.proofs.Rising.{holds_from}
use Rattle.runs.proofs.Rows.{kept_items, unkept_items}
use Rattle.runs.specs.Runs.{is_run_row}
use Rattle.runs.proofs.row.Row.items.Goals as goal

pub returns : goal.returns
returns g c =
    let row = c.args.self.now in
    let order = g.E.Ord.cmp in
    let blank = g.E.Element.blank in
    let long : length row.places ≡ g.row.N = search rules in
    let z : row.count - 0 ≡ row.count = omega arith in
    ap (λ n. take n row.places) z ∙ sym (kept_items order blank g.row.N row.count row.places long (holds_from (is_run_row order blank row.count row.places) (sym c.is_run_row.ensures ∙ c.if-not-is_run_row.false)))

pub returns-then-not-is_run_row : goal.returns-then-not-is_run_row
returns-then-not-is_run_row g c =
    let row = c.args.self.now in
    let long : length row.places ≡ g.row.N = search rules in
    unkept_items g.E.Ord.cmp g.E.Element.blank g.row.N row.count row.places long (sym c.is_run_row.ensures ∙ c.if-not-is_run_row.true)
