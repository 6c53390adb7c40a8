use Rattle.std.proofs.Common.{◌≡◌, ◌&&◌, length, false, sym, ap, ◌∙◌, rules}
use Rattle.std.specs.List.{list_all}
use Rattle.runs.specs.Runs.{rising}
use Rattle.runs.proofs.Rows.{split_none, form_items}
use Rattle.runs.proofs.row.Row.keyed.Goals as goal

pub returns : goal.returns
returns g c =
    let order = g.E.Ord.cmp in
    let blank = g.E.Element.blank in
    let row = c.args.self.now in
    let front = c.in-Some.front.now in
    let rest = c.in-Some.rest.now in
    let long : length row.places ≡ g.row.N = search rules in
    let bad : (rising order front && list_all blank rest) ≡ false = ap (λ b. b && list_all blank rest) c.in-Some-of.ensures.0 ∙ sym c.all_blank.ensures ∙ c.if-all_blank.false in
    c.none-2.ensures ∙ split_none order blank row.count row.places front rest c.in-Some.ensures.cases bad ∙ sym (form_items order blank g.row.N row.count row.places long)
