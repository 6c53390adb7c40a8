use Rattle.std.proofs.Common.{◌≡◌, ℕ, ◌<◌, ◌≤◌, ◌∙◌, T, length, take, sym, ap, subst, arith, rules}
use Rattle.std.proofs.lemmas.List.{length-replicate, length-take}
use Rattle.runs.specs.Runs.{rising, form_of}
use Rattle.runs.specs.Union.{union_of}
use Rattle.runs.proofs.Unions.{union_means, take_rises}
use Rattle.runs.proofs.Forms.{run_rises}
use Rattle.runs.proofs.Rows.{fresh_row, joined_form}
use Rattle.runs.proofs.Places.{begun_joined, no_items, some_kept}
use Rattle.runs.proofs.row.Row.join.Goals as goal

pub returns-then-is_empty-clause-form : goal.returns-then-is_empty-clause-form
returns-then-is_empty-clause-form g c =
    let order = g.E.Ord.cmp in
    let laws = g.met.E.Element.lawful in
    let blank = g.E.Element.blank in
    let k = g.row.N in
    let x = form_of order blank c.args.self.now in
    let y = form_of order blank c.args.other.now in
    let run = c.keyed-run.result.items.now in
    let all = c.keyed-all.result.items.now in
    let others = c.first-others.result.items.now in
    let zero : length run ≡ 0 = search rules in
    let none : length x.items ≡ 0 = ap length (sym c.keyed-run.ensures) ∙ zero in
    let enters = ap (union_of order k run) c.first-others.ensures ∙ c.entering.ensures in
    c.empty.ensures.form ∙ sym (no_items order laws blank k x none)
    ∙ begun_joined order laws blank k x y run all others c.known-left.result.0 c.known-left.result.1 c.keyed-run.ensures c.keyed-all.ensures enters c.known-left.ensures.begins (search rules)

pub returns-else-is_empty : goal.returns-else-is_empty
returns-else-is_empty g c =
    let order = g.E.Ord.cmp in
    let laws = g.met.E.Element.lawful in
    let blank = g.E.Element.blank in
    let k = g.row.N in
    let row = c.args.self.now in
    let x = form_of order blank row in
    let y = form_of order blank c.args.other.now in
    let run = c.keyed-run.result.items.now in
    let all = c.keyed-all.result.items.now in
    let others = c.first-others.result.items.now in
    let enters = ap (union_of order k run) c.first-others.ensures ∙ c.entering.ensures in
    let some : 0 < length run = search rules in
    record {
      form = begun_joined order laws blank k x y run all others c.known-left.result.0 c.known-left.result.1 c.keyed-run.ensures c.keyed-all.ensures enters c.known-left.ensures.begins (search rules);
      kept = some_kept order laws blank k row.count row.places (search rules) run c.keyed-run.ensures some;
    }

pub returns : goal.returns
returns g c =
    let order = g.E.Ord.cmp in
    let laws = g.met.E.Element.lawful in
    let blank = g.E.Element.blank in
    let k = g.row.N in
    let d = c.default-places.result in
    let x = form_of order blank c.args.self.now in
    let y = form_of order blank c.args.other.now in
    let run = c.keyed-run.result.items.now in
    let all = c.keyed-all.result.items.now in
    let others = c.first-others.result.items.now in
    let count = c.union_from-self.result in
    let out = c.union_from-self.new.out in
    let e = c.union_from-self.ensures in
    let up : T (rising order run) = subst (λ l. T (rising order l)) (sym c.keyed-run.ensures) (run_rises order k x) in
    let all_up : T (rising order all) = subst (λ l. T (rising order l)) (sym c.keyed-all.ensures) (run_rises order k y) in
    let other_up : T (rising order others) = subst (λ l. T (rising order l)) (sym c.first-others.ensures) (take_rises order laws c.entering.result all all_up) in
    let long : length out ≡ k = c.union_from-self.auto.out ∙ length-replicate k d in
    let few : count ≤ k = rw e.count (simp (length-replicate, length-take) (omega arith)) in
    let value : take count out ≡ union_of order k run others = e.value ∙ ap (λ (n : ℕ). union_of order n run others) (length-replicate k d) in
    let rises : T (rising order (take count out)) = subst (λ l. T (rising order l)) (sym value) (union_means order laws k run others up other_up).rises in
    let kept = fresh_row order blank k count out long d (g.met.E.Fresh.fresh d c.default-places.ensures) few rises e.same in
    record {
      form = joined_form order blank k count out kept x y run all (value ∙ ap (union_of order k run) c.first-others.ensures ∙ c.entering.ensures) c.keyed-run.ensures c.keyed-all.ensures;
      kept = kept;
    }
