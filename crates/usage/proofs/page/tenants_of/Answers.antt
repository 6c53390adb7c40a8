use Rattle.std.proofs.Common.{◌≡◌, ℕ, ◌+◌, ◌≤◌, T, List, length, drop, get_or, sym, ap, ◌∙◌, subst, arith, rules}
use Rattle.std.specs.List.{insert}
use Rattle.std.specs.List.Sorted.{IsBinarySearchResult}
use Rattle.std.specs.Ordering.{nat_cmp}
use Rattle.std.proofs.lemmas.Result.{MatchResult-at_ok, MatchResult-at_err}
use Rattle.runs.specs.Order.{by_size}
use Rattle.runs.specs.Runs.{rising}
use Rattle.sample.specs.declared.record.SampleRecord.{SampleRecord}
use Rattle.usage.specs.Rows.{tenants_after}
use Rattle.usage.proofs.Tenants.{joined, search_tells, next_tenant, joined_rises}
use Rattle.usage.proofs.page.tenants_of.Goals as goal
use Rattle.usage.proofs.page.tenants_of.Goals.{in-Err, in_default}

pub loop-kept-preserved : goal.loop-kept-preserved
loop-kept-preserved c =
    let none : SampleRecord = record { item = 0; tenant = 0; amount = 0 } in
    let xs = c.args.sample.now in
    let i = c.loop-kept.kept-index in
    let t = (get_or xs i none).tenant in
    let ts = c.loop-kept.tenants.items in
    let before = c.loop-kept.invariant in
    let e : c.deref.result.now ≡ ts = search rules in
    let told = search_tells ts t c.binary_search.result (subst (λ (l : List ℕ). IsBinarySearchResult (λ y. nat_cmp y t) l c.binary_search.result) e c.binary_search.ensures.position) before.1 in
    let next = sym (next_tenant xs ts i none c.loop-kept-test.true) ∙ before.0 in
    let rises = joined_rises t ts before.1 in
    elim c.match-binary_search.branch [
      | in-Err w ↦
          let placed = MatchResult-at_err (λ _. joined t ts ≡ ts) (λ n. (n ≤ length ts) × (insert ts n t ≡ joined t ts)) w.in-Err.place w.in-Err.is told in
          let after : c.match-binary_search.tenants.items ≡ joined t ts = cc (w.tenants-is, w.insert.ensures.items, placed.1) in
          let long = w.insert.ensures.len in (
            ap (λ (l : List ℕ). tenants_after l (drop (i + 1) xs)) after ∙ next,
            subst (λ (l : List ℕ). T (rising by_size l)) (sym after) rises,
            let few : length ts ≤ i = before.2 in
                omega (arith, ap (λ (l : List ℕ). length l) (ap (λ v. v.items) w.tenants-is)),
          )
      | in_default w ↦
          let there = MatchResult-at_ok (λ _. joined t ts ≡ ts) (λ n. (n ≤ length ts) × (insert ts n t ≡ joined t ts)) w.in_default.field-0 w.in_default.is told in
          let same : c.match-binary_search.tenants.items ≡ ts = ap (λ v. v.items) w.tenants-is in
          let after = same ∙ sym there in (
            ap (λ (l : List ℕ). tenants_after l (drop (i + 1) xs)) after ∙ next,
            subst (λ (l : List ℕ). T (rising by_size l)) (sym after) rises,
            let few : length ts ≤ i = before.2 in
                omega (arith, ap (λ (l : List ℕ). length l) same),
          )
    ]
