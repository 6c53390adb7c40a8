use Rattle.std.proofs.Common.{◌≡◌, ◌≤◌, T, length, drop}
use Rattle.runs.specs.Order.{by_size}
use Rattle.runs.specs.Runs.{rising}
use Rattle.usage.specs.Rows.{tenants_after, tenants_of}
use Rattle.usage.proofs.page.tenants_of.Given as goal

-- with the tenants of what is left, these are all; they rise, and are no more than the records so far
abbrev pub invariant-loop-kept : goal.invariant-loop-kept
invariant-loop-kept l =
    (tenants_after l.tenants.items (drop l.kept-index l.sample) ≡ tenants_of l.sample)
    × T (rising by_size l.tenants.items)
    × (length l.tenants.items ≤ l.kept-index)
