use Rattle.std.proofs.Common.{◌≡◌, take}
use Rattle.std.specs.List.{count_by}
use Rattle.usage.specs.Rows.{of_tenant, greatest_of}
use Rattle.usage.proofs.row.Row.of.Given as goal

-- the row is that of the records so far
abbrev pub invariant-loop-kept : goal.invariant-loop-kept
invariant-loop-kept l =
    (l.row.tenant ≡ l.fn.tenant)
    × (l.row.records ≡ count_by (of_tenant l.fn.tenant) (take l.kept-index l.sample))
    × (l.row.greatest ≡ greatest_of (take l.kept-index l.sample) l.fn.tenant)
