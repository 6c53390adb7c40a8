use Rattle.std.proofs.Common.{◌≡◌, ◌+◌, ◌-◌, ◌*◌, length, take}
use Rattle.std.specs.List.{flat_map}
use Rattle.usage.specs.Rows.{row_of, row_layout}
use Rattle.usage.proofs.page.put_rows.Given as goal

-- the rows so far are written, and the others have room
abbrev pub invariant-loop-tenant : goal.invariant-loop-tenant
invariant-loop-tenant l =
    (l.at + (length l.tenants - l.tenant-index) * row_layout.width ≡ length l.initial.out)
    × (take l.at l.out ≡ flat_map (λ t. row_layout.written (row_of l.sample t)) (take l.tenant-index l.tenants))
