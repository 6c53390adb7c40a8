use Rattle.std.proofs.Common.{◌≡◌, ℕ, ◌+◌, ◌≤◌, length, get_or, sym, ap, ◌∙◌, arith}
use Rattle.std.proofs.lemmas.List.{get_or_default}
use Rattle.records.proofs.Walks.{room, put_step}
use Rattle.usage.specs.declared.row.Row.{Row}
use Rattle.usage.specs.Rows.{row_cells, row_layout, row_of}
use Rattle.usage.proofs.Cells.{length_bytes}
use Rattle.usage.proofs.page.put_rows.Goals as goal

pub loop-tenant-preserved : goal.loop-tenant-preserved
loop-tenant-preserved c =
    let sample = c.args.sample.now in
    let tenants = c.args.tenants.now in
    let out = c.loop-tenant.out in
    let at = c.loop-tenant.at in
    let i = c.loop-tenant.tenant-index in
    let t = get_or tenants i 0 in
    let before = c.loop-tenant.invariant in
    let r = room (length tenants) i row_layout.width at (length c.args.out.now) c.loop-tenant-test.true before.0 in
    let long : at + row_layout.width ≤ length out = omega (arith, r.0, c.loop-tenant.auto.out) in
    let q : c.put.new.out ≡ row_layout.written (row_of sample t) =
    c.put.ensures ∙ ap (λ (x : Row). row_layout.written x) c.of.ensures in
    let wide : length c.put.new.out ≡ row_layout.width = ap length q ∙ length_bytes (row_cells (row_of sample t)) in
    (r.1, put_step (λ (x : ℕ). row_layout.written (row_of sample x)) tenants out c.put.new.out i at _ _ t c.loop-tenant-test.true (get_or_default tenants i 0 t c.loop-tenant-test.true) before.1 (omega arith) q (ap (λ (k : ℕ). at + k) (sym wide)))
