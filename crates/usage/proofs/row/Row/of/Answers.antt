use Rattle.std.proofs.Common.{ap}
use Rattle.sample.specs.declared.record.SampleRecord.{SampleRecord}
use Rattle.usage.specs.declared.row.Row.{Row}
use Rattle.usage.proofs.Counts.{counted_yes, counted_no}
use Rattle.usage.proofs.row.Row.of.Goals as goal
use Rattle.usage.proofs.row.Row.of.Goals.{then-kept-tenant, else-kept-tenant}

pub loop-kept-preserved : goal.loop-kept-preserved
loop-kept-preserved c =
    let none : SampleRecord = record { item = 0; tenant = 0; amount = 0 } in
    elim c.if-kept-tenant.branch [
      | then-kept-tenant w ↦
          let n = counted_yes c.args.sample.now c.loop-kept.kept-index none c.loop-kept-test.true c.args.tenant w.if-kept-tenant.true in
          let records = n.0 in
          let greatest = n.1 in
          let same = ap (λ (r : Row). r.tenant) w.row-is in
          let counted = ap (λ (r : Row). r.records) w.row-is in
          let most = ap (λ (r : Row). r.greatest) w.row-is in
          let before = c.loop-kept.invariant in (cc (same, before.0), cc (counted, before.1, records), cc (most, before.2, greatest))
      | else-kept-tenant w ↦
          let n = counted_no c.args.sample.now c.loop-kept.kept-index none c.loop-kept-test.true c.args.tenant w.if-kept-tenant.false in
          let records = n.0 in
          let greatest = n.1 in
          let same = ap (λ (r : Row). r.tenant) w.row-is in
          let counted = ap (λ (r : Row). r.records) w.row-is in
          let most = ap (λ (r : Row). r.greatest) w.row-is in
          let before = c.loop-kept.invariant in (cc (same, before.0), cc (counted, before.1, records), cc (most, before.2, greatest))
    ]
