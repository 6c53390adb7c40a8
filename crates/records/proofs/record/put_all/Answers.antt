use Rattle.std.proofs.Common.{◌≡◌, ℕ, ◌+◌, ◌-◌, ◌*◌, ◌≤◌, length, sym, ap, ◌∙◌, arith}
use Rattle.records.proofs.Walks.{room, put_step, part_length}
use Rattle.records.proofs.record.put_all.Goals as goal

pub loop-x-preserved : goal.loop-x-preserved
loop-x-preserved g c =
    let layout = g.E.Record.layout in
    let items = c.args.items.now in
    let at = c.loop-x.at in
    let w : c.width-width.result ≡ layout.width = c.width-width.ensures in
    let r = room (length items) c.loop-x.x-index layout.width at (length c.args.out.now) c.loop-x-test.true c.loop-x.invariant.0 in
    let long : at + layout.width ≤ length c.loop-x.out = omega (arith, r.0, c.loop-x.auto.out) in
    let le : at ≤ length c.loop-x.out = omega arith in
    let q : c.put.new.out ≡ layout.written c.x-item.result =
    c.put.ensures.whole (part_length c.loop-x.out at layout.width c.width-width.result w long) in
    let m : at + c.width-width.result ≡ at + length c.put.new.out = ap (λ (k : ℕ). at + k) (w ∙ sym (ap length q ∙ g.met.E.Record.readable.sized c.x-item.result)) in
    (ap (λ (k : ℕ). at + k + (length items - (c.loop-x.x-index + 1)) * layout.width) w ∙ r.1, put_step layout.written items c.loop-x.out c.put.new.out c.loop-x.x-index at _ _ c.x-item.result c.loop-x-test.true c.x-item.is c.loop-x.invariant.1 le q m)
