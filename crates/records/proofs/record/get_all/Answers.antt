use Rattle.std.proofs.Common.{◌≡◌, ℕ, ◌+◌, ◌-◌, ◌*◌, ◌<◌, ◌++◌, length, take, drop, set, sym, ap, ◌∙◌, arith}
use Rattle.std.specs.List.{flat_map}
use Rattle.records.specs.Records.{cut}
use Rattle.records.proofs.Walks.{room, cut_step, back_step, part_length, part_is}
use Rattle.records.proofs.record.get_all.Goals as goal

pub loop-place-preserved : goal.loop-place-preserved
loop-place-preserved g c =
    let layout = g.E.Record.layout in
    let bytes = c.args.bytes.now in
    let n = length c.args.out.now in
    let at = c.loop-place.at in
    let i = c.loop-place.place-index in
    let x = c.get.result in
    let w : c.width-width.result ≡ layout.width = c.width-width.ensures in
    let r = room n i layout.width at (length bytes) c.loop-place-test.true c.loop-place.invariant.0 in
    let lt : i < length c.loop-place.out = omega (arith, c.loop-place-test.true, c.loop-place.auto.out) in
    let got = c.get.ensures.whole (part_length bytes at layout.width c.width-width.result w r.0) in
    let part = part_is bytes at layout.width c.width-width.result w in
    let next : take (i + 1) (set c.loop-place.out i x) ++ cut layout (n - (i + 1)) (drop (at + layout.width) bytes) ≡ cut layout n bytes =
    cut_step layout c.loop-place.out bytes i at n x lt (sym c.loop-place.auto.out) c.loop-place.invariant.1 (got.0 ∙ ap layout.read part) in
    let back : flat_map layout.written (take (i + 1) (set c.loop-place.out i x)) ≡ take (at + layout.width) bytes =
    back_step layout c.loop-place.out bytes i at x lt c.loop-place.invariant.2 (got.1 ∙ part) in (
      ap (λ (k : ℕ). at + k + (n - (i + 1)) * layout.width) w ∙ r.1,
      ap (λ (k : ℕ). take (i + 1) (set c.loop-place.out i x) ++ cut layout (n - (i + 1)) (drop (at + k) bytes)) w ∙ next,
      back ∙ ap (λ (k : ℕ). take (at + k) bytes) (sym w),
    )
