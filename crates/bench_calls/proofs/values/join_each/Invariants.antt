use Rattle.std.proofs.Common.{◌≡◌, take, map}
use Rattle.std.specs.List.{fold}
use Rattle.bench_calls.proofs.values.join_each.Given as goal

abbrev pub invariant-loop-other : goal.invariant-loop-other
invariant-loop-other g l =
    let k = g.S.Synopsis.kind in
    g.S.Synopsis.form l.place ≡ fold (λ _ y. k.join (g.S.Synopsis.form l.one) y) (g.S.Synopsis.form l.initial.place) (map g.S.Synopsis.form (take l.other-index l.others))
