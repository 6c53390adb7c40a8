use Rattle.std.proofs.Common.{◌≡◌, take, map}
use Rattle.bench_calls.specs.Values.{joined_last}
use Rattle.bench_calls.proofs.values.join_all.Given as goal

abbrev pub invariant-loop-one : goal.invariant-loop-one
invariant-loop-one g l =
    let form = g.S.Synopsis.form in
    form l.place ≡ joined_last g.S.Synopsis.kind (map form (take l.one-index l.values)) (map form l.others) (form l.initial.place)
