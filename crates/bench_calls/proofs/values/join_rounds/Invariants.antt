use Rattle.std.proofs.Common.{◌≡◌, map}
use Rattle.bench_calls.specs.Values.{again, joined_last}
use Rattle.bench_calls.proofs.values.join_rounds.Given as goal

abbrev pub invariant-loop-round : goal.invariant-loop-round
invariant-loop-round g l =
    let form = g.S.Synopsis.form in
    form l.place ≡ again (joined_last g.S.Synopsis.kind (map form l.values) (map form l.others)) l._round (form l.initial.place)
