use Rattle.std.proofs.Common.{◌≡◌, take, map}
use Rattle.bench_calls.specs.Values.{encoded}
use Rattle.bench_calls.proofs.values.encode_all.Given as goal

abbrev pub invariant-loop-value : goal.invariant-loop-value
invariant-loop-value g l = l.out ≡ encoded g.S.Synopsis.kind (map g.S.Synopsis.form (take l.value-index l.values)) l.initial.out
