use Rattle.std.proofs.Common.{◌≡◌, take, map}
use Rattle.bench_calls.specs.Values.{gathered}
use Rattle.bench_calls.proofs.values.gather_all.Given as goal

abbrev pub invariant-loop-value : goal.invariant-loop-value
invariant-loop-value g l = g.S.Synopsis.form l.one ≡ gathered g.S.Synopsis.kind (map g.S.Synopsis.form (take l.value-index l.values)) (g.S.Synopsis.form l.initial.one)
