use Rattle.std.proofs.Common.{◌≡◌, length}
use Rattle.bench_calls.specs.Values.{again, gathered, forms}
use Rattle.bench_calls.proofs.values.gather.Given as goal

abbrev pub invariant-loop-round : goal.invariant-loop-round
invariant-loop-round g l = g.S.Synopsis.form l.one ≡ again (gathered g.S.Synopsis.kind (forms g.S.Synopsis.kind l.size l.frames (length l.values))) l._round g.S.Synopsis.kind.none
