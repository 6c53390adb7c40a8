use Rattle.std.proofs.Common.{◌≡◌, length}
use Rattle.bench_calls.specs.Values.{again, encoded, forms}
use Rattle.bench_calls.proofs.values.encode.Given as goal

abbrev pub invariant-loop-round : goal.invariant-loop-round
invariant-loop-round g l = l.out ≡ again (encoded g.S.Synopsis.kind (forms g.S.Synopsis.kind l.size l.frames (length l.values))) l._round l.initial.out
