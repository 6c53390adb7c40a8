use Rattle.std.proofs.Common.{◌≡◌, take, map}
use Rattle.bench_calls.specs.Values.{forms}
use Rattle.bench_calls.proofs.values.read_all.Given as goal

abbrev pub invariant-loop-i : goal.invariant-loop-i
invariant-loop-i g l = map g.S.Synopsis.form (take l.i l.values) ≡ forms g.S.Synopsis.kind l.size l.frames l.i
