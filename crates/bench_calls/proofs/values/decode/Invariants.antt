use Rattle.std.proofs.Common.{◌≡◌, ◌≤◌}
use Rattle.bench_calls.specs.Values.{last_taken, refusals}
use Rattle.bench_calls.proofs.values.decode.Given as goal

abbrev pub invariant-loop-i : goal.invariant-loop-i
invariant-loop-i g l =
    record {
      form : g.S.Synopsis.form l.value ≡ last_taken g.S.Synopsis.kind l.size l.frames l.i;
      refused : l.refused ≡ refusals g.S.Synopsis.kind l.size l.frames l.i;
      few : l.refused ≤ l.i;
    }
