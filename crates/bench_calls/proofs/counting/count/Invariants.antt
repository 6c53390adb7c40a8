use Rattle.std.proofs.Common.{◌≡◌, take}
use Rattle.bench_calls.specs.Counting.{counted}
use Rattle.bench_calls.proofs.counting.count.Given as goal

abbrev pub invariant-loop-item : goal.invariant-loop-item
invariant-loop-item g l = g.S.Synopsis.form l.value ≡ counted g.S.Synopsis.kind (take l.item-index l.items)
