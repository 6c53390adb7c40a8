use Rattle.std.proofs.Common.{◌≡◌, take}
use Rattle.std.specs.List.{fold}
use Rattle.diffusion.specs.Turns.{state_of}
use Rattle.bench_calls.specs.Turns.{Course, turned, begun}
use Rattle.bench_calls.proofs.turns.run.Given as goal

abbrev pub invariant-loop-word : goal.invariant-loop-word
invariant-loop-word g l =
    let k = g.S.Synopsis.kind in
    let now : Course k = record { state = state_of k g.S.Synopsis.form l.network l.values l.memory; room = l.room; sum = l.sum } in
    now ≡ fold (turned k l.size l.frames) (begun k l.size l.frames l.words l.fn.memory l.fn.room) (take l.word-index l.words)
