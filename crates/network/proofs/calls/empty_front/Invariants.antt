use Rattle.std.proofs.Common.{◌≡◌, map, take, replicate}
use Rattle.network.proofs.calls.empty_front.Given as goal

-- the values so far are empty
abbrev pub invariant-loop-value : goal.invariant-loop-value
invariant-loop-value g l = map g.S.Synopsis.form (take l.value-index l.value-items) ≡ replicate l.value-index g.S.Synopsis.kind.none
