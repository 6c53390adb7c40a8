use Rattle.std.proofs.Common.{◌+◌, ◌-◌, ◌^◌, ◌<◌, ◌≤◌}
use Rattle.bitmaps.proofs.root.eighth_root.Given as goal

-- t is a root
abbrev pub invariant-loop-t : goal.invariant-loop-t
invariant-loop-t l = (l.t < 128) × (l.t ^ 8 ≤ 2 ^ (l.j + 48))

abbrev pub decreases-loop-t : goal.decreases-loop-t
decreases-loop-t l = 128 - l.t
