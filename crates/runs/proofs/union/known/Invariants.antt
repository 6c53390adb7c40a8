use Rattle.std.proofs.Common.{◌≡◌, ◌+◌, ◌++◌, take, drop}
use Rattle.runs.specs.Union.{merge}
use Rattle.runs.proofs.union.known.Given as goal

-- so far the union is the first run
abbrev pub invariant-loop-i : goal.invariant-loop-i
invariant-loop-i g l = merge g.E.Ord.cmp l.a.items.now l.b.items.now ≡ take (l.start + l.i) l.a.items.now ++ merge g.E.Ord.cmp (drop (l.start + l.i) l.a.items.now) (drop l.right l.b.items.now)
