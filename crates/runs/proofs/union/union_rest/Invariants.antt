use Rattle.std.proofs.Common.{◌≡◌, ◌++◌, take, drop}
use Rattle.runs.specs.Union.{merge}
use Rattle.runs.proofs.union.union_rest.Given as goal

-- what is written and the union of what is left are the whole union
abbrev pub invariant-loop-n : goal.invariant-loop-n
invariant-loop-n g l = record {
  union : take l.n l.out ++ merge g.E.Ord.cmp (drop l.left l.a.items.now) (drop l.right l.b.items.now) ≡ merge g.E.Ord.cmp (drop l.fn.left l.a.items.now) (drop l.fn.right l.b.items.now);
  rest : drop l.n l.out ≡ drop l.n l.initial.out;
}
