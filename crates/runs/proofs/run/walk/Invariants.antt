use Rattle.std.proofs.Common.{◌≡◌, ◌+◌, ◌≤◌, drop, take, map, length}
use Rattle.runs.specs.Runs.{fall_from, first_fall}
use Rattle.runs.proofs.run.walk.Given as goal

-- the fall is in what is left, the key is that of the last element, and those so far are noted
abbrev pub invariant-loop-i : goal.invariant-loop-i
invariant-loop-i g l = record {
  fall : fall_from g.E.Ord.cmp l.last (l.i + 1) (drop l.i l.rest) ≡ first_fall g.E.Ord.cmp l.items;
  key : l.key ≡ g.E.Element.key l.last;
  noted : length l.items ≤ length l.fn.room → take (l.i + 1) l.room ≡ map g.E.Element.key (take (l.i + 1) l.items);
}
