use Rattle.std.proofs.Common.{◌≡◌, ◌≤◌, true, length}
use Rattle.std.proofs.Math.Seq.{paste}
use Rattle.std.specs.List.{list_all}
use Rattle.script.specs.Fields.{pair_bytes, is_hex}
use Rattle.script.proofs.pairs.write_pairs.Given as goal

-- the bytes so far stand at the front, and the others are as they were
abbrev pub invariant-loop-place : goal.invariant-loop-place
invariant-loop-place l = record {
  so_far : l.room ≡ paste l.fn.room 0 (pair_bytes l.pairs) l.place;
  short : length l.pairs ≤ 4096;
  hex : list_all is_hex l.pairs ≡ true;
}
