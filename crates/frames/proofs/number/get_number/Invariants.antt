use Rattle.std.proofs.Common.{◌≡◌, ◌%◌, ◌^◌, take}
use Rattle.frames.specs.Numbers.{from_bytes}
use Rattle.frames.proofs.number.get_number.Given as goal

abbrev pub invariant-loop-b : goal.invariant-loop-b
invariant-loop-b l = l.n ≡ from_bytes (take l.b-index l.bytes) % 2 ^ 64
