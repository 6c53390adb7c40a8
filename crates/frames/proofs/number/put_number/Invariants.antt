use Rattle.std.proofs.Common.{◌≡◌, ◌-◌, ◌/◌, ◌^◌, length, drop}
use Rattle.frames.specs.Numbers.{low_bytes}
use Rattle.frames.proofs.number.put_number.Given as goal

-- the bytes from i on are written, and the rest of the number is left
abbrev pub invariant-loop-i : goal.invariant-loop-i
invariant-loop-i l =
    let done = length l.initial.out - l.i in
    (drop l.i l.out ≡ low_bytes done l.n) × (l.rest ≡ l.n / 256 ^ done)
