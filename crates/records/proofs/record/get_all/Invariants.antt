use Rattle.std.proofs.Common.{◌≡◌, ◌+◌, ◌-◌, ◌*◌, ◌++◌, length, take, drop}
use Rattle.std.specs.List.{flat_map}
use Rattle.records.specs.Records.{cut}
use Rattle.records.proofs.record.get_all.Given as goal

-- the records so far are read, and the others lie in the bytes that are left
abbrev pub invariant-loop-place : goal.invariant-loop-place
invariant-loop-place g l =
    let r = g.E.Record.layout in
    let left = length l.initial.out - l.place-index in
    (l.at + left * r.width ≡ length l.bytes)
    × (take l.place-index l.out ++ cut r left (drop l.at l.bytes) ≡ cut r (length l.initial.out) l.bytes)
    × (flat_map r.written (take l.place-index l.out) ≡ take l.at l.bytes)
