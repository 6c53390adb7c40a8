use Rattle.std.proofs.Common.{◌≡◌, ◌+◌, ◌-◌, ◌*◌, length, take}
use Rattle.std.specs.List.{flat_map}
use Rattle.records.proofs.record.put_all.Given as goal

-- the records so far are written, and the others have room
abbrev pub invariant-loop-x : goal.invariant-loop-x
invariant-loop-x g l =
    let r = g.E.Record.layout in
    (l.at + (length l.items - l.x-index) * r.width ≡ length l.initial.out)
    × (take l.at l.out ≡ flat_map r.written (take l.x-index l.items))
