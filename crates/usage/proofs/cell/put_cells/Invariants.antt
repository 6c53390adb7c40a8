use Rattle.std.proofs.Common.{◌≡◌, ◌+◌, length, take, drop}
use Rattle.usage.specs.Cells.{width_of, bytes_of}
use Rattle.usage.proofs.cell.put_cells.Given as goal

-- the numbers so far are written, and the others have room
abbrev pub invariant-loop-cell : goal.invariant-loop-cell
invariant-loop-cell l =
    (l.at + width_of (drop l.cell-index l.cells) ≡ length l.initial.out)
    × (take l.at l.out ≡ bytes_of (take l.cell-index l.cells))
