use Rattle.std.proofs.Common.{◌≡◌, ◌++◌, length, take, drop}
use Rattle.bitmaps.specs.Bitmaps.{or_maps}
use Rattle.bitmaps.proofs.kind.BitmapsSynopsis.fuse.Given as goal

-- the first maps are joined, and with the others joined too they are all
abbrev pub invariant-loop-i : goal.invariant-loop-i
invariant-loop-i l =
    (length l.self.maps ≡ 64)
    × (take l.i l.self.maps ++ or_maps (drop l.i l.self.maps) (drop l.i l.other.maps) ≡ or_maps l.initial.self.maps l.other.maps)
