use Rattle.std.proofs.Common.{◌≡◌, ◌*◌, ◌≤◌, take}
use Rattle.bitmaps.specs.Bitmaps.{sum_of}
use Rattle.bitmaps.proofs.zeros.sum_of_zeros.Given as goal

abbrev pub invariant-loop-map : goal.invariant-loop-map
invariant-loop-map l = (l.sum ≤ 32 * l.map-index) × (l.sum ≡ sum_of (take l.map-index l.maps))
