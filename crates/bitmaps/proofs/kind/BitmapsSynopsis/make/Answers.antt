use Rattle.std.proofs.Common.{ℕ, set, ap, ◌∙◌}
use Rattle.readings.specs.Readings.{mark_of}
use Rattle.bitmaps.specs.Bitmaps.{as_maps, blank, marked}
use Rattle.bitmaps.proofs.kind.BitmapsSynopsis.make.Goals as goal

pub returns : goal.returns
returns c =
    let mark = c.mark-bucket.result in
    ap (λ (bits : ℕ). as_maps (set blank mark.0 bits)) c.bit.ensures ∙ ap (λ (m : ℕ × ℕ). as_maps (marked m)) (c.mark-bucket.ensures ∙ ap mark_of c.hash.ensures)
