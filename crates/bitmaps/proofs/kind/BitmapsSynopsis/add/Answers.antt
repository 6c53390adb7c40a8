use Rattle.std.proofs.Common.{◌≡◌, ℕ, ◌^◌, List, length, bit_or, set, get_or, sym, ap, ◌∙◌, rules}
use Rattle.std.proofs.lemmas.List.{length-set}
use Rattle.readings.specs.Readings.{mark_of}
use Rattle.bitmaps.specs.Bitmaps.{as_maps, blank, marked, or_maps}
use Rattle.bitmaps.specs.Forms.{kept}
use Rattle.bitmaps.proofs.Marks.{mark_joined}
use Rattle.bitmaps.proofs.kind.BitmapsSynopsis.add.Goals as goal

pub returns : goal.returns
returns c =
    let before = c.args.self.now.maps in
    let mark = c.mark-bucket.result in
    let long : length before ≡ 64 = search rules in
    ap (λ (bits : ℕ). as_maps (set before mark.0 (bit_or (get_or before mark.0 0) bits))) c.bit.ensures
    ∙ ap as_maps (mark_joined 64 before mark.0 (2 ^ mark.1) long)
    ∙ ap (λ (l : List ℕ). as_maps (or_maps l (marked mark))) (sym (kept before long))
    ∙ ap (λ (l : List ℕ). as_maps (or_maps (as_maps before).each l)) (sym (kept (marked mark) (long_marked mark)))
    ∙ ap (λ (m : ℕ × ℕ). as_maps (or_maps (as_maps before).each (as_maps (marked m)).each)) (c.mark-bucket.ensures ∙ ap mark_of c.hash.ensures)
  where
    long_marked : (mark : ℕ × ℕ) → length (marked mark) ≡ 64
    long_marked mark = length-set blank mark.0 (2 ^ mark.1)
