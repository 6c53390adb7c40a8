use Rattle.std.proofs.Common.{◌≡◌, ℕ, List, length, take, Ok, sym, ap, ◌∙◌, arith, rules}
use Rattle.std.proofs.lemmas.List.{take_all}
use Rattle.records.specs.RecordFrames.{frame_of, read_records}
use Rattle.bitmaps.specs.Bitmaps.{as_maps, formed, map_layout}
use Rattle.bitmaps.specs.Forms.{kept}
use Rattle.bitmaps.proofs.kind.BitmapsSynopsis.decode.Goals as goal

pub returns : goal.returns
returns c =
    let p = c.in_ok-decode_records.ensures in
    let maps = c.decode_records.new.out in
    let long : length maps ≡ 64 = search rules in
    let all = take_all _ maps (omega (arith, p.enough, long)) in
    let reads : read_records 1 64 64 map_layout c.args.frame.now ≡ Ok (take _ maps) = search (p.reads, rules) in
    (ap formed reads ∙ ap (λ (l : List ℕ). Ok (as_maps l)) all, ap (frame_of 1 map_layout) (kept maps long ∙ sym all) ∙ p.back)
