use Rattle.std.proofs.Common.{◌≡◌, ℕ, suc, ◌+◌, ◌≤◌, length, get_or, drop, sym, refl, ap, ◌∙◌, arith}
use Rattle.std.proofs.lemmas.List.{get_or_default}
use Rattle.frames.specs.Numbers.{low_bytes}
use Rattle.frames.proofs.Numbers.{length_in}
use Rattle.records.proofs.Walks.{put_step, part_length}
use Rattle.usage.specs.Cells.{cell, cell_bytes, width_of}
use Rattle.usage.proofs.Cells.{low_in, next_cell}
use Rattle.usage.proofs.cell.put_cells.Goals as goal

pub loop-cell-preserved : goal.loop-cell-preserved
loop-cell-preserved c =
    let cells = c.args.cells.now in
    let out = c.loop-cell.out in
    let at = c.loop-cell.at in
    let i = c.loop-cell.cell-index in
    let x = get_or cells i (cell 0 0) in
    let next = next_cell cells i (cell 0 0) c.loop-cell-test.true c.requires.fits in
    let s : i + 1 ≡ suc i = omega arith in
    let rest = ap (λ (k : ℕ). width_of (drop k cells)) s in
    let room : at + x.width ≤ length out = omega (arith, c.loop-cell.invariant.0, c.loop-cell.auto.out) in
    let q : c.put_number.new.out ≡ cell_bytes x =
    c.put_number.ensures ∙ ap (λ (k : ℕ). low_bytes k x.value) (part_length out at x.width x.width refl room) ∙ low_in x.width x.value next.0 in
    let long = ap length q ∙ length_in x.width x.value in (
      omega (arith, c.loop-cell.invariant.0),
      put_step cell_bytes cells out c.put_number.new.out i at _ _ x c.loop-cell-test.true (get_or_default cells i (cell 0 0) x c.loop-cell-test.true) c.loop-cell.invariant.1 (omega arith) q (ap (λ (k : ℕ). at + k) (sym long)),
    )
