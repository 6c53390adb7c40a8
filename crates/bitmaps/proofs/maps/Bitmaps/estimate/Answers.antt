use Rattle.std.proofs.Common.{◌≡◌, ℕ, ◌*◌, ◌/◌, ◌%◌, ◌^◌, ◌≤◌, length, sym, ap, ◌∙◌, arith, rules}
use Rattle.std.proofs.lemmas.Bool.{cond-false}
use Rattle.bitmaps.specs.Bitmaps.{bitmaps_form, none_set, scaled, eighth_root}
use Rattle.bitmaps.specs.Forms.{kept}
use Rattle.bitmaps.proofs.LowestZeros.{sum_small}
use Rattle.bitmaps.proofs.Roots.{root_below, root_one, root_greatest}
use Rattle.bitmaps.proofs.maps.Bitmaps.estimate.Goals as goal

pub returns-then-is_blank-clause-roots : goal.returns-then-is_blank-clause-roots
returns-then-is_blank-clause-roots c = root_greatest

pub scale-requires : goal.scale-requires
scale-requires c =
    let s = sum_small (bitmaps_form c.args.self.now) in
    let w : c.sum-q.result / 8 / 8 ≤ 32 = omega (arith, c.sum-q.ensures) in
    let t = root_below (c.sum-q.result / 8 % 8) c.eighth_root.result (omega arith) c.eighth_root.ensures.small in
    search rules

pub returns : goal.returns
returns c =
    let maps = c.args.self.now.maps in
    let long : length maps ≡ 64 = search rules in
    let some = ap none_set (kept maps long) ∙ sym c.if-is_blank.ensures in
    let sum = c.sum-q.result in
    let j = sum / 8 % 8 in
    let t : c.eighth_root.result ≡ eighth_root j = root_one j c.eighth_root.result (eighth_root j) c.eighth_root.ensures (root_greatest j (omega arith)) in
    record {
      value = c.scale.ensures
          ∙ ap (λ (r : ℕ). r * 2 ^ (sum / 8 / 8) * 100000 / 77351) t
          ∙ ap scaled c.sum-q.ensures
          ∙ sym (cond-false _ _ _ some);
      roots = root_greatest;
    }
