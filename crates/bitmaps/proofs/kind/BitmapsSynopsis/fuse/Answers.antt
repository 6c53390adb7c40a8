use Rattle.std.proofs.Common.{◌≡◌, ℕ, ◌≤◌, List, [], ◌++◌, length, take, drop, sym, ap, ◌∙◌, arith, rules}
use Rattle.std.proofs.lemmas.List.{take_all, drop_all, append-nil}
use Rattle.bitmaps.specs.Bitmaps.{as_maps, or_maps}
use Rattle.bitmaps.specs.Forms.{kept}
use Rattle.bitmaps.proofs.kind.BitmapsSynopsis.fuse.Goals as goal

pub returns : goal.returns
returns c =
    let before = c.args.self.now.maps in
    let others = c.args.other.now.maps in
    let after = c.loop-i.self.maps in
    let i = c.loop-i.i in
    let few : length after ≤ i = omega (arith, c.loop-i.invariant.0, c.loop-i-test.false) in
    let long : length before ≡ 64 = search rules in
    let wide : length others ≡ 64 = search rules in
    let none : or_maps (drop i after) (drop i others) ≡ [] = ap (λ (l : List ℕ). or_maps l (drop i others)) (drop_all i after few) in
    let all : after ≡ or_maps before others = sym (ap (λ (l : List ℕ). take i after ++ l) none ∙ append-nil (take i after) ∙ take_all i after few) ∙ c.loop-i.invariant.1 in
    ap as_maps all ∙ ap (λ (l : List ℕ). as_maps (or_maps l others)) (sym (kept before long)) ∙ ap (λ (l : List ℕ). as_maps (or_maps (as_maps before).each l)) (sym (kept others wide))
