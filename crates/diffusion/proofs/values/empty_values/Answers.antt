use Rattle.std.proofs.Common.{◌≡◌, ℕ, zero, suc, ◌+◌, List, ◌∷◌, map, replicate, refl, ap, subst, IfOk, arith, rules}
use Rattle.std.specs.List.{range_with_len}
use Rattle.std.proofs.lemmas.Iterator.{YieldsList-from_range, YieldsList-from_map_by}
use Rattle.std.proofs.lemmas.Iterator.Consumers.{map_from_collect}
use Rattle.diffusion.proofs.values.empty_values.Goals as goal

-- one thing for each number
each : {Y : Type 0} (y : Y) (a n : ℕ) → map (λ _. y) (range_with_len a n) ≡ replicate n y
each y a zero = refl
each {Y} y a (suc n) = ap (λ (ys : List Y). y ∷ ys) (each y (a + 1) n)

pub returns : goal.returns
returns g c =
    let form = g.S.Synopsis.form in
    let none = g.S.Synopsis.kind.none in
    let source = YieldsList-from_range 0 c.args.nodes c.args.nodes c.map.ensures.source (omega arith) in
    let all = map_from_collect _ c.collect.ensures.ran (YieldsList-from_map_by _ form (λ (_ : ℕ). none) source c.map.ensures.closure (λ x r q k. search rules)) in
    subst (λ forms. IfOk c.collect.result (λ v. map form v.items ≡ forms)) (each none 0 c.args.nodes) all
