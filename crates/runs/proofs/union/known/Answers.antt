use Rattle.std.proofs.Common.{◌≡◌, ◌+◌, ◌-◌, ◌<◌, ◌∷◌, ◌++◌, take, subst, ℕ, length, get_or, drop, Less, Equal, sym, ap, ◌∙◌, arith, rules}
use Rattle.std.proofs.lemmas.List.{get_or-take, get_or-drop, get_or-map, length-take, length-drop, drop_more}
use Rattle.runs.specs.Union.{merge}
use Rattle.runs.proofs.Steps.{next_less, next_both, begins_more}
use Rattle.runs.proofs.union.known.Goals as goal
use Rattle.runs.proofs.union.known.Goals.{then-eq, else-eq+else-a-left}

pub loop-i-preserved : goal.loop-i-preserved
loop-i-preserved g c =
    let order = g.E.Ord.cmp in
    let a = c.args.a.now.items.now in
    let b = c.args.b.now.items.now in
    let start = c.passed-start.result in
    let i = c.loop-i.i in
    let right = c.loop-i.right in
    let x = c.x-item.result in
    let y = c.in-Some.y.now in
    let short : i < length (drop start a) = simp length-drop (omega (arith, simp (length-take, length-drop) at c.loop-i-test.true)) in
    let inside : start + i < length a = omega (arith, length-drop start a) in
    let is : x ≡ get_or a (start + i) x = c.x-item.is ∙ get_or-take (length a - start) (drop start a) i x (omega (arith, length-drop start a)) ∙ get_or-drop start a i x in
    let n : start + (i + 1) ≡ start + i + 1 = omega arith in
    let next : drop right b ≡ y ∷ drop (right + 1) b = drop_more b right y c.in-Some.ensures.lookup.3.0 ∙ ap (λ z. z ∷ drop (right + 1) b) (sym c.in-Some.ensures.lookup.1) in
    let P = λ (m r : ℕ). merge order a b ≡ take m a ++ merge order (drop m a) (drop r b) in
    let more = begins_more order (merge order a b) a (drop right b) in
    elim c.if-eq.branch [
      | then-eq w ↦
          let equal : order x y ≡ Equal = search rules in
          subst (λ m. P m c.if-eq.right) (sym n) (subst (P (start + i + 1)) (sym w.right-is) (more (merge order (drop (start + i + 1) a) (drop (right + 1) b)) (start + i) x c.loop-i.invariant inside is
          (ap (merge order (x ∷ drop (start + i + 1) a)) next ∙ next_both order x y (drop (start + i + 1) a) (drop (right + 1) b) equal)))
      | else-eq+else-a-left w ↦
          let key = g.E.Element.key in
          let left_key : get_or c.args.a.now.keys.now (start + i) 0 ≡ key x = ap (λ ks. get_or ks (start + i) 0) c.args.a.now.right ∙ get_or-map key a (start + i) x 0 inside ∙ ap key (sym is) in
          let right_key : get_or c.args.b.now.keys.now right 0 ≡ key y = ap (λ ks. get_or ks right 0) c.args.b.now.right ∙ get_or-map key b right y 0 c.in-Some.ensures.lookup.3.0 ∙ ap key (sym c.in-Some.ensures.lookup.1) in
          let less : order x y ≡ Less = g.met.E.Element.keyed x y (omega (arith, left_key, right_key, w.if-a-left.false)) in
          subst (λ m. P m c.if-eq.right) (sym n) (subst (P (start + i + 1)) (sym w.right-is) (more (merge order (drop (start + i + 1) a) (drop right b)) (start + i) x c.loop-i.invariant inside is
          (ap (merge order (x ∷ drop (start + i + 1) a)) next ∙ next_less order x y (drop (start + i + 1) a) (drop (right + 1) b) less ∙ ap (λ l. x ∷ merge order (drop (start + i + 1) a) l) (sym next))))
    ]
