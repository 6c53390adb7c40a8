use Rattle.std.proofs.Common.{◌≡◌, ◌+◌, ◌<◌, suc, ◌∷◌, drop, take, get_or, length, Less, refl, sym, ap, ◌∙◌, arith, rules}
use Rattle.std.proofs.lemmas.List.{drop_more}
use Rattle.runs.specs.Runs.{fall_from}
use Rattle.runs.proofs.Noting.{fall_next, noted_more}
use Rattle.runs.proofs.run.walk.Goals as goal
use Rattle.runs.proofs.run.walk.Goals.{else-next-key-via-then-next-key+else-is_ge, else-next-key-via-else-next-key}

pub loop-i-init : goal.loop-i-init
loop-i-init g c = record {
  fall = search rules;
  key = search rules;
  noted = λ le.
      let items = c.args.items.now in
      let x = c.in_ok-last.last.now in
      let cut = c.in_ok-last.ensures.cases.0 in
      let some : 0 < length items = omega (arith, ap length cut) in
      let is : x ≡ get_or items 0 x = ap (λ l. get_or l 0 x) (sym cut) in
      ap (take 1) c.note.ensures ∙ noted_more g.E.Element.key items c.args.room.now 0 c.key-key.result x refl some (omega arith) is c.key-key.ensures;
}

pub loop-i-preserved : goal.loop-i-preserved
loop-i-preserved g c =
    let order = g.E.Ord.cmp in
    let items = c.args.items.now in
    let rest = c.in_ok-last.rest.now in
    let i = c.loop-i.i in
    let last = c.loop-i.last.now in
    let x = c.index-rest-i.result in
    let less : order last x ≡ Less = elim c.else-next-key.branch [
      | else-next-key-via-then-next-key+else-is_ge w ↦ search rules
      | else-next-key-via-else-next-key w ↦ g.met.E.Element.keyed last x (omega (arith, w.if-next-key, c.key-next.ensures, c.loop-i.invariant.key))
    ] in
    let n : i + 1 + 1 ≡ suc (i + 1) = omega arith in
    let e : drop i rest ≡ x ∷ drop (i + 1) rest = drop_more rest i x c.loop-i-test.true ∙ ap (λ y. y ∷ drop (i + 1) rest) (sym c.index-rest-i.is) in
    record {
      fall = ap (λ k. fall_from order x k (drop (i + 1) rest)) n ∙ sym (fall_next order last x (i + 1) (drop (i + 1) rest) less) ∙ ap (fall_from order last (i + 1)) (sym e) ∙ c.loop-i.invariant.fall;
      key = c.key-next.ensures;
      noted = λ le.
          let cut = c.in_ok-last.ensures.cases.0 in
          let inside : i + 1 < length items = omega (arith, ap length cut, c.loop-i-test.true) in
          let s : i + 1 ≡ suc i = omega arith in
          let is : x ≡ get_or items (i + 1) x = c.index-rest-i.is ∙ sym (ap (λ l. get_or l (i + 1) x) cut ∙ ap (λ k. get_or (c.in_ok-last.last.now ∷ rest) k x) s) in
          ap (take (i + 1 + 1)) c.note-in-loop-i.ensures ∙ noted_more g.E.Element.key items c.loop-i.room (i + 1) c.key-next.result x (c.loop-i.invariant.noted le) inside (omega (arith, c.loop-i.auto.room)) is c.key-next.ensures;
    }
