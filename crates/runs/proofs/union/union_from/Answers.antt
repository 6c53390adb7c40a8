use Rattle.std.proofs.Common.{◌≡◌, ◌++◌, length, take, drop, refl, sym, ap, ◌∙◌}
use Rattle.std.proofs.lemmas.List.{length-take-le, length-drop}
use Rattle.runs.specs.Union.{merge}
use Rattle.runs.proofs.Steps.{behind, written_on, same_on}
use Rattle.runs.proofs.union.union_from.Goals as goal

pub returns-clause-value : goal.returns-clause-value
returns-clause-value g c =
    let order = g.E.Ord.cmp in
    let left = c.args.left in
    let a = c.args.a.now.items.now in
    let b = c.args.b.now.items.now in
    let out = c.args.out.now in
    let copied = c.copy_from_slice.new.self in
    let old = drop left out in
    let rest = c.union_rest.new.out in
    let later = merge order (drop left a) (drop c.args.right b) in
    let long : length copied ≡ left = c.copy_from_slice.ensures.len ∙ length-take-le left out c.requires.fits in
    let room = ap length (behind copied old rest left c.union_rest.result long) ∙ length-drop left out in
    written_on copied old rest left c.union_rest.result long (merge order a b) later (length out)
    (c.requires.begins ∙ ap (λ l. l ++ later) (sym c.copy_from_slice.ensures.after)) c.requires.fits
    (c.union_rest.ensures.value ∙ ap (λ k. take k later) room)

pub returns-clause-same : goal.returns-clause-same
returns-clause-same g c =
    let left = c.args.left in
    let out = c.args.out.now in
    let copied = c.copy_from_slice.new.self in
    let old = drop left out in
    let rest = c.union_rest.new.out in
    let m = c.union_rest.result in
    let long : length copied ≡ left = c.copy_from_slice.ensures.len ∙ length-take-le left out c.requires.fits in
    same_on copied old rest left m long out refl (c.union_rest.ensures.same ∙ ap (drop m) (behind copied old rest left m long))
