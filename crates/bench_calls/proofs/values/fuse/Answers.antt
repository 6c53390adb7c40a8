use Rattle.std.proofs.Common.{◌≡◌, List, map, take, drop, sym, ap, ◌∙◌}
use Rattle.std.proofs.lemmas.List.{take-map, drop-map}
use Rattle.synopsis.specs.Kind.{encode_after}
use Rattle.bench_calls.specs.Values.{again, forms, joined_last}
use Rattle.bench_calls.proofs.values.fuse.Goals as goal

pub returns : goal.returns
returns g c =
    let k = g.S.Synopsis.kind in
    let form = g.S.Synopsis.form in
    let read = forms k c.args.size c.args.frames.now 64 in
    let values = c.read_all.new.values in
    let all : map form values ≡ read = c.read_all.ensures ∙ ap (forms k c.args.size c.args.frames.now) c.requires in
    let firsts : map form c.split_at.result.0.now ≡ take 32 read = ap (map form) c.split_at.ensures.front ∙ sym (take-map form 32 values) ∙ ap (take 32) all in
    let others : map form c.split_at.result.1.now ≡ drop 32 read = ap (map form) c.split_at.ensures.back ∙ sym (drop-map form 32 values) ∙ ap (drop 32) all in
    c.put_frame.ensures
    ∙ ap (λ (x : k.Form). encode_after k x c.args.out.now)
    (c.join_rounds.ensures
    ∙ ap (λ (xs : List k.Form). again (joined_last k xs (map form c.split_at.result.1.now)) c.args.rounds (form c.empty-place.result)) firsts
    ∙ ap (λ (ys : List k.Form). again (joined_last k (take 32 read) ys) c.args.rounds (form c.empty-place.result)) others
    ∙ ap (again (joined_last k (take 32 read) (drop 32 read)) c.args.rounds) c.empty-place.ensures)
