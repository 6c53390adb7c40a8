use Rattle.std.proofs.Common.{◌≡◌, ◌+◌, ◌-◌, ◌*◌, ◌<◌, ◌≤◌, length, take, drop, refl, ap, ◌∙◌, arith}
use borrow.Rule.Slice.PartMut.{put_mid}
use Rattle.std.proofs.lemmas.List.{length-take, length-drop}
use Rattle.std.proofs.lemmas.Bool.{ltb-false}
use Rattle.synopsis.specs.Kind.{encode_after, longest}
use Rattle.synopsis.proofs.Fits.{encode_over}
use Rattle.network.specs.Calls.{value_form}
use Rattle.network.proofs.Refusing.{form_at, placed_is}
use Rattle.network.proofs.calls.encode_at.Goals as goal

pub returns-clause-bytes : goal.returns-clause-bytes
returns-clause-bytes g c =
    let k = g.S.Synopsis.kind in
    let laws = g.met.S.Synopsis.lawful in
    let memory = c.args.memory.now in
    let at = 2048 * c.args.slot in
    let part = take (at + 2048 - at) (drop at memory) in
    let slot : c.args.slot < 32 = c.requires.slot_within in
    let room : 65536 ≤ length memory = c.requires.room in
    let long : length part ≡ 2048 = simp (length-take, length-drop) (omega arith) in
    let short : k.greatest ≤ 2048 = ltb-false longest k.greatest c.requires.short in
    let same = form_at g.S.Synopsis.form k.none c.args.values.now c.args.node c.index-values-node.result c.requires.node_within c.index-values-node.is in
    let x = value_form k g.S.Synopsis.form c.args.values.now c.args.node in
    let fits : length (k.encoding x) ≤ 2048 = omega (arith, laws.most c.requires.short x, short) in
    ap (put_mid at (at + 2048 - at) memory) (c.encode.ensures.after ∙ ap (λ y. encode_after k y part) same ∙ encode_over k laws c.requires.short x part (omega arith))
    ∙ placed_is memory (k.encoding x) at 2048 (at + 2048 - at) (omega arith) fits refl
