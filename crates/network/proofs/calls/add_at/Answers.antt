use Rattle.network.proofs.Refusing.{fused_at}
use Rattle.network.proofs.calls.add_at.Goals as goal
use Rattle.std.proofs.Common.{sym, ap, ◌∙◌}

pub returns : goal.returns
returns g c =
    let k = g.S.Synopsis.kind in
    fused_at g.S.Synopsis.form k.join k.none c.args.values.now c.args.node c.index-values-node.result c.add.new.self (k.single c.args.reading) c.requires c.index-values-node.is (c.add.ensures ∙ ap (λ v. k.join (g.S.Synopsis.form v) (k.single c.args.reading)) (sym c.index-values-node.is))
