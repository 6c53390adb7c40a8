use Rattle.network.proofs.Refusing.{fused_at}
use Rattle.network.proofs.calls.fuse_at.Goals as goal
use Rattle.std.proofs.Common.{sym, ap, ◌∙◌}

pub returns : goal.returns
returns g c =
    let k = g.S.Synopsis.kind in
    fused_at g.S.Synopsis.form k.join k.none c.args.values.now c.args.node c.index-values-node.result c.fuse.new.self (g.S.Synopsis.form c.args.other.now) c.requires c.index-values-node.is (c.fuse.ensures ∙ ap (λ v. k.join (g.S.Synopsis.form v) (g.S.Synopsis.form c.args.other.now)) (sym c.index-values-node.is))
