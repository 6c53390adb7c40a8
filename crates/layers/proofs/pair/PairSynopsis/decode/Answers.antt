use Rattle.std.proofs.Common.{rules}
use Rattle.layers.specs.PairsLemmas.{pair_read}
use Rattle.layers.proofs.pair.PairSynopsis.decode.Goals as goal

-- what was read is found, and not named, so that sides read in another order fail as a fact
pub returns : goal.returns
returns g c =
    pair_read g.A.Synopsis.kind g.B.Synopsis.kind g.met.A.Synopsis.lawful g.met.B.Synopsis.lawful (search rules) c.args.frame.now c.in_ok-offset.offset _ _ (search rules) (λ i. search rules) (search rules) (search rules)
