use Rattle.std.proofs.Common.{◌≡◌, ◌^◌, ◌<◌, sym, subst, rules}
use Rattle.bitmaps.specs.Bitmaps.{lowest_zero, LowestZero}
use Rattle.bitmaps.proofs.LowestZeros.{lowest_tells}
use Rattle.bitmaps.proofs.zeros.lowest_zero.Goals as goal

pub returns-clause-lowest : goal.returns-clause-lowest
returns-clause-lowest c =
    let small : c.args.map < 2 ^ 32 = search rules in
    let value : c.trailing_ones.result ≡ lowest_zero c.args.map = search rules in
    subst (LowestZero 32 c.args.map) (sym value) (lowest_tells 32 c.args.map small)
