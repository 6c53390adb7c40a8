use Rattle.std.proofs.Common.{rules}
use Rattle.layers.specs.PairsLemmas.{sides_written}
use Rattle.layers.proofs.pair.encode_sides.Goals as goal

-- what the sides wrote is found, and not named, so that a side that wrote nothing fails as a fact
pub returns-clause-after : goal.returns-clause-after
returns-clause-after g c = search (sides_written g.A.Synopsis.kind g.B.Synopsis.kind g.met.A.Synopsis.lawful g.met.B.Synopsis.lawful, rules)
