use Rattle.std.proofs.Common.{length}
use Rattle.runs.proofs.Unions.{joins}
use Rattle.runs.proofs.union.union.Goals as goal

pub returns-clause-joins : goal.returns-clause-joins
returns-clause-joins g c = joins g.E.Ord.cmp g.met.E.Element.lawful

pub returns-clause-least : goal.returns-clause-least
returns-clause-least g c = λ ha hb.
    rw c.union_rest.ensures.value ((joins g.E.Ord.cmp g.met.E.Element.lawful).means (length c.args.out.now) c.args.a.now.items.now c.args.b.now.items.now ha hb)
