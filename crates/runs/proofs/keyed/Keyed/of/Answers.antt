use Rattle.std.proofs.Common.{not, is_some, refl, sym, ap, ◌∙◌}
use Rattle.runs.proofs.Rows.{rising_is}
use Rattle.runs.proofs.keyed.Keyed.of.Goals as goal

pub returns-then-is_some : goal.returns-then-is_some
returns-then-is_some g c = λ le. rising_is g.E.Ord.cmp c.args.items.now ∙ ap not (ap is_some (sym c.fall_noting.ensures.fall) ∙ sym c.is_some.ensures ∙ c.if-is_some.true)

pub returns : goal.returns
returns g c = (rising_is g.E.Ord.cmp c.args.items.now ∙ ap not (ap is_some (sym c.fall_noting.ensures.fall) ∙ sym c.is_some.ensures ∙ c.if-is_some.false), refl)
