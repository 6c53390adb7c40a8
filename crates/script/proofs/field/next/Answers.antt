use Rattle.std.proofs.Common.{refl, sym, ◌∙◌}
use Rattle.script.proofs.Cutting.{first_field, no_more_fields}
use Rattle.script.proofs.field.next.Goals as goal

pub returns-in-Some-clause-several : goal.returns-in-Some-clause-several
returns-in-Some-clause-several c = first_field c.args.text.now c.in-Some.at (sym c.field_end.ensures ∙ c.in-Some.is)

pub returns-in-None-clause-alone : goal.returns-in-None-clause-alone
returns-in-None-clause-alone c = (refl, no_more_fields c.args.text.now (sym c.field_end.ensures ∙ c.in-None.is))
