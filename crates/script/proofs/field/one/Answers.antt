use Rattle.std.proofs.Common.{sym, ap, ◌∙◌}
use Rattle.script.specs.Fields.{one}
use Rattle.script.proofs.Cutting.{not_one, no_more_fields}
use Rattle.script.proofs.field.one.Goals as goal

pub returns-in-Some : goal.returns-in-Some
returns-in-Some c = sym (not_one c.args.text.now c.in-Some.field-0 (sym c.field_end.ensures ∙ c.in-Some.is))

pub returns-in-None : goal.returns-in-None
returns-in-None c = sym (ap one (no_more_fields c.args.text.now (sym c.field_end.ensures ∙ c.in-None.is)))
