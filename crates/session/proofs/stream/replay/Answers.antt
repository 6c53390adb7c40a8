use Rattle.session.proofs.Written.{nothing_yet, after_error}
use Rattle.session.proofs.Filling.{for_any}
use Rattle.session.proofs.Scripted.{script_laws}
use Rattle.session.proofs.stream.replay.Goals as goal

pub returns-in_err-count-clause-printed : goal.returns-in_err-count-clause-printed
returns-in_err-count-clause-printed g c = for_any _ _ (λ input. after_error _ _ _ _ _ _ c.from_residual.ensures.0 (nothing_yet _ _))

pub returns-in_err-count-clause-laws : goal.returns-in_err-count-clause-laws
returns-in_err-count-clause-laws g c = script_laws

pub returns-clause-laws : goal.returns-clause-laws
returns-clause-laws g c = script_laws
