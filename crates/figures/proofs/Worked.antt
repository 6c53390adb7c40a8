-- The worked turns, computed.
use Rattle.std.proofs.Common.{T, sym, refl, subst}
use Rattle.histories.proofs.Finding.{found, complete}
use Rattle.least.specs.Least.{least_kind, least_form}
use Rattle.least.specs.Forms.{least_laws}
use Rattle.diffusion.proofs.Promising.{promise}
use Rattle.figures.specs.Example.{Example, six_turns, six_deeds}

pub worked : Example
worked = record {
  made = λ values memory first last answers h o ran. ((promise least_kind least_laws least_form).kept 2 values memory first six_turns answers h last o ran).computed;
  answers = refl;
  first = found six_deeds 1 1 refl;
  second = λ r. subst T (sym (complete six_deeds 1 3 (refl, tt) r)) tt;
}
