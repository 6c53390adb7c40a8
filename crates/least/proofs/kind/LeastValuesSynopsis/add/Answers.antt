use Rattle.std.proofs.Common.{ℕ, [], ◌∷◌, ap, ◌∙◌}
use Rattle.runs.specs.Runs.{as_run}
use Rattle.runs.specs.Order.{by_size}
use Rattle.runs.specs.Union.{joined_runs}
use Rattle.least.specs.Least.{least_form}
use Rattle.least.proofs.kind.LeastValuesSynopsis.add.Goals as goal

pub returns : goal.returns
returns c = c.add.ensures ∙ ap (λ (h : ℕ). joined_runs by_size 64 (least_form c.args.self.now) (as_run by_size 64 (h ∷ []))) c.hash.ensures
