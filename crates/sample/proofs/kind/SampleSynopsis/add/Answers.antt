use Rattle.std.proofs.Common.{[], ◌∷◌, ap, ◌∙◌}
use Rattle.runs.specs.Runs.{as_run}
use Rattle.runs.specs.Union.{joined_runs}
use Rattle.sample.specs.Records.{by_hash}
use Rattle.sample.specs.Sample.{sample_form}
use Rattle.sample.proofs.kind.SampleSynopsis.add.Goals as goal

pub returns : goal.returns
returns c = c.add.ensures ∙ ap (λ r. joined_runs by_hash 32 (sample_form c.args.self.now) (as_run by_hash 32 (r ∷ []))) c.from.ensures
