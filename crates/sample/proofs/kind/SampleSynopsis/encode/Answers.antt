use Rattle.std.proofs.Common.{refl, rules}
use Rattle.sample.specs.Records.{by_hash, sample_layout}
use Rattle.records.proofs.Rows.{run_answer, run_after}
use Rattle.sample.proofs.kind.SampleSynopsis.encode.Goals as goal

-- what was written is found, and not named, so that other records, or none, fail as a fact
pub returns-clause-answer : goal.returns-clause-answer
returns-clause-answer c = search (run_answer 3 32 sample_layout by_hash refl, rules)

pub returns-clause-after : goal.returns-clause-after
returns-clause-after c = search (run_after 3 32 sample_layout by_hash refl, rules)
