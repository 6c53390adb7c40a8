use Rattle.std.proofs.Common.{refl, rules}
use Rattle.runs.specs.Order.{by_size}
use Rattle.records.specs.Records.{numbers}
use Rattle.records.proofs.Rows.{run_answer, run_after}
use Rattle.least.proofs.kind.LeastValuesSynopsis.encode.Goals as goal

-- what was written is found, and not named, so that other records, or none, fail as a fact
pub returns-clause-answer : goal.returns-clause-answer
returns-clause-answer c = search (run_answer 2 64 (numbers 8) by_size refl, rules)

pub returns-clause-after : goal.returns-clause-after
returns-clause-after c = search (run_after 2 64 (numbers 8) by_size refl, rules)
