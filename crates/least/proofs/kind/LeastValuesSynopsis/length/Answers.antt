use Rattle.std.proofs.Common.{refl, rules}
use Rattle.runs.specs.Order.{by_size}
use Rattle.records.specs.Records.{numbers}
use Rattle.records.specs.Layouts.{numbers_readable}
use Rattle.records.proofs.Rows.{run_length}
use Rattle.least.proofs.kind.LeastValuesSynopsis.length.Goals as goal

pub returns : goal.returns
returns c = search (run_length 2 64 (numbers 8) by_size refl, (numbers_readable 7), rules)
