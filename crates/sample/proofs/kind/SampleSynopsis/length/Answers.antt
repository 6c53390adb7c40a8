use Rattle.std.proofs.Common.{refl, rules}
use Rattle.sample.specs.Records.{by_hash, sample_layout}
use Rattle.sample.specs.Layouts.{sample_readable}
use Rattle.records.proofs.Rows.{run_length}
use Rattle.sample.proofs.kind.SampleSynopsis.length.Goals as goal

pub returns : goal.returns
returns c = search (run_length 3 32 sample_layout by_hash refl, sample_readable, rules)
