-- Samples are a lawful kind.
use Rattle.std.proofs.Common.{arith}
use Rattle.synopsis.specs.Kind.{Laws}
use Rattle.records.proofs.RunLaws.{run_laws}
use Rattle.sample.specs.Records.{record_of, by_hash, sample_layout}
use Rattle.sample.specs.Sample.{sample_kind}
use Rattle.sample.specs.Layouts.{hash_lawful, sample_readable}

pub sample_laws : Laws sample_kind
sample_laws = run_laws 3 32 sample_layout by_hash sample_readable record_of hash_lawful (omega arith)
