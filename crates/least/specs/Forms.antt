-- Least values are a lawful kind.
use Rattle.std.proofs.Common.{arith}
use Rattle.runs.specs.Order.{by_size}
use Rattle.runs.proofs.Orders.{size_lawful}
use Rattle.readings.specs.Readings.{hash_of}
use Rattle.synopsis.specs.Kind.{Laws}
use Rattle.records.specs.Records.{numbers}
use Rattle.records.specs.Layouts.{numbers_readable}
use Rattle.records.proofs.RunLaws.{run_laws}
use Rattle.least.specs.Least.{least_kind}

pub least_laws : Laws least_kind
least_laws = run_laws 2 64 (numbers 8) by_size (numbers_readable 7) hash_of size_lawful (omega arith)
