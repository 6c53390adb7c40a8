-- Least values: the kind with number 2, whose forms are runs of at most 64 hash values.
use Rattle.std.specs.Prelude.{ℕ, ◌+◌, ◌*◌, ◌/◌, ◌^◌, Bool, cond, List, length, ◌==◌, nat_lt, slice_index}
use Rattle.readings.specs.Readings.{hash_of}
use Rattle.synopsis.specs.Kind.{Kind}
use Rattle.runs.specs.Order.{by_size}
use Rattle.runs.specs.Runs.{Run, form_of}
use Rattle.records.specs.Records.{numbers}
use Rattle.records.specs.RunKind.{run_kind}
use Rattle.least.specs.declared.row.LeastValues.{LeastValues}

abbrev pub least_kind : Kind
least_kind = run_kind 2 64 (numbers 8) by_size hash_of

-- an unused place holds zero
abbrev pub unused : ℕ → Bool
unused x = x == 0

-- what a plain row stands for: the run of its values, or the empty one where it fails the check, by which each of its values is
-- less than the next and zeros stand behind them
abbrev pub least_form : LeastValues → Run by_size 64
least_form row = form_of by_size unused row.row

-- an estimate of how many different hashes a run was made of: its length, and where it is full 63 * 2^32 over the upper half of its
-- last value and one
abbrev pub estimate_of : List ℕ → ℕ
estimate_of values = cond (nat_lt (length values) 64) (length values) (63 * 2 ^ 32 / (slice_index values 63 / 2 ^ 32 + 1))
