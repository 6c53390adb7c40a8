-- Sample: the kind with number 3, whose forms are runs of at most 32 records.
use Rattle.synopsis.specs.Kind.{Kind}
use Rattle.runs.specs.Runs.{Run, form_of}
use Rattle.records.specs.RunKind.{run_kind}
use Rattle.sample.specs.declared.row.Sample.{Sample}
use Rattle.sample.specs.Records.{record_of, by_hash, unused, sample_layout}

abbrev pub sample_kind : Kind
sample_kind = run_kind 3 32 sample_layout by_hash record_of

-- what a plain row stands for: the run of its records, or the empty one where it fails the check, by which each of its records
-- is less than the next and zeros stand behind them
abbrev pub sample_form : Sample → Run by_hash 32
sample_form row = form_of by_hash unused row.row
