-- The kinds whose forms are runs of records: their frames, and what they mean.
use Rattle.std.specs.Prelude.{ℕ, List, [], ◌∷◌, Some, None, Ok, Err, Option, Result}
use Rattle.std.specs.declared.cmp.Ordering.{Ordering}
use Rattle.readings.specs.declared.Reading.{Reading}
use Rattle.synopsis.specs.declared.fault.DecodeFault.{DecodeFault}
use Rattle.synopsis.specs.Faults.{refusal}
use Rattle.synopsis.specs.Kind.{Kind}
use Rattle.runs.specs.Runs.{Run, as_run, first_fall}
use Rattle.runs.specs.Union.{joined_runs}
use Rattle.records.specs.Records.{Layout}
use Rattle.records.specs.RecordFrames.{read_records}
pub use Rattle.records.specs.RecordFrames.{end_of, frame_of}

-- the kind with this number, of runs of at most so many records, by how they are written and how ordered
module _ {E : Type 0} (number most : ℕ) (l : Layout E) (order : E → E → Ordering) where
  -- records that rise are a run; else the first that does not is at fault
  abbrev pub rising_or : List E → Option ℕ → Result (Run order most) DecodeFault
  rising_or xs None = Ok (as_run order most xs)
  rising_or xs (Some i) = Err (refusal 13 (end_of l i) number)

  -- what was read, as a run
  abbrev pub in_order : Result (List E) DecodeFault → Result (Run order most) DecodeFault
  in_order (Err e) = Err e
  in_order (Ok xs) = rising_or xs (first_fall order xs)

  -- a frame is read as its records are, and then they have to rise
  abbrev pub read_frame : List ℕ → Result (Run order most) DecodeFault
  read_frame bytes = in_order (read_records number 0 most l bytes)

  -- a reading gives the run of one record
  abbrev pub run_kind : (Reading → E) → Kind
  run_kind one = record {
    Form = Run order most;
    number = number;
    greatest = end_of l most;
    below = [];
    none = as_run order most [];
    single = λ r. as_run order most (one r ∷ []);
    join = joined_runs order most;
    encoding = λ x. frame_of number l x.items;
    decoding = read_frame;
  }
