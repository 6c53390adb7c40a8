-- Rows and runs of records: what is read into a row, and how a run is written.
use Rattle.std.proofs.Common.{◌≡◌, ℕ, ◌≤◌, Bool, true, T, List, length, take, drop, replicate, Ok, Ordering, sym, ap, ◌∙◌, arith}
use Rattle.synopsis.specs.Kind.{fitted, over}
use Rattle.runs.specs.Runs.{rising, Run, as_run, is_run_row, row_form}
use Rattle.runs.proofs.Forms.{run_few}
use Rattle.runs.proofs.Rows.{fresh_row, kept_form, kept_items}
use Rattle.records.specs.Records.{Layout, Readable}
use Rattle.records.specs.RecordFrames.{fits_frame, frame_of, records_length, records_answer, records_after}
use Rattle.records.specs.RunKind.{read_frame}
use Rattle.records.proofs.RecordFrames.{length_fits, answer_fits, after_fits}

module _ {E : Type 0} (number most : ℕ) (l : Layout E) (order : E → E → Ordering) where
  -- the run that a frame was read as stands in a fresh row, which then stands for it
  pub read_row : (blank : E → Bool) (x : E) → T (blank x) → (bytes : List ℕ) (count : ℕ) (places : List E) → length places ≡ most → count ≤ most
      → read_frame number most l order bytes ≡ Ok (as_run order most (take count places)) → T (rising order (take count places))
      → frame_of number l (take count places) ≡ bytes → drop count places ≡ drop count (replicate most x)
      → (read_frame number most l order bytes ≡ Ok (row_form order blank most count places)) × (frame_of number l (row_form order blank most count places).items ≡ bytes)
  read_row blank x unused bytes count places long few reads up back rest =
      let kept : T (is_run_row order blank count places) = fresh_row order blank most count places long x unused few up rest in
      (reads ∙ ap Ok (sym (kept_form order blank most count places kept)), ap (frame_of number l) (kept_items order blank most count places long kept) ∙ back)

-- and a run fits a frame where the longest does: its length, what is answered where it is written, and what is written, are
-- those of its frame
module _ {E : Type 0} (number most : ℕ) (l : Layout E) (order : E → E → Ordering) (fits : fits_frame l most ≡ true) (x : Run order most) (items : List E) (e : items ≡ x.items) where
  few : length items ≤ most
  few = let le = run_few order most x in omega (arith, ap length e)

  pub run_length : Readable l → records_length l (length items) ≡ length (frame_of number l x.items)
  run_length rd = length_fits number l most fits items few rd ∙ ap (λ (xs : List E). length (frame_of number l xs)) e

  pub run_answer : (room : ℕ) → records_answer number l items room ≡ fitted (frame_of number l x.items) room
  run_answer room = answer_fits number l most fits items few room ∙ ap (λ (xs : List E). fitted (frame_of number l xs) room) e

  pub run_after : (bytes : List ℕ) → records_after number l items bytes ≡ over (frame_of number l x.items) bytes
  run_after bytes = after_fits number l most fits items few bytes ∙ ap (λ (xs : List E). over (frame_of number l xs) bytes) e
