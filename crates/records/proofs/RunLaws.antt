-- The kinds whose forms are runs of records keep the laws of a kind.
use Rattle.std.proofs.Common.{◌≡◌, ℕ, ◌≤◌, List, [], length, Some, None, Ok, Err, Option, Result, Ordering, refl, ap, ◌∙◌, arith}
use Rattle.std.proofs.lemmas.Bool.{ltb-true}
use Rattle.readings.specs.declared.Reading.{Reading}
use Rattle.synopsis.specs.declared.fault.DecodeFault.{DecodeFault}
use Rattle.synopsis.specs.Kind.{Kind, Laws}
use Rattle.synopsis.proofs.Reading.{read_apart, own_fault, Tells, tells_exact, tells_arises, tells_inside}
use Rattle.runs.specs.Order.{Lawful}
use Rattle.runs.specs.Runs.{Run, first_fall}
use Rattle.runs.proofs.Forms.{no_fall, rising_if_none, make_run, run_items, fall_inside, run_rises, run_few, of_items, join_assoc, join_comm, join_idem, join_unit}
use Rattle.records.specs.Records.{Layout, Readable}
use Rattle.records.specs.RecordFrames.{end_of, frame_of, read_records}
use Rattle.records.specs.RunKind.{rising_or, in_order, read_frame, run_kind}
use Rattle.records.proofs.RecordFrames.{end_mono, length_of_frame, records_back, records_tell, Told, TellsRecords}

module _ {E : Type 0} (number most : ℕ) (l : Layout E) (order : E → E → Ordering) (rd : Readable l) (one : Reading → E) where
  abbrev kind : Kind
  kind = run_kind number most l order one

  -- a frame reads back as the run that made it
  read_back : (x : Run order most) → read_frame number most l order (frame_of number l x.items) ≡ Ok x
  read_back x =
      let none = no_fall order x.items (run_rises order most x) in
      ap (in_order number most l order) (records_back number 0 most l rd x.items (omega arith) (run_few order most x))
      ∙ ap (rising_or number most l order x.items) none
      ∙ ap Ok (of_items order most x)

  -- records that are read are those of a run, or the one at fault lies within the bytes
  rising_tells : (bytes : List ℕ) (xs : List E) → Told number 0 most l bytes xs → (o : Option ℕ) → first_fall order xs ≡ o → Tells kind bytes (rising_or number most l order xs o)
  rising_tells bytes xs h None e =
      λ small. ap (frame_of number l) (run_items order most xs (make_run order most xs (rising_if_none order xs e) h.within)) ∙ h.exact rd small
  rising_tells bytes xs h (Some i) e =
      let whole : end_of l (length xs) ≡ length bytes = h.ends in
      let lt = fall_inside order xs i e in
      let m = end_mono l i (length xs) (omega arith) in
      (omega arith, own_fault number [] number refl)

  order_tells : (bytes : List ℕ) (r : Result (List E) DecodeFault) → TellsRecords number 0 most l bytes r → Tells kind bytes (in_order number most l order r)
  order_tells bytes (Err e) h = (h.0, own_fault number [] e.kind h.1)
  order_tells bytes (Ok xs) h = rising_tells bytes xs h (first_fall order xs) refl

  read_tells : (bytes : List ℕ) → Tells kind bytes (kind.decoding bytes)
  read_tells bytes = order_tells bytes (read_records number 0 most l bytes) (records_tell number 0 most l bytes)

  pub run_laws : Lawful order → end_of l most ≤ 2048 → Laws (run_kind number most l order one)
  run_laws laws short = record {
    assoc = join_assoc order laws most;
    comm = join_comm order laws most;
    idem = join_idem order laws most;
    unit = join_unit order laws most;
    bounded = omega arith;
    least = λ _ x. let n = length_of_frame l rd number x.items in omega arith;
    most = λ _ x. let n = length_of_frame l rd number x.items in let m = end_mono l (length x.items) most (run_few order most x) in omega arith;
    back = λ _ x. read_back x;
    apart = λ _ x y. read_apart (λ z. frame_of number l z.items) (read_frame number most l order) x y (read_back x) (read_back y);
    exact = tells_exact kind read_tells;
    arises = tells_arises kind read_tells;
    inside = tells_inside kind read_tells;
    shut = λ o bytes. let lt = ltb-true 2048 (end_of l most) o in absurd (omega arith);
  }
