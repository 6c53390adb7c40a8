-- Reading a frame that has other frames as its parts.
use Rattle.std.specs.Prelude.{ℕ, ◌+◌, List, Ok, Err, Result}
use Rattle.std.specs.Result.{result_map_both}
use Rattle.std.specs.List.{between}
use Rattle.synopsis.specs.declared.fault.DecodeFault.{DecodeFault}
use Rattle.synopsis.specs.Kind.{Kind}

-- what is read next, unless there was a fault
abbrev pub then_read : {X Y : Type 0} → Result X DecodeFault → (X → Result Y DecodeFault) → Result Y DecodeFault
then_read (Ok x) next = next x
then_read (Err e) next = Err e

-- a fault of a part that begins at this place, as one of the whole: its reason and kind stay
abbrev pub raise : ℕ → DecodeFault → DecodeFault
raise by e = record { reason = e.reason; place = by + e.place; kind = e.kind }

-- what the part from one place to another is read as
abbrev pub read_part : (k : Kind) → ℕ → ℕ → List ℕ → Result k.Form DecodeFault
read_part k from to bytes = result_map_both (λ x. x) (raise from) (k.decoding (between from to bytes))
