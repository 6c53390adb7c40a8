-- What a host holds after a frame has reached it.
use Rattle.std.specs.Prelude.{ℕ, List, Ok, Err, Result}
use Rattle.synopsis.specs.declared.fault.DecodeFault.{DecodeFault}
use Rattle.least.specs.Least.{least_kind}

-- what was held, joined with what the bytes tell of, if they tell of anything
abbrev pub joined_with : least_kind.Form → Result least_kind.Form DecodeFault → least_kind.Form
joined_with held (Ok told) = least_kind.join held told
joined_with held (Err refused) = held

abbrev pub after_frame : least_kind.Form → List ℕ → least_kind.Form
after_frame held bytes = joined_with held (least_kind.decoding bytes)
