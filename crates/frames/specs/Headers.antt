-- A frame begins with a kind number, a count, and the place of its end in two bytes.
use Rattle.std.specs.Prelude.{ℕ, ◌+◌, ◌*◌, cond, ◌||◌, List, ◌∷◌, length, Ok, Err, Result, ◌==◌, nat_lt, slice_index}
use Rattle.synopsis.specs.declared.fault.DecodeFault.{DecodeFault}
use Rattle.synopsis.specs.Faults.{refusal}
use Rattle.frames.specs.declared.header.Header.{Header}
use Rattle.frames.specs.Numbers.{in_bytes}

abbrev pub header_bytes : ℕ → ℕ → ℕ → List ℕ
header_bytes kind count end = kind ∷ count ∷ in_bytes 2 end

-- the count and the end of a frame that begins as one of this kind does, with a count from fewest to most
abbrev pub opened : ℕ → ℕ → ℕ → List ℕ → Result Header DecodeFault
opened kind fewest most bytes =
    cond (nat_lt (length bytes) 4) (Err (refusal 9 (length bytes) kind))
    (cond (slice_index bytes 0 == kind)
    (cond (nat_lt (slice_index bytes 1) fewest || nat_lt most (slice_index bytes 1)) (Err (refusal 11 1 kind))
    (Ok (record { count = slice_index bytes 1; end = slice_index bytes 2 * 256 + slice_index bytes 3 })))
    (Err (refusal 10 0 kind)))
