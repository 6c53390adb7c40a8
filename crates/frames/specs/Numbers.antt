-- Numbers in bytes, highest byte first.
use Rattle.std.specs.Prelude.{ℕ, zero, suc, ◌/◌, ◌%◌, ◌^◌, List, [], ◌∷◌}
use Rattle.std.specs.Int.Digits.{number_from_digits}

-- the w lowest bytes of a number
abbrev pub low_bytes : ℕ → ℕ → List ℕ
low_bytes zero n = []
low_bytes (suc w) n = n / 256 ^ w % 256 ∷ low_bytes w n

-- a number in w bytes; the first has whatever the others leave, which is a byte where the number is below 256^w
abbrev pub in_bytes : ℕ → ℕ → List ℕ
in_bytes zero n = []
in_bytes (suc w) n = n / 256 ^ w ∷ low_bytes w n

-- the number that bytes write
abbrev pub from_bytes : List ℕ → ℕ
from_bytes bytes = number_from_digits 256 bytes
