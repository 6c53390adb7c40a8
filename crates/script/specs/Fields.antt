-- What the fields of a line show.
use Rattle.std.specs.Prelude.{ℕ, ◌+◌, ◌-◌, ◌*◌, ◌%◌, ◌^◌, Bool, false, cond, not, ◌==◌, ◌&&◌, ◌||◌, nat_le, nat_lt, List, [], ◌∷◌, length, Option, None, Some, Ok, Err, Result}
use Rattle.std.specs.Borrow.{Bor}
use Rattle.std.specs.Char.{is_ascii_digit}
use Rattle.std.specs.List.{list_all}
use Rattle.script.specs.declared.fault.LineFault.{LineFault}
use Rattle.script.specs.declared.fault.LineFault.TheVariants.{Form, Great}

-- a second step, where the first refuses nothing
infixl 10 ◌>>=◌
abbrev pub ◌>>=◌ : {A B : Type 0} → Result A LineFault → (A → Result B LineFault) → Result B LineFault
Ok a >>= next = next a
Err e >>= next = Err e

-- a step that refuses what fails a test
abbrev pub given : {A : Type 0} → Bool → LineFault → A → Result A LineFault
given test fault a = cond test (Ok a) (Err fault)

-- so many fields
abbrev pub one : {A : Type 0} → List A → Result A LineFault
one (a ∷ []) = Ok a
one _ = Err Form

abbrev pub two : {A : Type 0} → List A → Result (A × A) LineFault
two [] = Err Form
two (a ∷ others) = do
  b ← one others
  Ok (a, b)

abbrev pub four : {A : Type 0} → List A → Result (A × A × A × A) LineFault
four (a ∷ b ∷ others) = do
  rest ← two others
  Ok (a, b, rest.0, rest.1)
four _ = Err Form

-- decimal digits, at least one, with no needless leading zero
abbrev pub is_number : List ℕ → Bool
is_number [] = false
is_number (b ∷ []) = is_ascii_digit b
is_number (b ∷ c ∷ rest) = not (b == 48) && list_all is_ascii_digit (b ∷ c ∷ rest)

-- the number that digits show, after a number that the digits before them show
abbrev pub value_after : ℕ → List ℕ → ℕ
value_after n [] = n
value_after n (b ∷ rest) = value_after (10 * n + (b - 48)) rest

abbrev pub value : List ℕ → ℕ
value digits = value_after 0 digits

-- a number, where 64 bits hold it
abbrev pub fitting : ℕ → Option ℕ
fitting n = cond (nat_lt n (2 ^ 64)) (Some n) None

-- the number that a field shows
abbrev pub number : List ℕ → Result (Option ℕ) LineFault
number field = given (is_number field) Form (fitting (value field))

-- a number that is less than its place's bound
abbrev pub below : ℕ → Option ℕ → Result ℕ LineFault
below bound None = Err Great
below bound (Some n) = given (nat_lt n bound) Great n

-- a capital hex digit, and its value
abbrev pub is_hex : ℕ → Bool
is_hex b = is_ascii_digit b || (nat_le 65 b && nat_le b 70)

abbrev pub hex_value : ℕ → ℕ
hex_value b = cond (nat_le b 57) (b - 48) (b - 55)

-- the bytes that pairs of digits show
abbrev pub pair_bytes : List ℕ → List ℕ
pair_bytes (high ∷ low ∷ rest) = (16 * hex_value high + hex_value low) ∷ pair_bytes rest
pair_bytes _ = []

-- pairs of capital hex digits, at least one pair and at most 2,048
abbrev pub are_pairs : List ℕ → Bool
are_pairs field = nat_le 2 (length field) && (nat_le (length field) 4096 && ((length field % 2 == 0) && list_all is_hex field))

-- the bytes that a field shows
abbrev pub bytes : List ℕ → Result (List ℕ) LineFault
bytes field = given (are_pairs field) Form (pair_bytes field)

-- fields as they are seen, wherever they lie
abbrev pub one_now : Result (Bor (List ℕ)) LineFault → Result (List ℕ) LineFault
one_now r = r >>= (λ a. Ok a.now)

abbrev pub two_now : Result (Bor (List ℕ) × Bor (List ℕ)) LineFault → Result (List ℕ × List ℕ) LineFault
two_now r = r >>= (λ a. Ok (a.0.now, a.1.now))

abbrev pub four_now : Result (Bor (List ℕ) × Bor (List ℕ) × Bor (List ℕ) × Bor (List ℕ)) LineFault → Result (List ℕ × List ℕ × List ℕ × List ℕ) LineFault
four_now r = r >>= (λ a. Ok (a.0.now, a.1.now, a.2.now, a.3.now))
