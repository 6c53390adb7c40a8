-- The lines of an input, and the fields of a line.
use Rattle.std.specs.Prelude.{ℕ, ◌+◌, cond, ◌==◌, List, [], ◌∷◌, take, drop, position, Option, None, Some}
use Rattle.std.specs.List.{slice_split, onto_first}

-- a line ends at byte 10 or at the end, and a last byte 10 starts no further line
abbrev pub lines : List ℕ → List (List ℕ)
lines [] = []
lines (b ∷ rest) = cond (b == 10) ([] ∷ lines rest) (onto_first b (lines rest))

-- the fields that single spaces part
abbrev pub fields : List ℕ → List (List ℕ)
fields text = slice_split (λ b. b == 32) text

-- the first line of an input, by the place of the byte 10 that ends it, and what comes after it
abbrev pub line_by : List ℕ → Option ℕ → List ℕ × List ℕ
line_by text None = (text, [])
line_by text (Some at) = (take at text, drop (at + 1) text)

abbrev pub first_line : List ℕ → Option (List ℕ × List ℕ)
first_line [] = None
first_line (b ∷ rest) = Some (line_by (b ∷ rest) (position (λ b. b == 10) (b ∷ rest)))
