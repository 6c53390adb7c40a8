-- Numbers of fixed widths, one behind the other.
use Rattle.std.specs.Prelude.{ℕ, List, sum_by}
use Rattle.std.specs.List.{flat_map}
use Rattle.frames.specs.Numbers.{in_bytes}
use Rattle.usage.specs.declared.cell.Cell.{Cell}

-- a number in so many bytes
abbrev pub cell : ℕ → ℕ → Cell
cell width value = record { width = width; value = value }

abbrev pub cell_bytes : Cell → List ℕ
cell_bytes c = in_bytes c.width c.value

-- how many bytes some numbers take, and these bytes, highest first in each
abbrev pub width_of : List Cell → ℕ
width_of cells = sum_by (λ c. c.width) cells

abbrev pub bytes_of : List Cell → List ℕ
bytes_of cells = flat_map cell_bytes cells
