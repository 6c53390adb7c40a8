-- The rows of a page: what they hold of a sample, and how they are written.
use Rattle.std.specs.Prelude.{ℕ, max, Bool, cond, List, [], ◌∷◌, take, drop, map, ◌==◌}
use Rattle.std.specs.List.{count_by}
use Rattle.runs.specs.Order.{by_size}
use Rattle.runs.specs.Union.{merge}
use Rattle.frames.specs.Numbers.{from_bytes}
use Rattle.records.specs.Records.{Layout}
use Rattle.sample.specs.declared.record.SampleRecord.{SampleRecord}
use Rattle.usage.specs.declared.cell.Cell.{Cell}
use Rattle.usage.specs.declared.row.Row.{Row}
use Rattle.usage.specs.Cells.{cell, bytes_of}

-- the numbers of a row, a column each: tenant, records, greatest amount
abbrev pub row_cells : Row → List Cell
row_cells r = cell 4 r.tenant ∷ cell 2 r.records ∷ cell 8 r.greatest ∷ []

-- how many these are, and how a row is written and read
abbrev pub columns : ℕ
columns = 3

abbrev pub row_layout : Layout Row
row_layout = record {
  width = 14;
  written = λ r. bytes_of (row_cells r);
  read = λ bytes. record { tenant = from_bytes (take 4 bytes); records = from_bytes (take 2 (drop 4 bytes)); greatest = from_bytes (drop 6 bytes) };
}

-- whether a record is of this tenant
abbrev pub of_tenant : ℕ → SampleRecord → Bool
of_tenant t x = x.tenant == t

-- the greatest amount among the records of a tenant, zero if there are none
abbrev pub greatest_of : List SampleRecord → ℕ → ℕ
greatest_of [] t = 0
greatest_of (x ∷ xs) t = cond (of_tenant t x) (max x.amount (greatest_of xs t)) (greatest_of xs t)

-- the row of a tenant
abbrev pub row_of : List SampleRecord → ℕ → Row
row_of xs t = record { tenant = t; records = count_by (of_tenant t) xs; greatest = greatest_of xs t }

-- the tenants of some records beside those that are there, rising, each once
abbrev pub tenants_after : List ℕ → List SampleRecord → List ℕ
tenants_after ts [] = ts
tenants_after ts (x ∷ xs) = tenants_after (merge by_size (x.tenant ∷ []) ts) xs

abbrev pub tenants_of : List SampleRecord → List ℕ
tenants_of xs = tenants_after [] xs

-- a row for each tenant of a sample
abbrev pub rows_of : List SampleRecord → List Row
rows_of xs = map (row_of xs) (tenants_of xs)
