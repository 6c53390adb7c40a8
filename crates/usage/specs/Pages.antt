-- The page of a standard pile, as bytes.
use Rattle.std.specs.Prelude.{ℕ, ◌+◌, ◌*◌, cond, List, [], ◌∷◌, ◌++◌, length, drop, Ok, Err, Result, nat_lt}
use Rattle.std.specs.List.{flat_map}
use Rattle.layers.specs.declared.pair.Pair.{Pair}
use Rattle.layers.specs.Pairs.{pair_kind}
use Rattle.synopsis.specs.Kind.{Kind}
use Rattle.histories.specs.Folds.{read_as}
use Rattle.bitmaps.specs.declared.maps.Bitmaps.{Bitmaps}
use Rattle.bitmaps.specs.Bitmaps.{bitmaps_kind, bitmaps_form, sum_of}
use Rattle.bitmaps.specs.Bitmaps as maps
use Rattle.least.specs.declared.row.LeastValues.{LeastValues}
use Rattle.least.specs.Least.{least_kind, least_form}
use Rattle.least.specs.Least as least
use Rattle.sample.specs.declared.record.SampleRecord.{SampleRecord}
use Rattle.sample.specs.declared.row.Sample.{Sample}
use Rattle.sample.specs.Sample.{sample_kind, sample_form}
use Rattle.usage.specs.declared.cell.Cell.{Cell}
use Rattle.usage.specs.declared.fault.PageFault.{PageFault}
use Rattle.usage.specs.declared.fault.PageFault.TheVariants.{Room}
use Rattle.usage.specs.declared.header.Header.{Header}
use Rattle.usage.specs.Cells.{cell, bytes_of}
use Rattle.usage.specs.Rows.{columns, row_layout, rows_of}

-- the kind of a standard pile, and the form of a value
abbrev pub pile_kind : Kind
pile_kind = pair_kind bitmaps_kind (pair_kind least_kind sample_kind)

abbrev pub pile_form : Pair Bitmaps (Pair LeastValues Sample) → pile_kind.Form
pile_form p = (bitmaps_form p.first, (least_form p.second.first, sample_form p.second.second))

-- what stands in the three sides of a form
abbrev pub maps_of : pile_kind.Form → List ℕ
maps_of x = x.0.each

abbrev pub values_of : pile_kind.Form → List ℕ
values_of x = x.1.0.items

abbrev pub sample_of : pile_kind.Form → List SampleRecord
sample_of x = x.1.1.items

-- the numbers of a header, and their bytes
abbrev pub header_cells : Header → List Cell
header_cells h =
    cell 2 h.rows ∷ cell 2 h.columns ∷ cell 2 h.first ∷ cell 2 h.end ∷ cell 8 h.bitmap_estimate ∷ cell 8 h.least_estimate ∷ cell 4 h.sum ∷ cell 4 h.least_count ∷ []

abbrev pub header_width : ℕ
header_width = 32

abbrev pub header_bytes : Header → List ℕ
header_bytes h = bytes_of (header_cells h)

-- the length of a page with so many rows, and the room that is asked for any page
abbrev pub end_of : ℕ → ℕ
end_of rows = header_width + rows * row_layout.width

abbrev pub least_room : ℕ
least_room = end_of 32

-- the header of a form's page with so many rows
abbrev pub header_for : pile_kind.Form → ℕ → Header
header_for x rows = record {
  rows = rows;
  columns = columns;
  first = header_width;
  end = end_of rows;
  bitmap_estimate = maps.estimate_of (maps_of x);
  least_estimate = least.estimate_of (values_of x);
  sum = sum_of (maps_of x);
  least_count = length (values_of x);
}

-- the page of a form: its header, and a row for each tenant of its sample
abbrev pub page_of : pile_kind.Form → List ℕ
page_of x = header_bytes (header_for x (length (rows_of (sample_of x)))) ++ flat_map row_layout.written (rows_of (sample_of x))

-- the page of the form that bytes are read as
abbrev pub page_by : List ℕ → List ℕ
page_by bytes = page_of (read_as pile_kind (pile_kind.decoding bytes))

-- what USAGE answers of a form, with room for so many bytes, and the bytes after it
abbrev pub usage_answer : pile_kind.Form → ℕ → Result ℕ PageFault
usage_answer x room = cond (nat_lt room least_room) (Err Room) (Ok (length (page_of x)))

abbrev pub usage_after : pile_kind.Form → List ℕ → List ℕ
usage_after x bytes = cond (nat_lt (length bytes) least_room) bytes (page_of x ++ drop (length (page_of x)) bytes)
