-- What the page of a standard pile says, in words of its sides.
use Rattle.std.specs.Prelude.{◌≡◌, ℕ, ◌≤◌, ◌↔◌, T, List, ◌++◌, length, drop, map}
use Rattle.std.specs.List.{AllByRecursion, count_by, flat_map, sum_by}
use Rattle.runs.specs.Order.{by_size}
use Rattle.runs.specs.Runs.{rising}
use Rattle.runs.specs.Union.{Among}
use Rattle.records.specs.Records.{cut}
use Rattle.bitmaps.specs.Bitmaps as maps
use Rattle.least.specs.Least as least
use Rattle.sample.specs.declared.record.SampleRecord.{SampleRecord}
use Rattle.usage.specs.declared.header.Header.{Header}
use Rattle.usage.specs.declared.row.Row.{Row}
use Rattle.usage.specs.Rows.{row_cells, row_layout, of_tenant}
use Rattle.usage.specs.Pages.{pile_kind, maps_of, values_of, sample_of, header_bytes, least_room, page_of, page_by}

-- the tenants of some rows, and of some records
abbrev pub row_tenants : List Row → List ℕ
row_tenants rows = map (λ r. r.tenant) rows

abbrev pub sample_tenants : List SampleRecord → List ℕ
sample_tenants sample = map (λ x. x.tenant) sample

-- a row says how many records of the sample are of its tenant, and which of their amounts no other exceeds
pub record RowTells (sample : List SampleRecord) (row : Row) : Type 0 where
  pub records : row.records ≡ count_by (of_tenant row.tenant) sample
  pub reached : (x : SampleRecord) × Among x sample × (x.tenant ≡ row.tenant) × (x.amount ≡ row.greatest)
  pub greatest : (x : SampleRecord) → Among x sample → x.tenant ≡ row.tenant → x.amount ≤ row.greatest

-- tenants rise, one has a row exactly where the sample has a record of it, and all records are counted
pub record RowsTell (sample : List SampleRecord) (rows : List Row) : Type 0 where
  pub rises : T (rising by_size (row_tenants rows))
  pub present : (t : ℕ) → Among t (row_tenants rows) ↔ Among t (sample_tenants sample)
  pub each : AllByRecursion (RowTells sample) rows
  pub total : sum_by (λ r. r.records) rows ≡ length sample

-- what a header says of the value
pub record HeaderTells (x : pile_kind.Form) (header : Header) : Type 0 where
  pub bitmap_estimate : header.bitmap_estimate ≡ maps.estimate_of (maps_of x)
  pub least_estimate : header.least_estimate ≡ least.estimate_of (values_of x)
  pub sum : header.sum ≡ maps.sum_of (maps_of x)
  pub least_count : header.least_count ≡ length (values_of x)
  -- and what it counts is small enough for its fields
  pub few_rows : header.rows ≤ 32
  pub short : header.end ≤ least_room
  pub small_sum : header.sum ≤ 2048
  pub few_values : header.least_count ≤ 64

-- A page is a header and rows that agree with it, and both say what they should.
pub record PageTells (x : pile_kind.Form) (page : List ℕ) : Type 0 where
  pub header : Header
  pub rows : List Row
  pub whole : page ≡ header_bytes header ++ flat_map row_layout.written rows
  pub counted : header.rows ≡ length rows
  pub columns : (r : Row) → header.columns ≡ length (row_cells r)
  pub first : header.first ≡ length (header_bytes header)
  pub end : header.end ≡ length page
  -- the rows are read where the header says
  pub read : cut row_layout header.rows (drop header.first page) ≡ rows
  pub header_tells : HeaderTells x header
  pub rows_tell : RowsTell (sample_of x) rows
  -- no other rows say this
  pub only : (others : List Row) → RowsTell (sample_of x) others → others ≡ rows

-- every page says this
abbrev pub PagesTell : Type 0
PagesTell = (x : pile_kind.Form) → PageTells x (page_of x)

-- an encoding names the page of its form
abbrev pub NamedByEncoding : Type 0
NamedByEncoding = (x : pile_kind.Form) → page_by (pile_kind.encoding x) ≡ page_of x
