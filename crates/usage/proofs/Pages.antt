-- The parts of a page, one behind the other.
use Rattle.std.proofs.Common.{◌≡◌, ℕ, suc, ◌+◌, ◌-◌, ◌<◌, ◌≤◌, List, ◌++◌, length, take, drop, All, Ok, Err, sym, ap, ◌∙◌, length-append, length-drop, length-take-le, append-nil, arith}
use borrow.Rule.Slice.PartMut.{put_mid}
use Rattle.std.specs.List.{flat_map}
use Rattle.std.proofs.lemmas.Bool.{cond-false, le-ltb}
use Rattle.std.proofs.lemmas.List.{length-map, take-append-drop, drop-drop}
use Rattle.std.proofs.lemmas.List.Elements.{All-take, All-drop}
use Rattle.std.proofs.lemmas.List.Folds.{flat_map-map}
use Rattle.frames.proofs.Fronts.{next_written}
use Rattle.frames.specs.Numbers.{in_bytes, from_bytes}
use Rattle.frames.proofs.Numbers.{from_in_bytes}
use Rattle.records.specs.Layouts.{numbers_readable}
use Rattle.records.specs.Records.{Readable}
use Rattle.records.proofs.RecordFrames.{length_joined}
use Rattle.sample.specs.declared.record.SampleRecord.{SampleRecord}
use Rattle.usage.specs.declared.fault.PageFault.TheVariants.{Room}
use Rattle.usage.specs.declared.header.Header.{Header}
use Rattle.usage.specs.Rows.{row_cells, row_layout, row_of, tenants_of, rows_of}
use Rattle.usage.specs.Pages.{pile_kind, sample_of, header_cells, header_width, header_bytes, header_for, end_of, least_room, page_of, usage_answer, usage_after}
use Rattle.usage.proofs.Cells.{length_bytes}

-- a number at the front of some bytes is written as these
number_whole : (w : ℕ) (bytes : List ℕ) → suc w ≤ length bytes → All (λ b. b < 256) bytes → in_bytes (suc w) (from_bytes (take (suc w) bytes)) ++ drop (suc w) bytes ≡ bytes
number_whole w bytes le small =
    ap (λ (l : List ℕ). l ++ drop (suc w) bytes) ((numbers_readable w).whole (take (suc w) bytes) (length-take-le (suc w) bytes le) (All-take (λ b. b < 256) (suc w) bytes small))
    ∙ take-append-drop (suc w) bytes

pub row_readable : Readable row_layout
row_readable = record {
  sized = λ r. length_bytes (row_cells r);
  back = λ r. λ i. record { tenant = from_in_bytes 3 r.tenant i; records = from_in_bytes 1 r.records i; greatest = from_in_bytes 7 r.greatest i };
  whole = λ bytes long small.
      let tenant = in_bytes 4 (from_bytes (take 4 bytes)) in
      let records = in_bytes 2 (from_bytes (take 2 (drop 4 bytes))) in
      let greatest = (numbers_readable 7).whole (drop 6 bytes) (simp length-drop (omega arith)) (All-drop (λ b. b < 256) 6 bytes small) in
      ap (λ (l : List ℕ). tenant ++ (records ++ l)) (append-nil (in_bytes 8 (from_bytes (drop 6 bytes))) ∙ greatest ∙ sym (drop-drop 2 4 bytes))
      ∙ ap (λ (l : List ℕ). tenant ++ l) (number_whole 1 (drop 4 bytes) (simp length-drop (omega arith)) (All-drop (λ b. b < 256) 4 bytes small))
      ∙ number_whole 3 bytes (omega arith) small;
}

pub header_long : (h : Header) → length (header_bytes h) ≡ header_width
header_long h = length_bytes (header_cells h)

-- as many rows as tenants
pub rows_long : (xs : List SampleRecord) → length (rows_of xs) ≡ length (tenants_of xs)
rows_long xs = length-map {A = ℕ} (tenants_of xs) (row_of xs)

pub page_long : (x : pile_kind.Form) → length (page_of x) ≡ end_of (length (rows_of (sample_of x)))
page_long x =
    let rows = rows_of (sample_of x) in
    let header = header_for x (length rows) in
    length-append (header_bytes header) (flat_map row_layout.written rows)
    ∙ ap (λ (n : ℕ). n + length (flat_map row_layout.written rows)) (header_long header)
    ∙ ap (λ (n : ℕ). header_width + n) (length_joined row_layout row_readable rows)

-- the end of the rows is that of the page
pub page_ends : (x : pile_kind.Form) (room end n : ℕ) → n ≡ length (tenants_of (sample_of x)) → end ≡ end_of n → least_room ≤ room → Ok end ≡ usage_answer x room
page_ends x room end n e f le =
    let same : n ≡ length (rows_of (sample_of x)) = e ∙ sym (rows_long (sample_of x)) in
    ap Ok (f ∙ ap end_of same ∙ sym (page_long x)) ∙ sym (cond-false _ (Err Room) (Ok (length (page_of x))) (le-ltb room least_room le))

-- a header and the rows behind it, over the front of some bytes
pub page_written : (x : pile_kind.Form) (out head body : List ℕ) (end n : ℕ) → n ≡ length (tenants_of (sample_of x)) → end ≡ end_of n → least_room ≤ length out → head ≡ header_bytes (header_for x n) → body ≡ flat_map (λ t. row_layout.written (row_of (sample_of x) t)) (tenants_of (sample_of x))
    → put_mid header_width (end - header_width) (head ++ drop header_width out) body ≡ usage_after x out
page_written x out head body end n e f room p q =
    let xs = sample_of x in
    let same : n ≡ length (rows_of xs) = e ∙ sym (rows_long xs) in
    let wide : length head ≡ header_width = ap length p ∙ header_long (header_for x n) in
    let rows : body ≡ flat_map row_layout.written (rows_of xs) = q ∙ sym (flat_map-map row_layout.written (row_of xs) (tenants_of xs)) in
    let long = page_long x in
    next_written head out header_width end wide (omega arith) body
    ∙ ap (λ (l : List ℕ). (l ++ body) ++ drop end out) (p ∙ ap (λ (k : ℕ). header_bytes (header_for x k)) same)
    ∙ ap (λ (l : List ℕ). (header_bytes (header_for x (length (rows_of xs))) ++ l) ++ drop end out) rows
    ∙ ap (λ (k : ℕ). page_of x ++ drop k out) (f ∙ ap end_of same ∙ sym long)
    ∙ sym (cond-false _ out (page_of x ++ drop (length (page_of x)) out) (le-ltb (length out) least_room room))
