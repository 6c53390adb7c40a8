-- Every page says what it should, and an encoding names the page of its form.
use Rattle.std.proofs.Common.{◌≤◌, [], length, Result, sym, refl, ap, ◌∙◌, arith}
use Rattle.std.specs.List.{flat_map}
use Rattle.std.proofs.lemmas.List.{drop_at}
use Rattle.runs.specs.Order.{by_size}
use Rattle.runs.proofs.Forms.{run_few}
use Rattle.synopsis.specs.declared.fault.DecodeFault.{DecodeFault}
use Rattle.synopsis.specs.Kind.{Laws}
use Rattle.records.specs.Records.{cut}
use Rattle.records.proofs.RecordFrames.{cut_joined}
use Rattle.histories.specs.Folds.{read_as}
use Rattle.layers.specs.Pairs.{pair_kind}
use Rattle.layers.specs.PairsLemmas.{pair_laws}
use Rattle.bitmaps.specs.Bitmaps.{bitmaps_kind}
use Rattle.bitmaps.specs.Forms.{bitmaps_laws}
use Rattle.bitmaps.proofs.LowestZeros.{sum_small}
use Rattle.least.specs.Least.{least_kind}
use Rattle.least.specs.Forms.{least_laws}
use Rattle.sample.specs.Records.{by_hash}
use Rattle.sample.specs.Sample.{sample_kind}
use Rattle.sample.specs.Forms.{sample_laws}
use Rattle.usage.specs.Rows.{row_layout, rows_of}
use Rattle.usage.specs.Pages.{pile_kind, sample_of, header_for, header_width, header_bytes, page_of}
use Rattle.usage.specs.Meaning.{HeaderTells, PagesTell, NamedByEncoding}
use Rattle.usage.proofs.Pages.{row_readable, header_long, rows_long, page_long}
use Rattle.usage.proofs.Totals.{after_few}
use Rattle.usage.proofs.Rows.{rows_tell, only_rows}

rows_few : (x : pile_kind.Form) → length (rows_of (sample_of x)) ≤ 32
rows_few x =
    let few = run_few by_hash 32 x.1.1 in
    let ts = after_few [] (sample_of x) in
    let same = rows_long (sample_of x) in
    omega arith

header_tells : (x : pile_kind.Form) → HeaderTells x (header_for x (length (rows_of (sample_of x))))
header_tells x =
    let few = rows_few x in
    record {
      bitmap_estimate = refl;
      least_estimate = refl;
      sum = refl;
      least_count = refl;
      few_rows = few;
      short = omega arith;
      small_sum = sum_small x.0;
      few_values = run_few by_size 64 x.1.0;
    }

pub page_tells : PagesTell
page_tells x =
    let rows = rows_of (sample_of x) in
    let header = header_for x (length rows) in
    let body = flat_map row_layout.written rows in
    record {
      header = header;
      rows = rows;
      whole = refl;
      counted = refl;
      columns = λ r. refl;
      first = sym (header_long header);
      end = sym (page_long x);
      read = ap (cut row_layout (length rows)) (drop_at (header_bytes header) body header_width (header_long header)) ∙ cut_joined row_layout row_readable rows;
      header_tells = header_tells x;
      rows_tell = rows_tell (sample_of x);
      only = λ others h. only_rows (sample_of x) others rows h (rows_tell (sample_of x));
    }

pile_laws : Laws pile_kind
pile_laws = pair_laws bitmaps_kind (pair_kind least_kind sample_kind) bitmaps_laws (pair_laws least_kind sample_kind least_laws sample_laws)

pub named_by_encoding : NamedByEncoding
named_by_encoding x = ap (λ (r : Result pile_kind.Form DecodeFault). page_of (read_as pile_kind r)) (pile_laws.back refl x)
