use Rattle.std.proofs.Common.{◌≡◌, ℕ, ◌≤◌, List, length, ap, ◌∙◌, rules}
use Rattle.std.specs.List.{flat_map}
use Rattle.sample.specs.declared.record.SampleRecord.{SampleRecord}
use Rattle.usage.specs.declared.header.Header.{Header}
use Rattle.usage.specs.Rows.{row_of, tenants_of, row_layout}
use Rattle.usage.specs.Pages.{pile_form, sample_of, header_for, header_bytes, end_of, least_room}
use Rattle.usage.proofs.Pages.{page_ends, page_written}
use Rattle.usage.proofs.Meaning.{page_tells, named_by_encoding}
use Rattle.usage.proofs.page.usage.Goals as goal

pub returns : goal.returns
returns c =
    let x = pile_form c.args.value.now in
    let out = c.args.out.now in
    let end = c.from-end.result in
    let n = c.len.result in
    let room : least_room ≤ length out = c.if-out-lt-LEAST_ROOM.false in
    let sample : c.items-sample.result.now ≡ sample_of x = c.items-sample.ensures in
    let found : c.tenants_of-tenants.result.items ≡ tenants_of (sample_of x) = c.tenants_of-tenants.ensures ∙ ap tenants_of sample in
    let counted : n ≡ length (tenants_of (sample_of x)) = c.len.ensures.value ∙ ap (λ (l : List ℕ). length l) found in
    let ended : end ≡ end_of n = c.from-end.ensures ∙ ap (λ (h : Header). h.end) c.of-header.ensures in
    let tenants : c.deref.result.now ≡ tenants_of (sample_of x) = let e : c.deref.result.now ≡ c.tenants_of-tenants.result.items = search rules in e ∙ found in
    let head : c.put.new.out ≡ header_bytes (header_for x n) = c.put.ensures ∙ ap header_bytes c.of-header.ensures in
    let body : c.put_rows.new.out ≡ flat_map (λ t. row_layout.written (row_of (sample_of x) t)) (tenants_of (sample_of x)) =
    c.put_rows.ensures
    ∙ ap (λ (s : List SampleRecord). flat_map (λ t. row_layout.written (row_of s t)) c.deref.result.now) sample
    ∙ ap (λ (l : List ℕ). flat_map (λ t. row_layout.written (row_of (sample_of x) t)) l) tenants in
    record {
      answer = page_ends x (length out) end n counted ended room;
      after = page_written x out c.put.new.out c.put_rows.new.out end n counted ended room head body;
      tells = page_tells;
      named = named_by_encoding;
    }

pub returns-then-out-lt-LEAST_ROOM-clause-tells : goal.returns-then-out-lt-LEAST_ROOM-clause-tells
returns-then-out-lt-LEAST_ROOM-clause-tells c = page_tells

pub returns-then-out-lt-LEAST_ROOM-clause-named : goal.returns-then-out-lt-LEAST_ROOM-clause-named
returns-then-out-lt-LEAST_ROOM-clause-named c = named_by_encoding
