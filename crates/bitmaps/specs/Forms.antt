-- Bitmaps are a lawful kind.
use Rattle.std.specs.Prelude.{◌≡◌, ℕ, ◌+◌, ◌*◌, Bool, true, false, List, [], length, Ok, Err, Result, ◌==◌, nat_eq, refl}
use Rattle.std.proofs.Common.{sym, ap, ◌∙◌, arith}
use mathlib.Core.HLevel.{is_prop→PathP}
use Rattle.std.proofs.Math.Nat.{ℕ_set}
use Rattle.std.proofs.lemmas.Bool.{eq-eqb, false≢true, ltb-true}
use Rattle.synopsis.specs.declared.fault.DecodeFault.{DecodeFault}
use Rattle.synopsis.specs.Kind.{Laws}
use Rattle.synopsis.proofs.Reading.{read_apart, own_fault, Tells, tells_exact, tells_arises, tells_inside}
use Rattle.records.specs.Records.{Readable}
use Rattle.records.specs.RecordFrames.{frame_of, read_records}
use Rattle.records.specs.Layouts.{numbers_readable}
use Rattle.records.proofs.RecordFrames.{length_of_frame, records_back, records_tell, TellsRecords}
use Rattle.bitmaps.specs.Bitmaps.{Maps, maps_if, as_maps, or_maps, map_layout, formed, bitmaps_kind}
use Rattle.bitmaps.specs.Ors.{length_or, maps_assoc, maps_comm, maps_idem, maps_unit}

pub same_maps : (x y : Maps) → x.each ≡ y.each → x ≡ y
same_maps x y e = λ i. record {
  each = e i;
  whole = is_prop→PathP (λ j. length (e j) ≡ 64) (λ j. ℕ_set (length (e j)) 64) x.whole y.whole i;
}

if_each : (xs : List ℕ) (b : Bool) (e : nat_eq (length xs) 64 ≡ b) → b ≡ true → (maps_if xs b e).each ≡ xs
if_each xs true e t = refl
if_each xs false e t = absurd (false≢true t)

-- 64 maps are kept as they are
pub kept : (xs : List ℕ) → length xs ≡ 64 → (as_maps xs).each ≡ xs
kept xs long = if_each xs (length xs == 64) refl (eq-eqb (length xs) 64 long)

pub of_each : (x : Maps) → as_maps x.each ≡ x
of_each x = same_maps (as_maps x.each) x (kept x.each x.whole)

join_each : (x y : Maps) → (as_maps (or_maps x.each y.each)).each ≡ or_maps x.each y.each
join_each x y = kept (or_maps x.each y.each) (length_or x.each y.each (x.whole ∙ sym y.whole) ∙ x.whole)

pub map_readable : Readable map_layout
map_readable = numbers_readable 3

pub frame_long : (x : Maps) → length (frame_of 1 map_layout x.each) ≡ 260
frame_long x = length_of_frame map_layout map_readable 1 x.each ∙ ap (λ (n : ℕ). 4 + n * 4) x.whole

formed_tells : (bytes : List ℕ) (r : Result (List ℕ) DecodeFault) → TellsRecords 1 64 64 map_layout bytes r → Tells bitmaps_kind bytes (formed r)
formed_tells bytes (Err e) h = (h.0, own_fault 1 [] e.kind h.1)
formed_tells bytes (Ok xs) h = λ small. let few = h.within in let many = h.enough in ap (frame_of 1 map_layout) (kept xs (omega arith)) ∙ h.exact map_readable small

maps_tell : (bytes : List ℕ) → Tells bitmaps_kind bytes (bitmaps_kind.decoding bytes)
maps_tell bytes = formed_tells bytes (read_records 1 64 64 map_layout bytes) (records_tell 1 64 64 map_layout bytes)

maps_back : (x : Maps) → bitmaps_kind.decoding (bitmaps_kind.encoding x) ≡ Ok x
maps_back x = let n = x.whole in ap formed (records_back 1 64 64 map_layout map_readable x.each (omega arith) (omega arith)) ∙ ap Ok (of_each x)

pub bitmaps_laws : Laws bitmaps_kind
bitmaps_laws = record {
  assoc = λ x y z. ap (λ (l : List ℕ). as_maps (or_maps l z.each)) (join_each x y) ∙ ap as_maps (maps_assoc x.each y.each z.each) ∙ ap (λ (l : List ℕ). as_maps (or_maps x.each l)) (sym (join_each y z));
  comm = λ x y. ap as_maps (maps_comm x.each y.each);
  idem = λ x. ap as_maps (maps_idem x.each) ∙ of_each x;
  unit = λ x. ap as_maps (maps_unit 64 x.each x.whole) ∙ of_each x;
  bounded = omega arith;
  least = λ _ x. let n = frame_long x in omega arith;
  most = λ _ x. let n = frame_long x in omega arith;
  back = λ _ x. maps_back x;
  apart = λ _ x y. read_apart bitmaps_kind.encoding bitmaps_kind.decoding x y (maps_back x) (maps_back y);
  exact = tells_exact bitmaps_kind maps_tell;
  arises = tells_arises bitmaps_kind maps_tell;
  inside = tells_inside bitmaps_kind maps_tell;
  shut = λ o bytes. let lt = ltb-true 2048 260 o in absurd (omega arith);
}
