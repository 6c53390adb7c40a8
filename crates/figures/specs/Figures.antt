-- Worked numbers, each a value of the definitions that the contracts cite.
use Rattle.std.specs.Prelude.{◌≡◌, ℕ, ◌-◌, ◌/◌, ◌^◌, true, false, List, [], ◌∷◌, length, slice_index}
use Rattle.readings.specs.declared.Reading.{Reading}
use Rattle.readings.specs.Readings.{mixed, mark_of}
use Rattle.runs.specs.Order.{by_size}
use Rattle.runs.specs.Union.{union_of}
use Rattle.least.specs.Least.{least_kind, estimate_of}
use Rattle.synopsis.specs.Kind.{Kind, overlong}
use Rattle.bitmaps.specs.Bitmaps.{bitmaps_kind, lowest_zero, eighth_root, none_set, sum_of}
use Rattle.bitmaps.specs.Bitmaps as bitmaps
use Rattle.sample.specs.Sample.{sample_kind}
use Rattle.layers.specs.Pairs.{pair_kind}
use Rattle.usage.specs.Pages.{page_of}

-- a reading of client 0
abbrev pub of_client_0 : Reading
of_client_0 = record { tenant = 7; item = 0; amount = 500 }

-- the standard pile, and four samples in three pairs
abbrev pub standard_pile : Kind
standard_pile = pair_kind bitmaps_kind (pair_kind least_kind sample_kind)

abbrev pub four_samples : Kind
four_samples = pair_kind (pair_kind sample_kind sample_kind) (pair_kind sample_kind sample_kind)

pub record Figures : Type 0 where
  pub hash_of_0 : mixed 0 ≡ 0xE220A8397B1DCDAF
  pub mark_of_that : mark_of 0xE220A8397B1DCDAF ≡ (47, 1)
  pub mark_of_0 : mark_of 0 ≡ (0, 31)
  pub two_least : union_of by_size 2 (1 ∷ 3 ∷ []) (2 ∷ 3 ∷ []) ≡ 1 ∷ 2 ∷ []
  pub empty_frame : least_kind.encoding least_kind.none ≡ 0x02 ∷ 0x00 ∷ 0x00 ∷ 0x04 ∷ []
  pub one_reading : least_kind.encoding (least_kind.single of_client_0) ≡ 0x02 ∷ 0x01 ∷ 0x00 ∷ 0x0C ∷ 0xE2 ∷ 0x20 ∷ 0xA8 ∷ 0x39 ∷ 0x7B ∷ 0x1D ∷ 0xCD ∷ 0xAF ∷ []
  pub empty_pair : (pair_kind least_kind least_kind).encoding (pair_kind least_kind least_kind).none ≡ 0x05 ∷ 0x02 ∷ 0x00 ∷ 0x0E ∷ 0x00 ∷ 0x0A ∷ 0x02 ∷ 0x00 ∷ 0x00 ∷ 0x04 ∷ 0x02 ∷ 0x00 ∷ 0x00 ∷ 0x04 ∷ []
  pub full_run : (values : List ℕ) → length values ≡ 64 → slice_index values 63 / 2 ^ 32 ≡ 0x7FFFFFFF → estimate_of values ≡ 126
  pub one_record : sample_kind.encoding (sample_kind.single of_client_0) ≡ 0x03 ∷ 0x01 ∷ 0x00 ∷ 0x18 ∷ 0x00 ∷ 0x00 ∷ 0x00 ∷ 0x00 ∷ 0x00 ∷ 0x00 ∷ 0x00 ∷ 0x00 ∷ 0x00 ∷ 0x00 ∷ 0x00 ∷ 0x07 ∷ 0x00 ∷ 0x00 ∷ 0x00 ∷ 0x00 ∷ 0x00 ∷ 0x00 ∷ 0x01 ∷ 0xF4 ∷ []
  pub lowest_zeros : (lowest_zero 0 ≡ 0) × (lowest_zero 7 ≡ 3) × (lowest_zero (2 ^ 32 - 1) ≡ 32)
  pub roots : (eighth_root 0 ≡ 64) × (eighth_root 3 ≡ 82) × (eighth_root 7 ≡ 117)
  pub sum_of_one : (maps : List ℕ) → none_set maps ≡ false → sum_of maps ≡ 1 → bitmaps.estimate_of maps ≡ 82
  pub pile_greatest : standard_pile.greatest ≡ 1432
  pub page_of_one : page_of (standard_pile.single of_client_0) ≡ 0x00 ∷ 0x01 ∷ 0x00 ∷ 0x03 ∷ 0x00 ∷ 0x20 ∷ 0x00 ∷ 0x2E ∷ 0x00 ∷ 0x00 ∷ 0x00 ∷ 0x00 ∷ 0x00 ∷ 0x00 ∷ 0x00 ∷ 0x52 ∷ 0x00 ∷ 0x00 ∷ 0x00 ∷ 0x00 ∷ 0x00 ∷ 0x00 ∷ 0x00 ∷ 0x01 ∷ 0x00 ∷ 0x00 ∷ 0x00 ∷ 0x00 ∷ 0x00 ∷ 0x00 ∷ 0x00 ∷ 0x01 ∷ 0x00 ∷ 0x00 ∷ 0x00 ∷ 0x07 ∷ 0x00 ∷ 0x01 ∷ 0x00 ∷ 0x00 ∷ 0x00 ∷ 0x00 ∷ 0x00 ∷ 0x00 ∷ 0x01 ∷ 0xF4 ∷ []
  pub four_overlong : overlong four_samples ≡ true
