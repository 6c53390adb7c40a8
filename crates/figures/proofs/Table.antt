-- The table, computed.
use Rattle.std.proofs.Common.{◌≡◌, ℕ, ◌+◌, ◌*◌, ◌/◌, ◌^◌, false, ltb, List, length, get_or, refl, ap, ◌∙◌, arith}
use lib.Count.{count_trailing_zeros}
use Rattle.std.proofs.lemmas.Bool.{cond-false, le-ltb}
use Rattle.least.specs.Least.{estimate_of}
use Rattle.bitmaps.specs.Bitmaps.{none_set, sum_of, scaled, root_within}
use Rattle.bitmaps.specs.Bitmaps as bitmaps
use Rattle.figures.specs.Figures.{Figures}

full : (values : List ℕ) → length values ≡ 64 → get_or values 63 0 / 2 ^ 32 ≡ 0x7FFFFFFF → estimate_of values ≡ 126
full values long upper =
    cond-false (ltb (length values) 64) _ _ (le-ltb (length values) 64 (omega arith)) ∙ ap (λ (u : ℕ). 63 * 2 ^ 32 / (u + 1)) upper

of_one : (maps : List ℕ) → none_set maps ≡ false → sum_of maps ≡ 1 → bitmaps.estimate_of maps ≡ 82
unfolding root_within
of_one maps some one = cond-false (none_set maps) _ _ some ∙ ap scaled one

pub table : Figures
unfolding count_trailing_zeros root_within
table = record {
  hash_of_0 = refl;
  mark_of_that = refl;
  mark_of_0 = refl;
  two_least = refl;
  empty_frame = refl;
  one_reading = refl;
  empty_pair = refl;
  full_run = full;
  one_record = refl;
  lowest_zeros = (refl, refl, refl);
  roots = (refl, refl, refl);
  sum_of_one = of_one;
  pile_greatest = refl;
  page_of_one = refl;
  four_overlong = refl;
}
