-- The kinds by number, and what ENCODE answers as a number.
use Rattle.std.specs.Prelude.{ℕ, ◌==◌, cond, Ok, Err, Result}
use Rattle.synopsis.specs.declared.fault.EncodeFault.{EncodeFault}
use Rattle.synopsis.specs.Kind.{Kind}
use Rattle.bitmaps.specs.Bitmaps.{bitmaps_kind}
use Rattle.least.specs.Least.{least_kind}
use Rattle.sample.specs.Sample.{sample_kind}
use Rattle.usage.specs.Pages.{pile_kind}

-- 1 bitmaps, 2 least values, 3 the sample, any other number the standard pile
abbrev pub by_kind : {A : Type 0} → (Kind → A) → ℕ → A
by_kind f number =
    cond (number == 1) (f bitmaps_kind)
    (cond (number == 2) (f least_kind)
    (cond (number == 3) (f sample_kind)
    (f pile_kind)))

-- the length of what was written, 0 where nothing was
abbrev pub written : Result ℕ EncodeFault → ℕ
written (Ok n) = n
written (Err e) = 0
