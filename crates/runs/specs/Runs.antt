-- Runs: lists in which each element is less than the next.
use Rattle.std.specs.Prelude.{◌≡◌, ℕ, suc, Bool, true, false, cond, ◌&&◌, T, List, [], ◌∷◌, length, take, drop, Some, None, Option, nat_le, refl}
use Rattle.std.specs.declared.cmp.Ordering.{Ordering}
use Rattle.std.proofs.Common.{sym, subst, zero-le}
use Rattle.std.specs.List.{list_all}
use Rattle.std.specs.Ordering.{is_lt}
use Rattle.runs.specs.declared.row.Row.{Row}
use Rattle.std.proofs.lemmas.Bool.{le-leb}

module _ {E : Type 0} (order : E → E → Ordering) where
  -- x is less than the first of the list, and the list is a run
  abbrev pub rising_from : E → List E → Bool
  rising_from x [] = true
  rising_from x (y ∷ ys) = is_lt (order x y) && rising_from y ys

  -- each element is less than the next
  abbrev pub rising : List E → Bool
  rising [] = true
  rising (x ∷ xs) = rising_from x xs

  -- where the list first fails to rise after x, if its first element has place i
  abbrev pub fall_from : E → ℕ → List E → Option ℕ
  fall_from x i [] = None
  fall_from x i (y ∷ ys) = cond (is_lt (order x y)) (fall_from y (suc i) ys) (Some i)

  -- the place of the first element that is not greater than its predecessor
  abbrev pub first_fall : List E → Option ℕ
  first_fall [] = None
  first_fall (x ∷ xs) = fall_from x 1 xs

  -- a run of at most k elements
  abbrev pub is_run : ℕ → List E → Bool
  is_run k xs = rising xs && nat_le (length xs) k

  -- the runs of at most k elements
  pub record Run (k : ℕ) : Type 0 where
    pub items : List E
    pub kept : T (is_run k items)

  -- by the answer of that test
  abbrev pub run_if : (k : ℕ) (xs : List E) (b : Bool) → is_run k xs ≡ b → Run k
  run_if k xs true e = record { items = xs; kept = subst T (sym e) tt }
  run_if k xs false e = record { items = []; kept = subst T (sym (le-leb 0 k zero-le)) tt }

  -- a list as a run of at most k elements: the empty run where it is none
  abbrev pub as_run : (k : ℕ) → List E → Run k
  as_run k xs = run_if k xs (is_run k xs) refl

  -- the check of a plain row, places of which some are counted: those are a run, and the others are unused
  abbrev pub is_run_row : (E → Bool) → ℕ → List E → Bool
  is_run_row blank count places = nat_le count (length places) && (rising (take count places) && list_all blank (drop count places))

  -- what a plain row stands for: its counted places, or nothing where it fails the check
  abbrev pub row_items : (E → Bool) → ℕ → List E → List E
  row_items blank count places = cond (is_run_row blank count places) (take count places) []

  -- what a plain row stands for, as a run of at most k elements
  abbrev pub row_form : (E → Bool) → (k : ℕ) → ℕ → List E → Run k
  row_form blank k count places = as_run k (row_items blank count places)

  -- of a row as code has it: that it passes the check, the places that it counts, and what it stands for
  abbrev pub keeps : {k : ℕ} → (E → Bool) → Row E k → Bool
  keeps blank row = is_run_row blank row.count row.places

  abbrev pub form_of : {k : ℕ} → (E → Bool) → Row E k → Run k
  form_of {k} blank row = row_form blank k row.count row.places

abbrev pub counts : {E : Type 0} {k : ℕ} → Row E k → List E
counts row = take row.count row.places
