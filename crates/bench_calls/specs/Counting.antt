-- Readings told by their items, and the form that has counted them.
use Rattle.std.specs.Prelude.{ℕ, ◌/◌, ◌%◌, List}
use Rattle.std.specs.List.{fold}
use Rattle.readings.specs.declared.Reading.{Reading}
use Rattle.synopsis.specs.Kind.{Kind}

-- five tenants share the items, and an item uses an eighth of its number
abbrev pub reading_of : ℕ → Reading
reading_of item = record { tenant = item % 5; item = item; amount = item / 8 }

abbrev pub counted : (k : Kind) → List ℕ → k.Form
counted k items = fold (λ x item. k.join x (k.single (reading_of item))) k.none items
