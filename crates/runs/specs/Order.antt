-- Ordered elements: what an order is, which laws it keeps, and the order by a key.
use Rattle.std.specs.Prelude.{◌≡◌, ℕ, List, [], ◌∷◌}
use Rattle.std.specs.declared.cmp.Ordering.TheVariants.{Less, Equal, Greater}
use Rattle.std.specs.declared.cmp.Ordering.{Ordering}
use Rattle.std.specs.Ordering.{nat_cmp, ordering_then, ordering_reverse}

-- an order answers exactly one of less, same and greater, the other way round where the two elements are exchanged; these
-- laws hold of it
pub record Lawful {E : Type 0} (order : E → E → Ordering) : Type 0 where
  pub same : (x y : E) → order x y ≡ Equal → x ≡ y
  pub turns : (x y : E) → order y x ≡ ordering_reverse (order x y)
  pub trans : (x y z : E) → order x y ≡ Less → order y z ≡ Less → order x z ≡ Less

-- the order of two numbers, and what decides where they are equal
abbrev pub ranked : ℕ → ℕ → Ordering → Ordering
ranked m n rest = ordering_then (nat_cmp m n) rest

-- the order of two keys, number by number
abbrev pub by_key : List ℕ → List ℕ → Ordering
by_key [] [] = Equal
by_key [] (n ∷ ns) = Less
by_key (m ∷ ms) [] = Greater
by_key (m ∷ ms) (n ∷ ns) = ranked m n (by_key ms ns)

-- numbers, ordered by size
abbrev pub by_size : ℕ → ℕ → Ordering
by_size = nat_cmp
