-- The k-union of two runs: what it is, what it means, and the laws that it keeps.
use Rattle.std.specs.Prelude.{◌≡◌, ℕ, ◌≤◌, T, ◌⊎◌, List, [], ◌∷◌, length, take}
use Rattle.std.specs.declared.cmp.Ordering.TheVariants.{Less, Equal, Greater}
use Rattle.std.specs.declared.cmp.Ordering.{Ordering}
use Rattle.std.specs.List.{AllByRecursion}
use Rattle.runs.specs.Runs.{rising, Run, as_run}

-- x stands in the list
abbrev pub Among : {E : Type 0} → E → List E → Type 0
Among x [] = ⊥
Among x (y ∷ ys) = (x ≡ y) ⊎ Among x ys

-- one of three, by an answer of the order
abbrev pub pick : {A : Type 0} → Ordering → A → A → A → A
pick Less a b c = a
pick Equal a b c = b
pick Greater a b c = c

module _ {E : Type 0} (order : E → E → Ordering) where
  -- rs holds the k least of the elements that P tells of, or all of them where there are fewer, as a run
  pub record Least (k : ℕ) (P : E → Type 0) (rs : List E) : Type 0 where
    pub rises : T (rising order rs)
    pub few : length rs ≤ k
    pub found : (x : E) → Among x rs → P x
    pub least : (x : E) → P x → Among x rs ⊎ ((length rs ≡ k) × AllByRecursion (λ r. order r x ≡ Less) rs)

  -- x is found in either list
  abbrev pub Either : List E → List E → E → Type 0
  Either xs ys x = Among x xs ⊎ Among x ys

  -- x and then xs against a list, where rest merges xs with one: the first elements left in both are compared
  abbrev pub against : E → List E → (List E → List E) → List E → List E
  against x xs rest [] = x ∷ xs
  against x xs rest (y ∷ ys) = pick (order x y) (x ∷ rest (y ∷ ys)) (x ∷ rest ys) (y ∷ against x xs rest ys)

  -- two lists, element by element, the lesser first; what stands in both is taken once
  abbrev pub merge : List E → List E → List E
  merge [] ys = ys
  merge (x ∷ xs) ys = against x xs (merge xs) ys

  -- the k-union
  abbrev pub union_of : ℕ → List E → List E → List E
  union_of k xs ys = take k (merge xs ys)

  -- the k-union as a join of runs
  abbrev pub joined_runs : (k : ℕ) → Run order k → Run order k → Run order k
  joined_runs k x y = as_run order k (union_of k x.items y.items)

  -- the k-union of runs is a join, for every k
  pub record Joins : Type 0 where
    pub means : (k : ℕ) (xs ys : List E) → T (rising order xs) → T (rising order ys) → Least k (Either xs ys) (union_of k xs ys)
    pub only : (k : ℕ) (xs ys rs : List E) → T (rising order xs) → T (rising order ys) → Least k (Either xs ys) rs → rs ≡ union_of k xs ys
    pub comm : (k : ℕ) (xs ys : List E) → T (rising order xs) → T (rising order ys) → union_of k xs ys ≡ union_of k ys xs
    pub assoc : (k : ℕ) (xs ys zs : List E) → T (rising order xs) → T (rising order ys) → T (rising order zs) → union_of k (union_of k xs ys) zs ≡ union_of k xs (union_of k ys zs)
    pub idem : (k : ℕ) (xs : List E) → T (rising order xs) → length xs ≤ k → union_of k xs xs ≡ xs
    pub unit : (k : ℕ) (xs : List E) → T (rising order xs) → length xs ≤ k → union_of k [] xs ≡ xs
