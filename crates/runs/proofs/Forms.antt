-- Runs as forms: a list that is a run is kept whole, equal items are equal runs, and the union joins runs.
use Rattle.std.proofs.Common.{◌≡◌, ℕ, suc, ◌+◌, ◌<◌, ◌≤◌, Bool, true, false, cond, ◌&&◌, T, leb, List, [], ◌∷◌, length, Some, None, Option, Ordering, sym, refl, ap, ◌∙◌, arith}
use mathlib.Core.HLevel.{is_prop→PathP}
use lib.Dec.{T_prop}
use Rattle.std.specs.Ordering.{is_lt}
use Rattle.std.proofs.lemmas.Bool.{le-leb, leb-true}
use Rattle.runs.specs.Order.{Lawful}
use Rattle.runs.specs.Runs.{rising, rising_from, fall_from, first_fall, is_run, Run, as_run, run_if}
use Rattle.runs.specs.Union.{union_of, joined_runs, Joins}
use Rattle.runs.proofs.Rising.{both, left, right, true_from, holds_from}
use Rattle.runs.proofs.Unions.{joins}

module _ {E : Type 0} (order : E → E → Ordering) where
  -- no fall, and only then, in a run
  no_fall_from : (x : E) (i : ℕ) (xs : List E) → T (rising_from order x xs) → fall_from order x i xs ≡ None
  no_fall_from x i [] h = refl
  no_fall_from x i (y ∷ ys) h =
      let e = true_from (is_lt (order x y)) (left (is_lt (order x y)) (rising_from order y ys) h) in
      ap (λ (b : Bool). cond b (fall_from order y (suc i) ys) (Some i)) e ∙ no_fall_from y (suc i) ys (right (is_lt (order x y)) (rising_from order y ys) h)

  pub no_fall : (xs : List E) → T (rising order xs) → first_fall order xs ≡ None
  no_fall [] h = refl
  no_fall (x ∷ xs) h = no_fall_from x 1 xs h

  rising_when : (b : Bool) (i : ℕ) (rest : Option ℕ) (r : Bool) → (rest ≡ None → T r) → cond b rest (Some i) ≡ None → T (b && r)
  rising_when true i rest r ih e = ih e
  rising_when false i rest r ih e = let z : ◌≡◌ {A = ℕ} 0 1 = cc in absurd (omega arith)

  rising_if_none_from : (x : E) (i : ℕ) (xs : List E) → fall_from order x i xs ≡ None → T (rising_from order x xs)
  rising_if_none_from x i [] e = tt
  rising_if_none_from x i (y ∷ ys) e = rising_when (is_lt (order x y)) i (fall_from order y (suc i) ys) (rising_from order y ys) (rising_if_none_from y (suc i) ys) e

  pub rising_if_none : (xs : List E) → first_fall order xs ≡ None → T (rising order xs)
  rising_if_none [] e = tt
  rising_if_none (x ∷ xs) e = rising_if_none_from x 1 xs e

  -- a fall lies within the list
  fall_when : (b : Bool) (i j n : ℕ) (rest : Option ℕ) → (rest ≡ Some j → j < n) → i < n → cond b rest (Some i) ≡ Some j → j < n
  fall_when true i j n rest ih lt e = ih e
  fall_when false i j n rest ih lt e = let z : i ≡ j = cc in omega arith

  fall_inside_from : (x : E) (i : ℕ) (xs : List E) (j : ℕ) → fall_from order x i xs ≡ Some j → j < i + length xs
  fall_inside_from x i [] j e = let z : ◌≡◌ {A = ℕ} 0 1 = cc in absurd (omega arith)
  fall_inside_from x i (y ∷ ys) j e =
      fall_when (is_lt (order x y)) i j (i + suc (length ys)) (fall_from order y (suc i) ys) (λ f. let lt = fall_inside_from y (suc i) ys j f in omega arith) (omega arith) e

  pub fall_inside : (xs : List E) (j : ℕ) → first_fall order xs ≡ Some j → j < length xs
  fall_inside [] j e = let z : ◌≡◌ {A = ℕ} 0 1 = cc in absurd (omega arith)
  fall_inside (x ∷ xs) j e = let lt = fall_inside_from x 1 xs j e in omega arith

  module _ (k : ℕ) where
    pub same_run : (x y : Run order k) → x.items ≡ y.items → x ≡ y
    same_run x y e = λ i. record {
      items = e i;
      kept = is_prop→PathP (λ j. T (is_run order k (e j))) (λ j. T_prop (is_run order k (e j))) x.kept y.kept i;
    }

    run_if_items : (xs : List E) (b : Bool) (e : is_run order k xs ≡ b) → T b → (run_if order k xs b e).items ≡ xs
    run_if_items xs true e t = refl
    run_if_items xs false e t = absurd t

    pub run_items : (xs : List E) → T (is_run order k xs) → (as_run order k xs).items ≡ xs
    run_items xs t = run_if_items xs (is_run order k xs) refl t

    pub make_run : (xs : List E) → T (rising order xs) → length xs ≤ k → T (is_run order k xs)
    make_run xs h le = both (rising order xs) (leb (length xs) k) h (holds_from (leb (length xs) k) (le-leb (length xs) k le))

    pub run_rises : (x : Run order k) → T (rising order x.items)
    run_rises x = left (rising order x.items) (leb (length x.items) k) x.kept

    pub run_few : (x : Run order k) → length x.items ≤ k
    run_few x = leb-true (length x.items) k (true_from (leb (length x.items) k) (right (rising order x.items) (leb (length x.items) k) x.kept))

    pub of_items : (x : Run order k) → as_run order k x.items ≡ x
    of_items x = same_run (as_run order k x.items) x (run_items x.items x.kept)

  -- the join of runs
  module _ (laws : Lawful order) (k : ℕ) where
    all : Joins order
    all = joins order laws

    pub union_run : (xs ys : List E) → T (rising order xs) → T (rising order ys) → T (is_run order k (union_of order k xs ys))
    union_run xs ys hx hy =
        let l = all.means k xs ys hx hy in
        make_run k (union_of order k xs ys) l.rises l.few

    pub joined_items : (x y : Run order k) → (joined_runs order k x y).items ≡ union_of order k x.items y.items
    joined_items x y = run_items k (union_of order k x.items y.items) (union_run x.items y.items (run_rises k x) (run_rises k y))

    pub join_comm : (x y : Run order k) → joined_runs order k x y ≡ joined_runs order k y x
    join_comm x y = ap (as_run order k) (all.comm k x.items y.items (run_rises k x) (run_rises k y))

    pub join_assoc : (x y z : Run order k) → joined_runs order k (joined_runs order k x y) z ≡ joined_runs order k x (joined_runs order k y z)
    join_assoc x y z =
        ap (as_run order k)
        (ap (λ (l : List E). union_of order k l z.items) (joined_items x y)
        ∙ all.assoc k x.items y.items z.items (run_rises k x) (run_rises k y) (run_rises k z)
        ∙ ap (λ (l : List E). union_of order k x.items l) (sym (joined_items y z)))

    pub join_idem : (x : Run order k) → joined_runs order k x x ≡ x
    join_idem x = ap (as_run order k) (all.idem k x.items (run_rises k x) (run_few k x)) ∙ of_items k x

    pub join_unit : (x : Run order k) → joined_runs order k (as_run order k []) x ≡ x
    join_unit x =
        ap (λ (l : List E). as_run order k (union_of order k l x.items)) (run_items k [] (make_run k [] tt (omega arith)))
        ∙ ap (as_run order k) (all.unit k x.items (run_rises k x) (run_few k x))
        ∙ of_items k x
