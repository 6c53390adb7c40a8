-- Plain rows: what passes the check is a run.
use Rattle.std.proofs.Common.{◌≡◌, ℕ, zero, suc, ◌-◌, ◌<◌, ◌≤◌, Bool, true, false, cond, not, ◌&&◌, T, leb, ltb, List, [], ◌∷◌, length, take, drop, set, replicate, is_some, Some, None, Option, Ordering, sym, refl, ap, ◌∙◌, subst, arith}
use mathlib.Core.Bool.{true≢false}
use borrow.Author.Tests.{lt-ltb}
use Rattle.std.specs.List.{list_all, IsSplitAt}
use Rattle.std.proofs.lemmas.List.{length-take, drop-replicate}
use Rattle.std.proofs.lemmas.Bool.{le-leb, and_left, and_right, cond-true, cond-false}
use Rattle.runs.specs.Runs.{rising, first_fall, is_run, Run, as_run, is_run_row, row_items, row_form}
use Rattle.runs.specs.Union.{union_of, joined_runs}
use Rattle.runs.proofs.Rising.{both, left, right, true_from, holds_from}
use Rattle.runs.proofs.Forms.{no_fall, rising_if_none, make_run, run_items, same_run}

-- a list rises exactly where it has no fall
pub rising_is : {E : Type 0} (order : E → E → Ordering) (xs : List E) → rising order xs ≡ not (is_some (first_fall order xs))
rising_is order xs = by (first_fall order xs) refl (rising order xs) refl
  where
    clash : (i : ℕ) → Some i ≡ None → ⊥
    clash i e = let z : ◌≡◌ {A = ℕ} 0 1 = cc in omega arith

    by : (o : Option ℕ) → first_fall order xs ≡ o → (b : Bool) → rising order xs ≡ b → b ≡ not (is_some o)
    by None e true r = refl
    by None e false r = absurd (subst T r (rising_if_none order xs e))
    by (Some i) e true r = absurd (clash i (sym e ∙ no_fall order xs (holds_from (rising order xs) r)))
    by (Some i) e false r = refl

module _ {E : Type 0} (order : E → E → Ordering) (blank : E → Bool) (count : ℕ) (places : List E) where
  -- the two parts of a row that is long enough
  module _ (front rest : List E) (cut : IsSplitAt places count front rest) where
    rises : (b : Bool) → is_some (first_fall order front) ≡ b → rising order (take count places) ≡ not b
    rises b e = ap (rising order) (sym cut.1) ∙ rising_is order front ∙ ap not e

    pub row_falls : is_some (first_fall order front) ≡ true → false ≡ is_run_row order blank count places
    row_falls e =
        sym (and_right (leb count (length places)) _ (and_left (rising order (take count places)) _ (rises true e)))

    pub row_rests : is_some (first_fall order front) ≡ false → (r : Bool) → r ≡ list_all blank rest → r ≡ is_run_row order blank count places
    row_rests e r q =
        let g : leb count (length places) ≡ true = le-leb count (length places) cut.0 in
        q ∙ ap (list_all blank) cut.2
        ∙ sym (ap (λ (b : Bool). b && (rising order (take count places) && list_all blank (drop count places))) g ∙ ap (λ (b : Bool). b && list_all blank (drop count places)) (rises false e))

    -- whether it is kept, by the two
    row_split : is_run_row order blank count places ≡ (rising order front && list_all blank rest)
    row_split =
        let g : leb count (length places) ≡ true = le-leb count (length places) cut.0 in
        ap (λ (b : Bool). b && (rising order (take count places) && list_all blank (drop count places))) g
        ∙ ap (λ (l : List E). rising order l && list_all blank (drop count places)) (sym cut.1)
        ∙ ap (λ (l : List E). rising order front && list_all blank l) (sym cut.2)

    pub split_none : (rising order front && list_all blank rest) ≡ false → [] ≡ row_items order blank count places
    split_none e = sym (cond-false (is_run_row order blank count places) (take count places) [] (row_split ∙ e))

  -- what a row stands for is a run of at most so many elements as it has places
  pub row_is_run : T (is_run order (length places) (row_items order blank count places))
  row_is_run = by (is_run_row order blank count places) refl
    where
      by : (b : Bool) → is_run_row order blank count places ≡ b → T (is_run order (length places) (cond b (take count places) []))
      by true e =
          let t = holds_from (is_run_row order blank count places) e in
          let rest = right (leb count (length places)) _ t in
          make_run order (length places) (take count places) (left (rising order (take count places)) _ rest) (simp length-take (omega arith))
      by false e = make_run order (length places) [] tt (omega arith)

  pub row_counted : T (is_run_row order blank count places) → row_items order blank count places ≡ take count places
  row_counted t = cond-true (is_run_row order blank count places) (take count places) [] (true_from (is_run_row order blank count places) t)

  pub make_row : count ≤ length places → T (rising order (take count places)) → T (list_all blank (drop count places)) → T (is_run_row order blank count places)
  make_row le up rest = both (leb count (length places)) _ (holds_from (leb count (length places)) (le-leb count (length places) le)) (both (rising order (take count places)) _ up rest)

-- fresh places are unused
module _ {E : Type 0} (blank : E → Bool) (x : E) (unused : T (blank x)) where
  all_fresh : (n : ℕ) → T (list_all blank (replicate n x))
  all_fresh zero = tt
  all_fresh (suc n) = both (blank x) _ unused (all_fresh n)

  pub rest_fresh : (m n : ℕ) → T (list_all blank (drop m (replicate n x)))
  rest_fresh m n = rw drop-replicate (all_fresh (n - m))

-- a row that counts nothing stands for the empty run
pub empty_form : {E : Type 0} (order : E → E → Ordering) (blank : E → Bool) (k : ℕ) (places : List E) → row_form order blank k 0 places ≡ as_run order k []
empty_form order blank k places = ap (as_run order k) (by (is_run_row order blank 0 places))
  where
    by : (b : Bool) → cond b (take 0 places) [] ≡ []
    by true = refl
    by false = refl

module _ {E : Type 0} (order : E → E → Ordering) (blank : E → Bool) (k count : ℕ) (places : List E) where
  -- a row with k places stands for all that it counts, or for nothing
  module _ (long : length places ≡ k) where
    pub form_items : (row_form order blank k count places).items ≡ row_items order blank count places
    form_items =
        let items = row_items order blank count places in
        run_items order k items (subst (λ (n : ℕ). T (is_run order n items)) long (row_is_run order blank count places))

    pub kept_items : T (is_run_row order blank count places) → (row_form order blank k count places).items ≡ take count places
    kept_items t = form_items ∙ row_counted order blank count places t

    pub unkept_items : is_run_row order blank count places ≡ false → [] ≡ (row_form order blank k count places).items
    unkept_items e = sym (form_items ∙ cond-false (is_run_row order blank count places) (take count places) [] e)

    -- a row is kept that counts a rising front and whose rest is fresh
    pub fresh_row : (x : E) → T (blank x) → count ≤ k → T (rising order (take count places)) → drop count places ≡ drop count (replicate k x) → T (is_run_row order blank count places)
    fresh_row x unused le up rest =
        make_row order blank count places (omega arith) up (subst (λ (l : List E). T (list_all blank l)) (sym rest) (rest_fresh blank x unused count k))

  -- a kept row stands for what it counts
  pub kept_form : T (is_run_row order blank count places) → row_form order blank k count places ≡ as_run order k (take count places)
  kept_form t = ap (as_run order k) (row_counted order blank count places t)

  -- a kept row that counts the union of two runs stands for their join
  pub joined_form : T (is_run_row order blank count places) → (x y : Run order k) (xs ys : List E) → take count places ≡ union_of order k xs ys → xs ≡ x.items → ys ≡ y.items → row_form order blank k count places ≡ joined_runs order k x y
  joined_form t x y xs ys e p q =
      kept_form t ∙ ap (as_run order k) (e ∙ ap (λ (l : List E). union_of order k l ys) p ∙ ap (λ (l : List E). union_of order k x.items l) q)

pub empty_kept : {E : Type 0} (order : E → E → Ordering) (blank : E → Bool) (d : E) → T (blank d) → (k : ℕ) → T (is_run_row order blank 0 (replicate k d))
empty_kept order blank d t k = make_row order blank 0 (replicate k d) (omega arith) tt (all_fresh blank d t k)

-- a row of one element, and with no places at all, stands for the run of it
module _ {E : Type 0} (order : E → E → Ordering) (blank : E → Bool) (x : E) where
  pub single_form : (k : ℕ) (d : E) → T (blank d) → 0 < k → row_form order blank k 1 (set (replicate k d) 0 x) ≡ as_run order k (x ∷ [])
  single_form zero d t lt = absurd (omega arith)
  single_form (suc k) d t lt =
      kept_form order blank (suc k) 1 (x ∷ replicate k d) (make_row order blank 1 (x ∷ replicate k d) (omega arith) tt (all_fresh blank d t k))

  no_place_form : (places : List E) → row_form order blank 0 0 places ≡ as_run order 0 (x ∷ [])
  no_place_form places = empty_form order blank 0 places ∙ same_run order 0 _ _ refl

  pub none_form : (k : ℕ) (d : E) → false ≡ ltb 0 (length (replicate k d)) → row_form order blank k 0 (replicate k d) ≡ as_run order k (x ∷ [])
  none_form zero d e = no_place_form []
  none_form (suc k) d e = absurd (true≢false (sym (e ∙ lt-ltb 0 (suc (length (replicate k d))) (omega arith))))

pub some_place : {E : Type 0} (k : ℕ) (d : E) → true ≡ ltb 0 (length (replicate k d)) → 0 < k
some_place zero d e = absurd (true≢false e)
some_place (suc k) d e = omega arith
