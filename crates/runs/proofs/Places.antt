-- An element is put in its place: what the places hold then, and what the row stands for.
use Rattle.std.proofs.Common.{◌≡◌, ℕ, zero, suc, ◌+◌, ◌-◌, ◌<◌, ◌≤◌, min, Bool, true, false, cond, T, leb, List, [], ◌∷◌, ◌++◌, length, take, drop, set, Ordering, sym, refl, ap, ◌∙◌, subst, ⊎_elim, arith}
use Rattle.std.specs.List.{list_all, copy_within}
use Rattle.std.proofs.Math.Seq.{take-append-add, take-set-lt}
use Rattle.std.proofs.lemmas.List.{length-take-le, length-take, length-drop, take-take, take_all, drop-take, take-append-drop, take-append-le, take-set, drop-set, drop_at}
use Rattle.std.proofs.lemmas.List.Edits.{take-paste, length-paste}
use Rattle.std.proofs.lemmas.Bool.{leb-true, cases_lt}
use Rattle.runs.specs.Order.{Lawful}
use Rattle.runs.specs.Runs.{rising, Run, as_run, is_run_row, row_items, row_form}
use Rattle.runs.specs.Union.{merge, union_of, joined_runs}
use Rattle.runs.proofs.Rising.{left, right, true_from}
use Rattle.runs.proofs.Steps.{begins_all}
use Rattle.runs.proofs.Unions.{union_means}
use Rattle.runs.proofs.Forms.{make_run, run_items, run_rises, run_few, same_run, of_items, join_unit}
use Rattle.runs.proofs.Rows.{kept_items, make_row, joined_form}

-- the first elements of an insertion
into_front : {E : Type 0} (xs : List E) (at k : ℕ) (z : E) → at ≤ length xs → at < k → take k (take at xs ++ (z ∷ drop at xs)) ≡ take at xs ++ (z ∷ take (k - suc at) (drop at xs))
into_front xs at k z le lt =
    let n : length (take at xs) ≡ at = length-take-le at xs le in
    let e : k ≡ length (take at xs) + suc (k - suc at) = omega arith in
    ap (λ (m : ℕ). take m (take at xs ++ (z ∷ drop at xs))) e ∙ take-append-add (take at xs) (z ∷ drop at xs) (suc (k - suc at))

-- those from a place on, copied up by one, and an element put before them
module _ {E : Type 0} (xs : List E) (at last : ℕ) (z : E) (within : at ≤ last) (fits : last < length xs) where
  moved : take (last + 1) (copy_within xs at last (at + 1)) ≡ take (at + 1) xs ++ take (last - at) (drop at xs)
  moved =
      let e : last + 1 ≡ at + 1 + (last - at) = omega arith in
      ap (λ (m : ℕ). take m (copy_within xs at last (at + 1))) e ∙ take-paste xs (at + 1) (drop at xs) (last - at) (omega arith) (simp length-drop (omega arith))

  moved_long : length (copy_within xs at last (at + 1)) ≡ length xs
  moved_long = length-paste xs (at + 1) (drop at xs) (last - at) (omega arith) (simp length-drop (omega arith))

  pub put_front : take (last + 1) (set (copy_within xs at last (at + 1)) at z) ≡ take at xs ++ (z ∷ take (last - at) (drop at xs))
  put_front =
      let up = copy_within xs at last (at + 1) in
      let ys = take (at + 1) xs ++ take (last - at) (drop at xs) in
      let one : length (take (at + 1) xs) ≡ at + 1 = length-take-le (at + 1) xs (omega arith) in
      let long : length (take (last + 1) up) ≡ last + 1 = length-take-le (last + 1) up (omega (arith, moved_long)) in
      let same : length ys ≡ last + 1 = ap length (sym moved) ∙ long in
      take-set-lt (last + 1) up at z (omega arith)
      ∙ ap (λ (l : List E). set l at z) moved
      ∙ sym (take-append-drop at (set ys at z))
      ∙ ap (λ (l : List E). l ++ drop at (set ys at z)) (take-set ys at z ∙ take-append-le at (take (at + 1) xs) (take (last - at) (drop at xs)) (omega arith) ∙ take-take at (at + 1) xs (omega arith))
      ∙ ap (λ (l : List E). take at xs ++ l) (drop-set ys at z (omega arith) ∙ ap (λ (l : List E). z ∷ l) (drop_at (take (at + 1) xs) (take (last - at) (drop at xs)) (at + 1) one))

-- one cut after another is the shorter one
shorter : {E : Type 0} (ys : List E) (a b c : ℕ) → c ≡ min a b → take a (take b ys) ≡ take c ys
shorter {E} ys a b c e = ⊎_elim
    (λ lt. let m : c ≡ a = omega arith in take-take a b ys (omega arith) ∙ ap (λ (n : ℕ). take n ys) (sym m))
    (λ ge. let m : c ≡ b = omega arith in take_all a (take b ys) (simp length-take (omega arith)) ∙ ap (λ (n : ℕ). take n ys) (sym m))
    (cases_lt a b)

-- so the first places hold the insertion into those in use
pub put_in_front : {E : Type 0} (xs : List E) (count at last : ℕ) (z : E) → at ≤ count → count ≤ length xs → at < length xs → last ≡ min count (length xs - 1)
    → take (last + 1) (set (copy_within xs at last (at + 1)) at z) ≡ take (length xs) (take at (take count xs) ++ (z ∷ drop at (take count xs)))
put_in_front {E} xs count at last z le few lt e =
    let k = length xs in
    let used = take count xs in
    let long : length used ≡ count = length-take-le count xs few in
    let m : count ≡ at + (count - at) = omega arith in
    let rest : drop at used ≡ take (count - at) (drop at xs) = ap (λ (n : ℕ). drop at (take n xs)) m ∙ drop-take at (count - at) xs in
    let cut : take (k - suc at) (drop at used) ≡ take (last - at) (drop at xs) = ap (take (k - suc at)) rest ∙ shorter (drop at xs) (k - suc at) (count - at) (last - at) (omega arith) in
    put_front xs at last z (omega arith) (omega arith)
    ∙ ap (λ (l : List E). take at xs ++ (z ∷ l)) (sym cut)
    ∙ ap (λ (l : List E). l ++ (z ∷ take (k - suc at) (drop at used))) (sym (take-take at count xs le))
    ∙ sym (into_front used at k z (omega arith) lt)

-- unused places stay so further on
later_blank : {E : Type 0} (blank : E → Bool) (xs : List E) (m n : ℕ) → m ≤ n → T (list_all blank (drop m xs)) → T (list_all blank (drop n xs))
later_blank blank [] zero zero le t = t
later_blank blank [] zero (suc n) le t = tt
later_blank blank [] (suc m) zero le t = tt
later_blank blank [] (suc m) (suc n) le t = tt
later_blank blank (x ∷ xs) zero zero le t = t
later_blank blank (x ∷ xs) zero (suc n) le t = later_blank blank xs zero n (omega arith) (right (blank x) (list_all blank xs) t)
later_blank blank (x ∷ xs) (suc m) zero le t = absurd (omega arith)
later_blank blank (x ∷ xs) (suc m) (suc n) le t = later_blank blank xs m n (omega arith) t

module _ {E : Type 0} (order : E → E → Ordering) (laws : Lawful order) (blank : E → Bool) (k : ℕ) where
  -- a run that the union with another leaves as it is, is their join
  pub stays_joined : (x y : Run order k) (xs ys : List E) → xs ≡ x.items → ys ≡ y.items → union_of order k xs ys ≡ xs → x ≡ joined_runs order k x y
  stays_joined x y xs ys p q e =
      sym (ap (as_run order k) (ap (λ (l : List E). union_of order k l y.items) (sym p) ∙ ap (union_of order k xs) (sym q) ∙ e ∙ p) ∙ of_items order k x)

  -- an element as a run
  pub one_item : (z : E) → 0 < k → (as_run order k (z ∷ [])).items ≡ z ∷ []
  one_item z some = run_items order k (z ∷ []) (make_run order k (z ∷ []) tt (omega arith))

  -- as is one that their union begins with, where nothing of the other that may enter it is left
  pub begun_joined : (x y : Run order k) (xs ys others : List E) (i j : ℕ) → xs ≡ x.items → ys ≡ y.items → union_of order k xs others ≡ union_of order k xs ys
      → merge order xs others ≡ take i xs ++ merge order (drop i xs) (drop j others) → length others ≤ j → x ≡ joined_runs order k x y
  begun_joined x y xs ys others i j p q enters begins none =
      let few : length xs ≤ k = omega (arith, ap length p, run_few order k x) in
      stays_joined x y xs ys p q (sym enters ∙ begins_all order k xs others i j begins none few)

  -- an empty run
  pub no_items : (x : Run order k) → length x.items ≡ 0 → x ≡ as_run order k []
  no_items x e = same_run order k x (as_run order k []) (nothing x.items e ∙ sym (run_items order k [] (make_run order k [] tt (omega arith))))
    where
      nothing : (xs : List E) → length xs ≡ 0 → xs ≡ []
      nothing [] f = refl
      nothing (y ∷ ys) f = absurd (omega arith)

  -- the join with it
  pub joined_none : (x y : Run order k) → length x.items ≡ 0 → joined_runs order k x y ≡ y
  joined_none x y e = ap (λ (r : Run order k). joined_runs order k r y) (no_items x e) ∙ join_unit order laws k y

  module _ (count : ℕ) (places : List E) (long : length places ≡ k) (run : List E) (is : run ≡ (row_form order blank k count places).items) (some : 0 < length run) where
    -- a row that stands for some elements is kept
    pub some_kept : T (is_run_row order blank count places)
    some_kept = by (is_run_row order blank count places) refl
      where
        by : (b : Bool) → is_run_row order blank count places ≡ b → T b
        by true e = tt
        by false e =
            let none : row_items order blank count places ≡ [] = ap (λ (b : Bool). cond b (take count places) []) e in
            let items : run ≡ [] = is ∙ ap (λ (l : List E). (as_run order k l).items) none ∙ run_items order k [] (make_run order k [] tt (omega arith)) in
            absurd (omega (arith, ap length items))

    pub some_used : run ≡ take count places
    some_used = is ∙ kept_items order blank k count places long some_kept

    -- and with an element in its place it stands for the join with it
    module _ (z : E) (at n : ℕ) (after : List E) (long_after : length after ≡ k) (few : n ≤ k) (more : length run ≤ n) (front : take n after ≡ take (length places) (take at (take (length run) places) ++ (z ∷ drop at (take (length run) places)))) (rest : drop n after ≡ drop n places) (merged : merge order run (z ∷ []) ≡ take at run ++ (z ∷ drop at run)) where
      counted : length run ≡ count
      counted =
          let le : count ≤ length places = leb-true count (length places) (true_from (leb count (length places)) (left (leb count (length places)) _ some_kept)) in
          ap length some_used ∙ length-take-le count places le

      used : take (length run) places ≡ run
      used = ap (λ (m : ℕ). take m places) counted ∙ sym some_used

      value : take n after ≡ union_of order k run (z ∷ [])
      value =
          front ∙ ap (λ (l : List E). take (length places) (take at l ++ (z ∷ drop at l))) used
          ∙ ap (λ (m : ℕ). take m (take at run ++ (z ∷ drop at run))) long ∙ ap (take k) (sym merged)

      run_up : T (rising order run)
      run_up = subst (λ (l : List E). T (rising order l)) (sym is) (run_rises order k (row_form order blank k count places))

      unused : T (list_all blank (drop n after))
      unused =
          subst (λ (l : List E). T (list_all blank l)) (sym rest)
          (later_blank blank places count n (omega (arith, counted)) (right (rising order (take count places)) _ (right (leb count (length places)) _ some_kept)))

      pub put_form : row_form order blank k n after ≡ joined_runs order k (row_form order blank k count places) (as_run order k (z ∷ []))
      put_form =
          let up : T (rising order (take n after)) = subst (λ (l : List E). T (rising order l)) (sym value) (union_means order laws k run (z ∷ []) run_up tt).rises in
          let some_place : 0 < k = let e = run_few order k (row_form order blank k count places) in omega (arith, ap length is) in
          joined_form order blank k n after (make_row order blank n after (omega arith) up unused) (row_form order blank k count places) (as_run order k (z ∷ [])) run (z ∷ []) value is (sym (one_item z some_place))
