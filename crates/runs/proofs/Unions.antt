-- The k-union of two runs holds the k least elements of either, and so it is a join.
use Rattle.std.proofs.Common.{◌≡◌, ℕ, zero, suc, ◌≤◌, T, ◌⊎◌, List, [], ◌∷◌, length, take, Ordering, Less, Equal, Greater, sym, refl, ap, ◌∙◌, subst, inl, inr, ⊎_elim, arith}
use Rattle.std.specs.List.{AllByRecursion}
use Rattle.std.specs.Ordering.{is_lt}
use Rattle.std.proofs.lemmas.List.{length-take}
use Rattle.runs.specs.Order.{Lawful}
use Rattle.runs.specs.Runs.{rising_from, rising}
use Rattle.runs.specs.Union.{Among, Least, Either, pick, against, merge, union_of, Joins}
use Rattle.runs.proofs.Rising.{both, left, right, is_less, all_among, all_from_among, less_turned, above, rest_rises, fills, least_same}

-- a fact of a merge's step, from one for each answer of the order
module _ {E : Type 0} (order : E → E → Ordering) (P : List E → Type 0) where
  pub by_answer : (x y : E) (a b c : List E) → (order x y ≡ Less → P a) → (order x y ≡ Equal → P b) → (order x y ≡ Greater → P c) → P (pick (order x y) a b c)
  by_answer x y a b c f g h = go (order x y) f g h
    where
      go : (o : Ordering) → (o ≡ Less → P a) → (o ≡ Equal → P b) → (o ≡ Greater → P c) → P (pick o a b c)
      go Less p q r = p refl
      go Equal p q r = q refl
      go Greater p q r = r refl

module _ {E : Type 0} (order : E → E → Ordering) (laws : Lawful order) where
  -- what stands in a merge stands in one of the two
  from_against : (x : E) (xs : List E) (rest : List E → List E) (z : E) → ((zs : List E) → Among z (rest zs) → Among z xs ⊎ Among z zs) → (ys : List E) → Among z (against order x xs rest ys) → Among z (x ∷ xs) ⊎ Among z ys
  from_against x xs rest z ih [] = λ m. inl m
  from_against x xs rest z ih (y ∷ ys) =
      let on = from_against x xs rest z ih ys in
      by_answer order (λ l. Among z l → Among z (x ∷ xs) ⊎ Among z (y ∷ ys)) x y (x ∷ rest (y ∷ ys)) (x ∷ rest ys) (y ∷ against order x xs rest ys)
      (λ e m. ⊎_elim (λ q. inl (inl q)) (λ n. ⊎_elim (λ h. inl (inr h)) (λ h. inr h) (ih (y ∷ ys) n)) m)
      (λ e m. ⊎_elim (λ q. inl (inl q)) (λ n. ⊎_elim (λ h. inl (inr h)) (λ h. inr (inr h)) (ih ys n)) m)
      (λ e m. ⊎_elim (λ q. inr (inl q)) (λ n. ⊎_elim (λ h. inl h) (λ h. inr (inr h)) (on n)) m)

  from_merge : (xs ys : List E) (z : E) → Among z (merge order xs ys) → Either order xs ys z
  from_merge [] ys z m = inr m
  from_merge (x ∷ xs) ys z m = from_against x xs (merge order xs) z (λ zs n. from_merge xs zs z n) ys m

  -- and the other way round
  to_against : (x : E) (xs : List E) (rest : List E → List E) (z : E) → ((zs : List E) → Among z xs ⊎ Among z zs → Among z (rest zs)) → (ys : List E) → Among z (x ∷ xs) ⊎ Among z ys → Among z (against order x xs rest ys)
  to_against x xs rest z ih [] = λ m. ⊎_elim (λ h. h) (λ h. absurd h) m
  to_against x xs rest z ih (y ∷ ys) =
      let on = to_against x xs rest z ih ys in
      by_answer order (λ l. Among z (x ∷ xs) ⊎ Among z (y ∷ ys) → Among z l) x y (x ∷ rest (y ∷ ys)) (x ∷ rest ys) (y ∷ against order x xs rest ys)
      (λ e m. ⊎_elim (λ h. ⊎_elim (λ q. inl q) (λ n. inr (ih (y ∷ ys) (inl n))) h) (λ h. inr (ih (y ∷ ys) (inr h))) m)
      (λ e m. ⊎_elim (λ h. ⊎_elim (λ q. inl q) (λ n. inr (ih ys (inl n))) h) (λ h. ⊎_elim (λ q. inl (q ∙ sym (laws.same x y e))) (λ n. inr (ih ys (inr n))) h) m)
      (λ e m. ⊎_elim (λ h. inr (on (inl h))) (λ h. ⊎_elim (λ q. inl q) (λ n. inr (on (inr n))) h) m)

  to_merge : (xs ys : List E) (z : E) → Either order xs ys z → Among z (merge order xs ys)
  to_merge [] ys z m = ⊎_elim (λ h. absurd h) (λ h. h) m
  to_merge (x ∷ xs) ys z m = to_against x xs (merge order xs) z (λ zs n. to_merge xs zs z n) ys m

  -- a merge of runs above p is a run above p
  against_rises : (x : E) (xs : List E) (rest : List E → List E) → ((p : E) (zs : List E) → T (rising_from order p xs) → T (rising_from order p zs) → T (rising_from order p (rest zs))) → (ys : List E) (p : E) → T (rising_from order p (x ∷ xs)) → T (rising_from order p ys) → T (rising_from order p (against order x xs rest ys))
  against_rises x xs rest ih [] p hx hy = hx
  against_rises x xs rest ih (y ∷ ys) p hx hy =
      let px = left (is_lt (order p x)) (rising_from order x xs) hx in
      let rx = right (is_lt (order p x)) (rising_from order x xs) hx in
      let py = left (is_lt (order p y)) (rising_from order y ys) hy in
      let ry = right (is_lt (order p y)) (rising_from order y ys) hy in
      by_answer order (λ l. T (rising_from order p l)) x y (x ∷ rest (y ∷ ys)) (x ∷ rest ys) (y ∷ against order x xs rest ys)
      (λ e. both (is_lt (order p x)) _ px (ih x (y ∷ ys) rx (both (is_lt (order x y)) _ (is_less (order x y) e) ry)))
      (λ e. both (is_lt (order p x)) _ px (ih x ys rx (subst (λ (z : E). T (rising_from order z ys)) (sym (laws.same x y e)) ry)))
      (λ e. both (is_lt (order p y)) _ py (against_rises x xs rest ih ys y (both (is_lt (order y x)) _ (is_less (order y x) (less_turned order laws x y e)) rx) ry))

  merge_rises_from : (xs : List E) (p : E) (ys : List E) → T (rising_from order p xs) → T (rising_from order p ys) → T (rising_from order p (merge order xs ys))
  merge_rises_from [] p ys hx hy = hy
  merge_rises_from (x ∷ xs) p ys hx hy = against_rises x xs (merge order xs) (merge_rises_from xs) ys p hx hy

  pub merge_rises : (xs ys : List E) → T (rising order xs) → T (rising order ys) → T (rising order (merge order xs ys))
  merge_rises [] ys hx hy = hy
  merge_rises (x ∷ xs) [] hx hy = hx
  merge_rises (x ∷ xs) (y ∷ ys) hx hy =
      by_answer order (λ l. T (rising order l)) x y (x ∷ merge order xs (y ∷ ys)) (x ∷ merge order xs ys) (y ∷ merge order (x ∷ xs) ys)
      (λ e. merge_rises_from xs x (y ∷ ys) hx (both (is_lt (order x y)) _ (is_less (order x y) e) hy))
      (λ e. merge_rises_from xs x ys hx (subst (λ (z : E). T (rising_from order z ys)) (sym (laws.same x y e)) hy))
      (λ e. merge_rises_from (x ∷ xs) y ys (both (is_lt (order y x)) _ (is_less (order y x) (less_turned order laws x y e)) hx) hy)

  take_rises_from : (x : E) (n : ℕ) (xs : List E) → T (rising_from order x xs) → T (rising_from order x (take n xs))
  take_rises_from x zero xs h = tt
  take_rises_from x (suc n) [] h = tt
  take_rises_from x (suc n) (y ∷ ys) h = both (is_lt (order x y)) _ (left (is_lt (order x y)) (rising_from order y ys) h) (take_rises_from y n ys (right (is_lt (order x y)) (rising_from order y ys) h))

  pub take_rises : (n : ℕ) (xs : List E) → T (rising order xs) → T (rising order (take n xs))
  take_rises zero xs h = tt
  take_rises (suc n) [] h = tt
  take_rises (suc n) (x ∷ xs) h = take_rises_from x n xs h

  pub from_take : (n : ℕ) (xs : List E) (z : E) → Among z (take n xs) → Among z xs
  from_take zero xs z m = absurd m
  from_take (suc n) [] z m = absurd m
  from_take (suc n) (x ∷ xs) z m = ⊎_elim (λ q. inl q) (λ k. inr (from_take n xs z k)) m

  -- an element of a run is among the first n, or these are n and all less
  cut_short : (n : ℕ) (xs : List E) → T (rising order xs) → (z : E) → Among z xs → Among z (take n xs) ⊎ ((length (take n xs) ≡ n) × AllByRecursion (λ r. order r z ≡ Less) (take n xs))
  cut_short zero xs h z m = inr (refl, tt)
  cut_short (suc n) [] h z m = absurd m
  cut_short (suc n) (x ∷ xs) h z m =
      ⊎_elim
      (λ q. inl (inl q))
      (λ k. ⊎_elim (λ s. inl (inr s)) (λ s. inr (ap suc s.0, (all_among (λ y. order x y ≡ Less) xs (above order laws x xs h) z k, s.1))) (cut_short n xs (rest_rises order laws x xs h) z k))
      m

  pub union_means : (k : ℕ) (xs ys : List E) → T (rising order xs) → T (rising order ys) → Least order k (Either order xs ys) (union_of order k xs ys)
  union_means k xs ys hx hy =
      let up = merge_rises xs ys hx hy in
      record {
        rises = take_rises k (merge order xs ys) up;
        few = simp length-take (omega arith);
        found = λ x m. from_merge xs ys x (from_take k (merge order xs ys) x m);
        least = λ x m. cut_short k (merge order xs ys) up x (to_merge xs ys x m);
      }

  -- a run of its own elements
  pub own : (k : ℕ) (P : E → Type 0) (xs : List E) → T (rising order xs) → length xs ≤ k → ((x : E) → P x → Among x xs) → ((x : E) → Among x xs → P x) → Least order k P xs
  own k P xs h le there back = record { rises = h; few = le; found = back; least = λ x p. inl (there x p) }

  pub like : (k : ℕ) (P Q : E → Type 0) (rs : List E) → ((x : E) → P x → Q x) → ((x : E) → Q x → P x) → Least order k P rs → Least order k Q rs
  like k P Q rs pq qp a = record { rises = a.rises; few = a.few; found = λ x m. pq x (a.found x m); least = λ x q. a.least x (qp x q) }

  -- of each element: the first fact of all, or the second of one
  sweep : (A B : E → Type 0) (xs : List E) → ((x : E) → Among x xs → A x ⊎ B x) → ((x : E) → Among x xs → A x) ⊎ ((x : E) × Among x xs × B x)
  sweep A B [] h = inl (λ x m. absurd m)
  sweep A B (y ∷ ys) h =
      ⊎_elim
      (λ a. ⊎_elim (λ all. inl (λ x m. ⊎_elim (λ q. subst A (sym q) a) (λ n. all x n) m)) (λ one. inr (one.0, inr one.1, one.2)) (sweep A B ys (λ x m. h x (inr m))))
      (λ b. inr (y, inl refl, b))
      (h y (inl refl))

  -- the k least of the k least of P and of Q are the k least of both
  pub widen : (k : ℕ) (P Q : E → Type 0) (rs ts : List E) → Least order k P rs → Least order k (λ x. Among x rs ⊎ Q x) ts → Least order k (λ x. P x ⊎ Q x) ts
  widen k P Q rs ts a b = record {
    rises = b.rises;
    few = b.few;
    found = λ x m. ⊎_elim (λ r. inl (a.found x r)) (λ q. inr q) (b.found x m);
    least = λ x h. ⊎_elim (λ p. ⊎_elim (λ r. b.least x (inl r)) (beyond x) (a.least x p)) (λ q. b.least x (inr q)) h;
  }
    where
      beyond : (x : E) → (length rs ≡ k) × AllByRecursion (λ r. order r x ≡ Less) rs → Among x ts ⊎ ((length ts ≡ k) × AllByRecursion (λ t. order t x ≡ Less) ts)
      beyond x full =
          ⊎_elim
          (λ all. let few : length ts ≤ k = b.few in
          let same = fills order laws rs ts a.rises b.rises all (omega (arith, full.0)) in
          inr (ap length (sym same) ∙ full.0, subst (λ (l : List E). AllByRecursion (λ t. order t x ≡ Less) l) same full.1))
          (λ one. let rx = all_among (λ r. order r x ≡ Less) rs full.1 one.0 one.1 in
          inr (one.2.0, all_from_among (λ t. order t x ≡ Less) ts (λ t m. laws.trans t one.0 x (all_among (λ y. order y one.0 ≡ Less) ts one.2.1 t m) rx)))
          (sweep (λ r. Among r ts) (λ r. (length ts ≡ k) × AllByRecursion (λ t. order t r ≡ Less) ts) rs (λ r m. b.least r (inl m)))

  swap : (A B : Type 0) → A ⊎ B → B ⊎ A
  swap A B h = ⊎_elim (λ a. inr a) (λ b. inl b) h

  pub joins : Joins order
  joins = record {
    means = union_means;
    only = λ k xs ys rs hx hy l. least_same order laws k (Either order xs ys) (Either order xs ys) rs (union_of order k xs ys) l (union_means k xs ys hx hy) (λ x h. h) (λ x h. h);
    comm = λ k xs ys hx hy. least_same order laws k (Either order xs ys) (Either order ys xs) _ _ (union_means k xs ys hx hy) (union_means k ys xs hy hx) (λ x h. swap (Among x xs) (Among x ys) h) (λ x h. swap (Among x ys) (Among x xs) h);
    assoc = λ k xs ys zs hx hy hz.
        let u = union_means k xs ys hx hy in
        let v = union_means k ys zs hy hz in
        let one = widen k (Either order xs ys) (λ x. Among x zs) _ _ u (union_means k (union_of order k xs ys) zs u.rises hz) in
        let turn = like k (Either order xs (union_of order k ys zs)) (λ x. Among x (union_of order k ys zs) ⊎ Among x xs) _ (λ x h. swap (Among x xs) (Among x (union_of order k ys zs)) h) (λ x h. swap (Among x (union_of order k ys zs)) (Among x xs) h) (union_means k xs (union_of order k ys zs) hx v.rises) in
        let two = widen k (Either order ys zs) (λ x. Among x xs) _ _ v turn in
        least_same order laws k (λ x. Either order xs ys x ⊎ Among x zs) (λ x. Either order ys zs x ⊎ Among x xs) _ _ one two
        (λ x h. ⊎_elim (λ g. ⊎_elim (λ a. inr a) (λ a. inl (inl a)) g) (λ a. inl (inr a)) h)
        (λ x h. ⊎_elim (λ g. ⊎_elim (λ a. inl (inr a)) (λ a. inr a) g) (λ a. inl (inl a)) h);
    idem = λ k xs h le. least_same order laws k (Either order xs xs) (Either order xs xs) _ _ (union_means k xs xs h h) (own k (Either order xs xs) xs h le (λ x m. ⊎_elim (λ a. a) (λ a. a) m) (λ x m. inl m)) (λ x m. m) (λ x m. m);
    unit = λ k xs h le. least_same order laws k (Either order [] xs) (Either order [] xs) _ _ (union_means k [] xs tt h) (own k (Either order [] xs) xs h le (λ x m. ⊎_elim (λ a. absurd a) (λ a. a) m) (λ x m. inr m)) (λ x m. m) (λ x m. m);
  }
