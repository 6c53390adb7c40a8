-- What may enter a run, and where: what a run keeps of a union with others.
use Rattle.std.proofs.Common.{◌≡◌, ℕ, zero, suc, ◌-◌, ◌<◌, ◌≤◌, true, T, ltb, ◌⊎◌, List, [], ◌∷◌, ◌++◌, length, map, take, drop, get_or, Ordering, Less, Equal, Greater, sym, refl, ap, ◌∙◌, subst, inl, inr, ⊎_elim, arith}
use Rattle.std.proofs.lemmas.Bool.{cases_lt, ltb-true}
use Rattle.std.proofs.lemmas.Bool.Decides.{nat_tests}
use Rattle.std.proofs.lemmas.List.{get_or-take, get_or-map, length-map, length-take-le}
use Rattle.std.specs.List.{AllByRecursion, AllWithin}
use Rattle.std.specs.List.Sorted.{IsNonDecreasingBy}
use Rattle.std.specs.Ordering.{nat_cmp, ordering_index}
use Rattle.runs.specs.Order.{Lawful}
use Rattle.runs.specs.Runs.{rising}
use Rattle.runs.specs.Union.{Among, Least, Either, pick, against, merge, union_of}
use Rattle.runs.proofs.Steps.{next_less}
use Rattle.runs.proofs.Rising.{all_among, all_from_among, above, rest_rises, never_less}
use Rattle.runs.proofs.Unions.{own, like, widen, joins, union_means, take_rises, from_take}

-- elements by their places, where it does not matter what would stand elsewhere
pub any_default : {E : Type 0} (xs : List E) (i : ℕ) (d e : E) → i < length xs → get_or xs i d ≡ get_or xs i e
any_default [] i d e lt = absurd (omega arith)
any_default (x ∷ xs) zero d e lt = refl
any_default (x ∷ xs) (suc i) d e lt = any_default xs i d e (omega arith)

pub among_at : {E : Type 0} (xs : List E) (i : ℕ) (d : E) → i < length xs → Among (get_or xs i d) xs
among_at [] i d lt = absurd (omega arith)
among_at (x ∷ xs) zero d lt = inl refl
among_at (x ∷ xs) (suc i) d lt = inr (among_at xs i d (omega arith))

-- and the place of one
pub place_of : {E : Type 0} (xs : List E) (d x : E) → Among x xs → (i : ℕ) × (i < length xs) × (x ≡ get_or xs i d)
place_of [] d x m = absurd m
place_of (y ∷ ys) d x m = ⊎_elim (λ e. (0, omega arith, e)) (λ n. let p = place_of ys d x n in (suc p.0, omega (arith, p.1), p.2)) m

-- an element is among those before a place, or stands at it or later
split_at : {E : Type 0} (xs : List E) (at : ℕ) (d x : E) → at ≤ length xs → Among x xs → Among x (take at xs) ⊎ ((i : ℕ) × (at ≤ i) × (i < length xs) × (x ≡ get_or xs i d))
split_at {E} xs at d x le m = by (place_of xs d x m)
  where
    by : (i : ℕ) × (i < length xs) × (x ≡ get_or xs i d) → Among x (take at xs) ⊎ ((i : ℕ) × (at ≤ i) × (i < length xs) × (x ≡ get_or xs i d))
    by p = ⊎_elim
        (λ lt. inl (subst (λ (y : E). Among y (take at xs)) (get_or-take at xs p.0 d lt ∙ sym p.2) (among_at (take at xs) p.0 d (let n = length-take-le at xs le in omega arith))))
        (λ ge. inr (p.0, ge, p.1, p.2))
        (cases_lt p.0 at)

-- a greater number is ordered no lower
index_up : (l m n : ℕ) → l ≤ m → ordering_index (nat_cmp l n) ≤ ordering_index (nat_cmp m n)
index_up l m n le = grind (arith, nat_tests)

module _ {E : Type 0} (order : E → E → Ordering) (laws : Lawful order) where
  -- an element of a run is less than each later one
  pub rise_at : (xs : List E) (i j : ℕ) (d : E) → T (rising order xs) → i < j → j < length xs → order (get_or xs i d) (get_or xs j d) ≡ Less
  rise_at [] i j d h lt inside = absurd (omega arith)
  rise_at (x ∷ xs) i zero d h lt inside = absurd (omega arith)
  rise_at (x ∷ xs) zero (suc j) d h lt inside = all_among (λ y. order x y ≡ Less) xs (above order laws x xs h) (get_or xs j d) (among_at xs j d (omega arith))
  rise_at (x ∷ xs) (suc i) (suc j) d h lt inside = rise_at xs i j d (rest_rises order laws x xs h) (omega arith) (omega arith)

  -- the answers against one element rise along a run, so that it can be searched
  pub answers_rise : (xs : List E) (z : E) → T (rising order xs) → IsNonDecreasingBy (λ y. ordering_index (order y z)) xs
  answers_rise xs z h i j d le lt = ⊎_elim
      (λ less. by (get_or xs i d) (get_or xs j d) (rise_at xs i j d h less lt))
      (λ more. let e : i ≡ j = omega arith in subst (λ (k : ℕ). ordering_index (order (get_or xs i d) z) ≤ ordering_index (order (get_or xs k d) z)) e (omega arith))
      (cases_lt i j)
    where
      by : (x y : E) → order x y ≡ Less → ordering_index (order x z) ≤ ordering_index (order y z)
      by x y e = go (order y z) refl
        where
          go : (o : Ordering) → order y z ≡ o → ordering_index (order x z) ≤ ordering_index o
          go Less f = let g = laws.trans x y z e f in let n = ap ordering_index g in omega arith
          go Equal f = let s = laws.same y z f in let g : order x z ≡ Less = subst (λ (w : E). order x w ≡ Less) s e in let n = ap ordering_index g in omega arith
          go Greater f = most (order x z)
            where
              most : (o : Ordering) → ordering_index o ≤ 2
              most Less = omega arith
              most Equal = omega arith
              most Greater = omega arith

  -- all of a run are less than what its last element is less than
  pub below_last : (xs : List E) (z d : E) → T (rising order xs) → 0 < length xs → order (get_or xs (length xs - 1) d) z ≡ Less → AllByRecursion (λ y. order y z ≡ Less) xs
  below_last xs z d h some e = all_from_among (λ y. order y z ≡ Less) xs (λ y m.
      let p = place_of xs d y m in
      subst (λ (w : E). order w z ≡ Less) (sym p.2) (⊎_elim
      (λ lt. laws.trans (get_or xs p.0 d) (get_or xs (length xs - 1) d) z (rise_at xs p.0 (length xs - 1) d h lt (omega arith)) e)
      (λ ge. let i : length xs - 1 ≡ p.0 = omega (arith, p.1) in subst (λ (k : ℕ). order (get_or xs k d) z ≡ Less) i e)
      (cases_lt p.0 (length xs - 1))))

  -- as all before a place behind the last
  pub all_below : (xs : List E) (z : E) (at : ℕ) → AllWithin (λ y. order y z ≡ Less) xs 0 at → length xs ≤ at → AllByRecursion (λ y. order y z ≡ Less) xs
  all_below xs z at less le = all_from_among (λ y. order y z ≡ Less) xs (λ y m.
      let p = place_of xs z y m in
      subst (λ (w : E). order w z ≡ Less) (sym p.2) (less p.0 z (omega arith) (omega (arith, p.1))))

  -- an element put into its place is merged
  pub inserted : (xs : List E) (at : ℕ) (z d : E) → at ≤ length xs → AllWithin (λ y. order y z ≡ Less) xs 0 at → AllWithin (λ y. order y z ≡ Greater) xs at (length xs) → merge order xs (z ∷ []) ≡ take at xs ++ (z ∷ drop at xs)
  inserted [] zero z d le less more = refl
  inserted [] (suc at) z d le less more = absurd (omega arith)
  inserted (x ∷ xs) zero z d le less more =
      ap (λ (o : Ordering). pick o (x ∷ merge order xs (z ∷ [])) (x ∷ merge order xs []) (z ∷ against order x xs (merge order xs) [])) (more 0 d (omega arith) (omega arith))
  inserted (x ∷ xs) (suc at) z d le less more =
      next_less order x z xs [] (less 0 d (omega arith) (omega arith))
      ∙ ap (λ (l : List E). x ∷ l) (inserted xs at z d (omega arith) (λ k e a b. less (suc k) e (omega arith) (omega arith)) (λ k e a b. more (suc k) e (omega arith) (omega arith)))

  -- what is less than an element comes before it
  merge_below : (xs : List E) (at : ℕ) (z : E) (zs : List E) → at ≤ length xs → AllWithin (λ y. order y z ≡ Less) xs 0 at → merge order xs (z ∷ zs) ≡ take at xs ++ merge order (drop at xs) (z ∷ zs)
  merge_below xs zero z zs le less = refl
  merge_below [] (suc at) z zs le less = absurd (omega arith)
  merge_below (x ∷ xs) (suc at) z zs le less =
      next_less order x z xs zs (less 0 z (omega arith) (omega arith))
      ∙ ap (λ (l : List E). x ∷ l) (merge_below xs at z zs (omega arith) (λ k e a b. less (suc k) e (omega arith) (omega arith)))

  -- a run stays where all of the other is there already
  pub there_stays : (k : ℕ) (xs ys : List E) → T (rising order xs) → T (rising order ys) → length xs ≤ k → ((x : E) → Among x ys → Among x xs) → union_of order k xs ys ≡ xs
  there_stays k xs ys hx hy le within =
      sym ((joins order laws).only k xs ys xs hx hy (own order laws k (Either order xs ys) xs hx le (λ x h. ⊎_elim (λ m. m) (within x) h) (λ x m. inl m)))

  -- what a full run is below of does not enter it
  module _ (k : ℕ) (xs ys zs : List E) (hx : T (rising order xs)) (hy : T (rising order ys)) (hz : T (rising order zs)) (full : length xs ≡ k) (into : (x : E) → Among x ys → Among x zs) (apart : (x : E) → Among x zs → Among x ys ⊎ (Among x xs ⊎ AllByRecursion (λ r. order r x ≡ Less) xs)) where
    abbrev P : E → Type 0
    P x = Among x xs ⊎ (Among x zs × AllByRecursion (λ r. order r x ≡ Less) xs)

    whole : Least order k P xs
    whole = record {
      rises = hx;
      few = omega arith;
      found = λ x m. inl m;
      least = λ x p. ⊎_elim (λ m. inl m) (λ b. inr (full, b.1)) p;
    }

    pub cut_stays : union_of order k xs ys ≡ union_of order k xs zs
    cut_stays =
        let one = widen order laws k P (λ x. Among x ys) xs (union_of order k xs ys) whole (union_means order laws k xs ys hx hy) in
        (joins order laws).only k xs zs (union_of order k xs ys) hx hz (like order laws k (λ x. P x ⊎ Among x ys) (Either order xs zs) (union_of order k xs ys)
        (λ x h. ⊎_elim (λ p. ⊎_elim (λ m. inl m) (λ b. inr b.0) p) (λ m. inr (into x m)) h)
        (λ x h. ⊎_elim (λ m. inl (inl m)) (λ m. ⊎_elim (λ y. inr y) (λ o. ⊎_elim (λ a. inl (inl a)) (λ b. inl (inr (m, b))) o) (apart x m)) h)
        one)

  -- nor does one element that it is below of
  pub full_below : (k : ℕ) (xs : List E) (z : E) → T (rising order xs) → length xs ≡ k → AllByRecursion (λ r. order r z ≡ Less) xs → union_of order k xs (z ∷ []) ≡ xs
  full_below k xs z h full below =
      sym (cut_stays k xs [] (z ∷ []) h tt tt full (λ x m. absurd m) (λ x m. ⊎_elim (λ e. inr (inr (subst (λ (w : E). AllByRecursion (λ r. order r w ≡ Less) xs) (sym e) below))) (λ n. absurd n) m))
      ∙ there_stays k xs [] h tt (omega arith) (λ x m. absurd m)

  -- what stands from a place on in a run, where no element there is below the last of a full one
  pub front_enters : (k : ℕ) (xs ys : List E) (end : ℕ) (d : E) → T (rising order xs) → T (rising order ys) → length xs ≡ k → 0 < k → end ≤ length ys
      → ((i : ℕ) → end ≤ i → i < length ys → (get_or ys i d ≡ get_or xs (length xs - 1) d) ⊎ (order (get_or xs (length xs - 1) d) (get_or ys i d) ≡ Less))
      → union_of order k xs (take end ys) ≡ union_of order k xs ys
  front_enters k xs ys end d hx hy full some le later =
      cut_stays k xs (take end ys) ys hx (take_rises order laws end ys hy) hy full (from_take order laws end ys)
      (λ x m. ⊎_elim (λ a. inl a) (λ p. inr (⊎_elim
      (λ e. inl (subst (λ (w : E). Among w xs) (sym (p.3 ∙ e)) (among_at xs (length xs - 1) d (omega arith))))
      (λ e. inr (below_last xs x d hx (omega arith) (subst (λ (w : E). order (get_or xs (length xs - 1) d) w ≡ Less) (sym p.3) e)))
      (later p.0 p.1 p.2))) (split_at ys end d x le m))

  -- the keys of a run do not fall, so that they can be searched
  module _ (key : E → ℕ) (keyed : (x y : E) → key x < key y → order x y ≡ Less) where
    pub keys_rise : (xs : List E) (i j : ℕ) (d : E) → T (rising order xs) → i ≤ j → j < length xs → key (get_or xs i d) ≤ key (get_or xs j d)
    keys_rise xs i j d h le lt = ⊎_elim
        (λ below. absurd (never_less order laws (get_or xs i d) (before below)))
        (λ not_below. not_below)
        (cases_lt (key (get_or xs j d)) (key (get_or xs i d)))
      where
        before : key (get_or xs j d) < key (get_or xs i d) → order (get_or xs i d) (get_or xs i d) ≡ Less
        before below =
            let back = keyed (get_or xs j d) (get_or xs i d) below in
            ⊎_elim
            (λ less. laws.trans (get_or xs i d) (get_or xs j d) (get_or xs i d) (rise_at xs i j d h less lt) back)
            (λ more. let e : j ≡ i = omega arith in subst (λ (k : ℕ). order (get_or xs k d) (get_or xs i d) ≡ Less) e back)
            (cases_lt i j)

    -- those whose keys are below that of the last of a full run enter it
    pub keys_enter : (k : ℕ) (xs ys : List E) (end last : ℕ) → T (rising order xs) → T (rising order ys) → length xs ≡ k → 0 < k → end ≤ length ys
        → last ≡ get_or (map key xs) (length (map key xs) - 1) last
        → AllWithin (λ n. nat_cmp n last ≡ Greater) (map key ys) end (length (map key ys))
        → union_of order k xs (take end ys) ≡ union_of order k xs ys
    keys_enter k [] ys end last hx hy full some le is above = absurd (omega arith)
    keys_enter k (x ∷ xs) ys end last hx hy full some le is above =
        let all = x ∷ xs in
        let z = get_or all (length all - 1) x in
        let n : length (map key all) ≡ length all = length-map all key in
        let top : last ≡ key z = is ∙ ap (λ (m : ℕ). get_or (map key all) (m - 1) last) n ∙ get_or-map key all (length all - 1) x last (omega arith) in
        front_enters k all ys end x hx hy full some le (λ i from inside.
        let read : get_or (map key ys) i last ≡ key (get_or ys i x) = get_or-map key ys i x last inside in
        let e : nat_cmp (key (get_or ys i x)) last ≡ Greater = ap (λ (m : ℕ). nat_cmp m last) (sym read) ∙ above i last from (omega (arith, length-map ys key)) in
        let more : last < key (get_or ys i x) = grind (arith, nat_tests) in
        inr (keyed z (get_or ys i x) (omega arith)))

    -- they are in order
    pub keys_sorted : (xs : List E) → T (rising order xs) → IsNonDecreasingBy (λ m. m) (map key xs)
    keys_sorted [] h i j d le lt = absurd (omega arith)
    keys_sorted (x ∷ xs) h i j d le lt =
        let ys = x ∷ xs in
        let inside : j < length ys = omega (arith, length-map ys key) in
        let a : get_or (map key ys) i d ≡ key (get_or ys i x) = get_or-map key ys i x d (omega arith) in
        let b : get_or (map key ys) j d ≡ key (get_or ys j x) = get_or-map key ys j x d inside in
        let up : key (get_or ys i x) ≤ key (get_or ys j x) = keys_rise ys i j x h le inside in
        omega arith

    -- so they can be searched for
    pub keys_answers : (xs : List E) (n : ℕ) → T (rising order xs) → IsNonDecreasingBy (λ m. ordering_index (nat_cmp m n)) (map key xs)
    keys_answers xs n h i j d le lt = index_up (get_or (map key xs) i d) (get_or (map key xs) j d) n (keys_sorted xs h i j d le lt)

    -- those whose keys are below that of the first of a list come before it
    pub keys_before : (xs ys : List E) (first at : ℕ) → at ≤ length xs → 0 < length ys → first ≡ get_or (map key ys) 0 first → AllWithin (λ n. ltb n first ≡ true) (map key xs) 0 at
        → merge order xs ys ≡ take at xs ++ merge order (drop at xs) ys
    keys_before xs [] first at le some is below = absurd (omega arith)
    keys_before xs (z ∷ zs) first at le some is below =
        merge_below xs at z zs le (λ i d from lt.
        let read : get_or (map key xs) i first ≡ key (get_or xs i d) = get_or-map key xs i d first (omega arith) in
        let less : get_or (map key xs) i first < first = ltb-true (get_or (map key xs) i first) first (below i first from lt) in
        keyed (get_or xs i d) z (omega arith))
