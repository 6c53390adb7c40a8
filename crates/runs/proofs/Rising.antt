-- Rising lists: what stands in them, and that two with the same elements are one.
use Rattle.std.proofs.Common.{◌≡◌, ℕ, ◌≤◌, Bool, true, false, ◌&&◌, T, List, [], ◌∷◌, length, Ordering, Less, Equal, Greater, sym, refl, ap, ◌∙◌, subst, inl, inr, ⊎_elim, arith}
use Rattle.std.proofs.lemmas.Bool.{cases_lt}
use Rattle.std.specs.List.{AllByRecursion}
use Rattle.std.specs.Ordering.{is_lt, ordering_reverse}
use Rattle.runs.specs.Order.{Lawful}
use Rattle.runs.specs.Runs.{rising_from, rising}
use Rattle.runs.specs.Union.{Among, Least}
use Rattle.runs.proofs.Orders.{lawful_self}

pub both : (a b : Bool) → T a → T b → T (a && b)
both true b s t = t
both false b s t = s

pub left : (a b : Bool) → T (a && b) → T a
left true b t = tt
left false b t = t

pub right : (a b : Bool) → T (a && b) → T b
right true b t = t
right false b t = absurd t

-- a test that holds is true, and the other way round
pub true_from : (b : Bool) → T b → b ≡ true
true_from true t = refl
true_from false t = absurd t

pub holds_from : (b : Bool) → b ≡ true → T b
holds_from b e = subst T (sym e) tt

pub is_less : (o : Ordering) → o ≡ Less → T (is_lt o)
is_less o e = subst (λ (p : Ordering). T (is_lt p)) (sym e) tt

pub less_from : (o : Ordering) → T (is_lt o) → o ≡ Less
less_from Less t = refl
less_from Equal t = absurd t
less_from Greater t = absurd t

-- each of xs stands in ys
abbrev pub Within : {E : Type 0} → List E → List E → Type 0
Within {E} xs ys = (x : E) → Among x xs → Among x ys

pub all_among : {E : Type 0} (P : E → Type 0) (xs : List E) → AllByRecursion P xs → (x : E) → Among x xs → P x
all_among P [] h x m = absurd m
all_among P (y ∷ ys) h x m = ⊎_elim (λ e. subst P (sym e) h.0) (λ n. all_among P ys h.1 x n) m

pub all_from_among : {E : Type 0} (P : E → Type 0) (xs : List E) → ((x : E) → Among x xs → P x) → AllByRecursion P xs
all_from_among P [] h = tt
all_from_among P (y ∷ ys) h = (h y (inl refl), all_from_among P ys (λ x m. h x (inr m)))

module _ {E : Type 0} (order : E → E → Ordering) (laws : Lawful order) where
  pub never_less : (x : E) → order x x ≡ Less → ⊥
  never_less x e = let z : ◌≡◌ {A = Ordering} Less Equal = sym e ∙ lawful_self laws x in subst (λ (o : Ordering). T (is_lt o)) z tt

  pub less_turned : (x y : E) → order x y ≡ Greater → order y x ≡ Less
  less_turned x y e = laws.turns x y ∙ ap ordering_reverse e

  -- what follows x in a run is greater than x
  pub above : (x : E) (xs : List E) → T (rising_from order x xs) → AllByRecursion (λ y. order x y ≡ Less) xs
  above x [] h = tt
  above x (y ∷ ys) h =
      let xy = less_from (order x y) (left (is_lt (order x y)) (rising_from order y ys) h) in
      let rest = right (is_lt (order x y)) (rising_from order y ys) h in
      (xy, all_from_among (λ z. order x z ≡ Less) ys (λ z m. laws.trans x y z xy (all_among (λ w. order y w ≡ Less) ys (above y ys rest) z m)))

  pub rest_rises : (x : E) (xs : List E) → T (rising_from order x xs) → T (rising order xs)
  rest_rises x [] h = tt
  rest_rises x (y ∷ ys) h = right (is_lt (order x y)) (rising_from order y ys) h

  fills_first : (r : E) (rs : List E) (t : E) (ts : List E) → T (rising_from order r rs) → Within (r ∷ rs) (t ∷ ts) → (Within rs ts → rs ≡ ts) → r ≡ t → r ∷ rs ≡ t ∷ ts
  fills_first r rs t ts hr sub rest e =
      let down : Within rs ts = λ x m.
      let rx : order r x ≡ Less = all_among (λ y. order r y ≡ Less) rs (above r rs hr) x m in
      let no : x ≡ t → ⊥ = λ q. never_less r (subst (λ (y : E). order r y ≡ Less) (q ∙ sym e) rx) in
      ⊎_elim (λ q. absurd (no q)) (λ n. n) (sub x (inr m)) in
      let same = rest down in
      cc

  fills_later : (r : E) (rs : List E) (t : E) (ts : List E) → T (rising_from order r rs) → T (rising_from order t ts) → Within (r ∷ rs) (t ∷ ts) → (Within (r ∷ rs) ts → r ∷ rs ≡ ts) → Among r ts → r ∷ rs ≡ ts
  fills_later r rs t ts hr ht sub rest n =
      let tr : order t r ≡ Less = all_among (λ y. order t y ≡ Less) ts (above t ts ht) r n in
      let beyond : (x : E) → Among x (r ∷ rs) → order t x ≡ Less = λ x m.
      ⊎_elim (λ q. subst (λ (y : E). order t y ≡ Less) (sym q) tr) (λ k. laws.trans t r x tr (all_among (λ y. order r y ≡ Less) rs (above r rs hr) x k)) m in
      rest (λ x m. ⊎_elim (λ q. absurd (never_less t (subst (λ (y : E). order t y ≡ Less) q (beyond x m)))) (λ k. k) (sub x m))

  -- a run within another that is no longer is that other
  pub fills : (rs ts : List E) → T (rising order rs) → T (rising order ts) → Within rs ts → length ts ≤ length rs → rs ≡ ts
  fills [] [] hr ht sub le = refl
  fills [] (t ∷ ts) hr ht sub le = absurd (omega arith)
  fills (r ∷ rs) [] hr ht sub le = absurd (sub r (inl refl))
  fills (r ∷ rs) (t ∷ ts) hr ht sub le =
      ⊎_elim
      (fills_first r rs t ts hr sub (λ down. fills rs ts (rest_rises r rs hr) (rest_rises t ts ht) down (omega arith)))
      (λ n. let same = fills_later r rs t ts hr ht sub (λ down. fills (r ∷ rs) ts hr (rest_rises t ts ht) down (omega arith)) n in absurd (omega (arith, ap length same)))
      (sub r (inl refl))

  -- what P tells of decides the run of its k least elements
  module _ (k : ℕ) (P Q : E → Type 0) (rs ss : List E) (a : Least order k P rs) (b : Least order k Q ss) (pq : (x : E) → P x → Q x) (qp : (x : E) → Q x → P x) where
    -- ss cannot be full below an element of rs
    not_full : (r : E) → Among r rs → (length ss ≡ k) × AllByRecursion (λ s. order s r ≡ Less) ss → ⊥
    not_full r m full =
        let few : length rs ≤ k = a.few in
        let sub : Within ss rs = λ s n.
        ⊎_elim (λ h. h) (λ h. absurd (never_less r (laws.trans r s r (all_among (λ y. order y s ≡ Less) rs h.1 r m) (all_among (λ y. order y r ≡ Less) ss full.1 s n)))) (a.least s (qp s (b.found s n))) in
        let same = fills ss rs b.rises a.rises sub (omega (arith, full.0)) in
        never_less r (all_among (λ y. order y r ≡ Less) ss full.1 r (subst (λ (l : List E). Among r l) (sym same) m))

    pub least_within : Within rs ss
    least_within r m = ⊎_elim (λ h. h) (λ h. absurd (not_full r m h)) (b.least r (pq r (a.found r m)))

  pub least_same : (k : ℕ) (P Q : E → Type 0) (rs ss : List E) → Least order k P rs → Least order k Q ss → ((x : E) → P x → Q x) → ((x : E) → Q x → P x) → rs ≡ ss
  least_same k P Q rs ss a b pq qp =
      let there = least_within k P Q rs ss a b pq qp in
      let back = least_within k Q P ss rs b a qp pq in
      ⊎_elim
      (λ lt. fills rs ss a.rises b.rises there (omega arith))
      (λ le. sym (fills ss rs b.rises a.rises back le))
      (cases_lt (length ss) (length rs))
