-- The fold that the search computes is that over exactly the contributions with a path, and there is no other; folds over
-- equal sets of contributions are one.
use Rattle.std.proofs.Common.{◌≡◌, ℕ, suc, Bool, true, false, cond, [], ◌∷◌, length, refl, inl, inr, sym, ap, ◌∙◌, subst, ⊎_elim}
use Rattle.std.proofs.lemmas.Bool.{cond-true, cond-false, both_ways}
use Rattle.synopsis.specs.Kind.{Kind, Laws}
use Rattle.histories.specs.Deeds.{Contribution, contributed, sent, delivered, dropped, nothing, History}
use Rattle.histories.specs.Paths.{Did, newest, before, Reaches}
use Rattle.histories.specs.Search.{reaches}
use Rattle.histories.specs.Folds.{contribution_form, fold_over, JoinedWhere, IsFoldOver, IsFold, Came}
use Rattle.histories.proofs.Folding.{Below, below_both, below_left, below_right, join_below}

-- a test that tells of a path chooses as the path does
chosen : {F : Type 0} (path : Type 0) (b : Bool) (joined y : F) → (b ≡ true → path) → (path → b ≡ true) → (c : Bool) → b ≡ c → JoinedWhere path (cond b joined y) joined y
chosen path b joined y found complete true e = inl (found e, cond-true b joined y e)
chosen path b joined y found complete false e = inr (λ p. both_ways b e (complete p), cond-false b joined y e)

-- two choices by one path agree, where what they choose from does
same_choice : {F : Type 0} (path : Type 0) (x x' joined joined' y y' : F) → joined ≡ joined' → y ≡ y' → JoinedWhere path x joined y → JoinedWhere path x' joined' y' → x ≡ x'
same_choice path x x' joined joined' y y' same rest p q =
    ⊎_elim
    (λ a. ⊎_elim (λ b. a.1 ∙ same ∙ sym b.1) (λ b. absurd (b.0 a.0)) q)
    (λ a. ⊎_elim (λ b. absurd (a.0 b.0)) (λ b. a.1 ∙ rest ∙ sym b.1) q)
    p

module _ (k : Kind) (h : History) (n : ℕ) where
  module _ (found : (t : ℕ) → reaches h n t ≡ true → Reaches h t n) (complete : (t : ℕ) → Reaches h t n → reaches h n t ≡ true) where
    pub search_folds : (oldest : History) → IsFoldOver k h n oldest (fold_over k (reaches h n) oldest)
    search_folds [] = refl
    search_folds (contributed m g ∷ oldest) =
        let t = suc (length oldest) in
        let y = fold_over k (reaches h n) oldest in
        (y, search_folds oldest, chosen (Reaches h t n) (reaches h n t) (k.join y (contribution_form k g)) y (found t) (complete t) (reaches h n t) refl)
    search_folds (sent m r ∷ oldest) = search_folds oldest
    search_folds (delivered r m ∷ oldest) = search_folds oldest
    search_folds (dropped r ∷ oldest) = search_folds oldest
    search_folds (nothing ∷ oldest) = search_folds oldest

  pub fold_unique : (oldest : History) (x y : k.Form) → IsFoldOver k h n oldest x → IsFoldOver k h n oldest y → x ≡ y
  fold_unique [] x y p q = p ∙ sym q
  fold_unique (contributed m g ∷ oldest) x y p q =
      let rest : p.0 ≡ q.0 = fold_unique oldest p.0 q.0 p.1 q.1 in
      same_choice (Reaches h (suc (length oldest)) n) x y (k.join p.0 (contribution_form k g)) (k.join q.0 (contribution_form k g)) p.0 q.0 (ap (λ (z : k.Form). k.join z (contribution_form k g)) rest) rest p.2 q.2
  fold_unique (sent m r ∷ oldest) x y p q = fold_unique oldest x y p q
  fold_unique (delivered r m ∷ oldest) x y p q = fold_unique oldest x y p q
  fold_unique (dropped r ∷ oldest) x y p q = fold_unique oldest x y p q
  fold_unique (nothing ∷ oldest) x y p q = fold_unique oldest x y p q

module _ (k : Kind) (laws : Laws k) where
  module _ (h : History) (n : ℕ) where
    -- every contribution with a path is below the fold over them
    arrived_below : {oldest : History} {t m : ℕ} {g : Contribution} → Did oldest t (contributed m g) → Reaches h t n → (x : k.Form) → IsFoldOver k h n oldest x → Below k (contribution_form k g) x
    arrived_below {g = g} newest path x f =
        ⊎_elim
        (λ a. subst (λ z. Below k (contribution_form k g) z) (sym a.1) (below_right k laws (contribution_form k g) f.0 (contribution_form k g) (laws.idem (contribution_form k g))))
        (λ a. absurd (a.0 path))
        f.2
    arrived_below {g = g} (before {e = contributed m' g'} d) path x f =
        let rest = arrived_below d path f.0 f.1 in
        ⊎_elim
        (λ a. subst (λ z. Below k (contribution_form k g) z) (sym a.1) (below_left k laws (contribution_form k g) f.0 (contribution_form k g') rest))
        (λ a. subst (λ z. Below k (contribution_form k g) z) (sym a.1) rest)
        f.2
    arrived_below (before {e = sent m r} d) path x f = arrived_below d path x f
    arrived_below (before {e = delivered r m} d) path x f = arrived_below d path x f
    arrived_below (before {e = dropped r} d) path x f = arrived_below d path x f
    arrived_below (before {e = nothing} d) path x f = arrived_below d path x f

    -- and the fold is below whatever all of these are below
    exactly_least : (oldest : History) (x y : k.Form) → IsFoldOver k h n oldest x → ((t m : ℕ) (g : Contribution) → Did oldest t (contributed m g) → Reaches h t n → Below k (contribution_form k g) y) → Below k x y
    exactly_least [] x y f all = subst (λ z. Below k z y) (sym f) (laws.unit y)
    exactly_least (contributed m g ∷ oldest) x y f all =
        let rest = exactly_least oldest f.0 y f.1 (λ t m' g' d path. all t m' g' (before d) path) in
        ⊎_elim
        (λ a. subst (λ z. Below k z y) (sym a.1) (join_below k laws f.0 (contribution_form k g) y rest (all (suc (length oldest)) m g newest a.0)))
        (λ a. subst (λ z. Below k z y) (sym a.1) rest)
        f.2
    exactly_least (sent m r ∷ oldest) x y f all = exactly_least oldest x y f (λ t m' g' d path. all t m' g' (before d) path)
    exactly_least (delivered r m ∷ oldest) x y f all = exactly_least oldest x y f (λ t m' g' d path. all t m' g' (before d) path)
    exactly_least (dropped r ∷ oldest) x y f all = exactly_least oldest x y f (λ t m' g' d path. all t m' g' (before d) path)
    exactly_least (nothing ∷ oldest) x y f all = exactly_least oldest x y f (λ t m' g' d path. all t m' g' (before d) path)

  -- a fold is below one that has all of its contributions
  more_came : (h h' : History) (n n' : ℕ) (x x' : k.Form) → IsFold k h n x → IsFold k h' n' x' → ((g : Contribution) → Came h n g → Came h' n' g) → Below k x x'
  more_came h h' n n' x x' f f' there =
      exactly_least h n h x x' f (λ t m g d path. let c = there g (record { turn = t; node = m; did = d; path = path }) in arrived_below h' n' c.did c.path x' f')

  -- folds over equal sets of contributions, of one history or two, are one
  pub equal_folds : (h h' : History) (n n' : ℕ) (x x' : k.Form) → IsFold k h n x → IsFold k h' n' x' → ((g : Contribution) → Came h n g → Came h' n' g) → ((g : Contribution) → Came h' n' g → Came h n g) → x ≡ x'
  equal_folds h h' n n' x x' f f' there back = below_both k laws x x' (more_came h h' n n' x x' f f' there) (more_came h' h n' n x' x f' f back)
