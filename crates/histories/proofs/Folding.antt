-- What turns do to the folds over contributions, and that every arrangement of the contributions is their fold.
use Rattle.std.proofs.Common.{◌≡◌, ℕ, suc, ◌<◌, ◌≤◌, Bool, true, false, cond, ◌&&◌, ◌||◌, eqb, [], ◌∷◌, length, sym, refl, ap, ◌∙◌, subst, inl, inr, ⊎_elim, arith}
use Rattle.std.proofs.lemmas.Bool.{eq-eqb, ne_eqb, and_right, and_from, or_from, or_left, cond-true, cond-false, cond_both}
use Rattle.synopsis.specs.Kind.{Kind, Laws}
use Rattle.histories.specs.Deeds.{Contribution, Deed, contributed, sent, delivered, dropped, nothing, History}
use Rattle.histories.specs.Paths.{Did, newest, before, Reaches}
use Rattle.histories.specs.Search.{reaches, carries}
use Rattle.histories.specs.Folds.{contribution_form, fold_over, node_form, slot_form, Tree, leaf, fork, Leaf, Came, tree_form, Arranged, arranged, none_came}

-- a turn that is yet to come has reached no node, and no frame carries it
mutual
  pub reaches_late : (h : History) (n t : ℕ) → length h < t → reaches h n t ≡ false
  reaches_late [] n t lt = refl
  reaches_late (contributed m g ∷ h) n t lt =
      let no : eqb t (suc (length h)) ≡ false = ne_eqb t (suc (length h)) (λ e. omega arith) in
      or_from (eqb m n && eqb t (suc (length h))) (reaches h n t) (and_right (eqb m n) _ no) (reaches_late h n t (omega arith))
  reaches_late (sent m r ∷ h) n t lt = reaches_late h n t (omega arith)
  reaches_late (delivered r m ∷ h) n t lt = or_from (eqb m n && carries h r t) (reaches h n t) (and_right (eqb m n) _ (carries_late h r t (omega arith))) (reaches_late h n t (omega arith))
  reaches_late (dropped r ∷ h) n t lt = reaches_late h n t (omega arith)
  reaches_late (nothing ∷ h) n t lt = reaches_late h n t (omega arith)

  pub carries_late : (h : History) (s t : ℕ) → length h < t → carries h s t ≡ false
  carries_late [] s t lt = refl
  carries_late (contributed m g ∷ h) s t lt = carries_late h s t (omega arith)
  carries_late (sent m r ∷ h) s t lt = cond_both (eqb r s) (reaches h m t) (carries h s t) (λ b. b ≡ false) (λ e. reaches_late h m t (omega arith)) (λ e. carries_late h s t (omega arith))
  carries_late (delivered r m ∷ h) s t lt = carries_late h s t (omega arith)
  carries_late (dropped r ∷ h) s t lt = cond_both (eqb r s) false (carries h s t) (λ b. b ≡ false) (λ e. refl) (λ e. carries_late h s t (omega arith))
  carries_late (nothing ∷ h) s t lt = carries_late h s t (omega arith)

module _ (k : Kind) where
  -- the fold depends on the test only at the turns of the history
  pub fold_same : (p q : ℕ → Bool) (h : History) → ((t : ℕ) → t ≤ length h → p t ≡ q t) → fold_over k p h ≡ fold_over k q h
  fold_same p q [] same = refl
  fold_same p q (contributed m g ∷ h) same =
      let now = same (suc (length h)) (omega arith) in
      let rest = fold_same p q h (λ t le. same t (omega arith)) in
      cc
  fold_same p q (sent m r ∷ h) same = fold_same p q h (λ t le. same t (omega arith))
  fold_same p q (delivered r m ∷ h) same = fold_same p q h (λ t le. same t (omega arith))
  fold_same p q (dropped r ∷ h) same = fold_same p q h (λ t le. same t (omega arith))
  fold_same p q (nothing ∷ h) same = fold_same p q h (λ t le. same t (omega arith))

  -- the fold over no contributions is the empty form
  pub fold_none : (h : History) → fold_over k (λ t. false) h ≡ k.none
  fold_none [] = refl
  fold_none (contributed m g ∷ h) = fold_none h
  fold_none (sent m r ∷ h) = fold_none h
  fold_none (delivered r m ∷ h) = fold_none h
  fold_none (dropped r ∷ h) = fold_none h
  fold_none (nothing ∷ h) = fold_none h

  -- a contribution at a node is joined to what that node holds
  pub gave_here : (h : History) (m : ℕ) (g : Contribution) → node_form k (contributed m g ∷ h) m ≡ k.join (node_form k h m) (contribution_form k g)
  gave_here h m g =
      let now : reaches (contributed m g ∷ h) m (suc (length h)) ≡ true = or_left _ _ (and_from _ _ (eq-eqb m m refl) (eq-eqb (suc (length h)) (suc (length h)) refl)) in
      let rest : fold_over k (reaches (contributed m g ∷ h) m) h ≡ node_form k h m =
      fold_same (reaches (contributed m g ∷ h) m) (reaches h m) h (λ t le. gone (eqb m m) (eqb t (suc (length h))) (reaches h m t) (ne_eqb t (suc (length h)) (λ e. omega arith))) in
      cond-true (reaches (contributed m g ∷ h) m (suc (length h))) _ _ now ∙ ap (λ x. k.join x (contribution_form k g)) rest
    where
      gone : (a b c : Bool) → b ≡ false → ((a && b) || c) ≡ c
      gone true b c e = ap (λ x. x || c) e
      gone false b c e = refl

  -- and no other node holds more for it
  pub gave_else : (h : History) (m n : ℕ) (g : Contribution) → (m ≡ n → ⊥) → node_form k (contributed m g ∷ h) n ≡ node_form k h n
  gave_else h m n g ne =
      let off : eqb m n ≡ false = ne_eqb m n ne in
      let same : (t : ℕ) → reaches (contributed m g ∷ h) n t ≡ reaches h n t = λ t. ap (λ x. (x && eqb t (suc (length h))) || reaches h n t) off in
      let now = same (suc (length h)) ∙ reaches_late h n (suc (length h)) (omega arith) in
      cond-false (reaches (contributed m g ∷ h) n (suc (length h))) _ _ now ∙ fold_same (reaches (contributed m g ∷ h) n) (reaches h n) h (λ t le. same t)

  -- nor does a frame
  pub gave_slot : (h : History) (m : ℕ) (g : Contribution) (s : ℕ) → slot_form k (contributed m g ∷ h) s ≡ slot_form k h s
  gave_slot h m g s = cond-false (carries h s (suc (length h))) _ _ (carries_late h s (suc (length h)) (omega arith)) ∙ fold_same (carries (contributed m g ∷ h) s) (carries h s) h (λ t le. refl)

  -- its slot has a frame of what the sender holds
  pub sent_here : (h : History) (m s : ℕ) → slot_form k (sent m s ∷ h) s ≡ node_form k h m
  sent_here h m s = fold_same (carries (sent m s ∷ h) s) (reaches h m) h (λ t le. cond-true (eqb s s) _ _ (eq-eqb s s refl))

  -- and the other slots have what they had
  pub sent_else : (h : History) (m r s : ℕ) → (r ≡ s → ⊥) → slot_form k (sent m r ∷ h) s ≡ slot_form k h s
  sent_else h m r s ne = fold_same (carries (sent m r ∷ h) s) (carries h s) h (λ t le. cond-false (eqb r s) _ _ (ne_eqb r s ne))

  -- a delivery leaves the other nodes as they were
  pub delivered_else : (h : History) (s m n : ℕ) → (m ≡ n → ⊥) → node_form k (delivered s m ∷ h) n ≡ node_form k h n
  delivered_else h s m n ne = fold_same (reaches (delivered s m ∷ h) n) (reaches h n) h (λ t le. ap (λ x. (x && carries h s t) || reaches h n t) (ne_eqb m n ne))

  -- a dropped slot has nothing, and the other slots have what they had
  pub dropped_here : (h : History) (s : ℕ) → slot_form k (dropped s ∷ h) s ≡ k.none
  dropped_here h s = fold_same (carries (dropped s ∷ h) s) (λ t. false) h (λ t le. cond-true (eqb s s) _ _ (eq-eqb s s refl)) ∙ fold_none h

  pub dropped_else : (h : History) (r s : ℕ) → (r ≡ s → ⊥) → slot_form k (dropped r ∷ h) s ≡ slot_form k h s
  dropped_else h r s ne = fold_same (carries (dropped r ∷ h) s) (carries h s) h (λ t le. cond-false (eqb r s) _ _ (ne_eqb r s ne))

  -- x is below y where y has nothing to gain from x
  abbrev pub Below : k.Form → k.Form → Type 0
  Below x y = k.join x y ≡ y

-- the search finds only paths, and it finds every path
abbrev pub Found : History → Type 0
Found h = (n t : ℕ) → reaches h n t ≡ true → Reaches h t n

abbrev pub Complete : History → Type 0
Complete h = (n t : ℕ) → Reaches h t n → reaches h n t ≡ true

module _ (k : Kind) (laws : Laws k) where
  -- the empty form adds nothing
  pub unit_right : (x : k.Form) → k.join x k.none ≡ x
  unit_right x = laws.comm x k.none ∙ laws.unit x

  -- forms that are below each other are one
  pub below_both : (x y : k.Form) → Below k x y → Below k y x → x ≡ y
  below_both x y p q = sym q ∙ laws.comm y x ∙ p

  -- a form that is below one part of a join is below the join, and a join of forms below y is below y
  pub below_left : (x y z : k.Form) → Below k x y → Below k x (k.join y z)
  below_left x y z p = sym (laws.assoc x y z) ∙ ap (λ w. k.join w z) p

  pub below_right : (x y z : k.Form) → Below k x z → Below k x (k.join y z)
  below_right x y z p = ap (λ w. k.join x w) (laws.comm y z) ∙ below_left x z y p ∙ laws.comm z y

  pub join_below : (x y z : k.Form) → Below k x z → Below k y z → Below k (k.join x y) z
  join_below x y z p q = laws.assoc x y z ∙ ap (λ w. k.join x w) q ∙ p

  -- one contribution in the two folds and in their join
  or_step : (a b : Bool) (f x y g : k.Form) → f ≡ k.join x y → cond (a || b) (k.join f g) f ≡ k.join (cond a (k.join x g) x) (cond b (k.join y g) y)
  or_step true true f x y g e = ap (λ w. k.join w g) e ∙ below_both (k.join (k.join x y) g) (k.join (k.join x g) (k.join y g)) under over
    where
      self : (z : k.Form) → Below k z z
      self z = laws.idem z

      under : Below k (k.join (k.join x y) g) (k.join (k.join x g) (k.join y g))
      under =
          join_below (k.join x y) g _
          (join_below x y _ (below_left x (k.join x g) (k.join y g) (below_left x x g (self x))) (below_right y (k.join x g) (k.join y g) (below_left y y g (self y))))
          (below_left g (k.join x g) (k.join y g) (below_right g x g (self g)))

      over : Below k (k.join (k.join x g) (k.join y g)) (k.join (k.join x y) g)
      over =
          join_below (k.join x g) (k.join y g) _
          (join_below x g _ (below_left x (k.join x y) g (below_left x x y (self x))) (below_right g (k.join x y) g (self g)))
          (join_below y g _ (below_left y (k.join x y) g (below_right y x y (self y))) (below_right g (k.join x y) g (self g)))
  or_step true false f x y g e = ap (λ w. k.join w g) e ∙ laws.assoc x y g ∙ ap (λ w. k.join x w) (laws.comm y g) ∙ sym (laws.assoc x g y)
  or_step false true f x y g e = ap (λ w. k.join w g) e ∙ laws.assoc x y g
  or_step false false f x y g e = e

  -- the fold over the contributions that pass either test is the join of both folds
  pub fold_or : (p q : ℕ → Bool) (h : History) → fold_over k (λ t. p t || q t) h ≡ k.join (fold_over k p h) (fold_over k q h)
  fold_or p q [] = sym (laws.idem k.none)
  fold_or p q (contributed m g ∷ h) = or_step (p (suc (length h))) (q (suc (length h))) _ (fold_over k p h) (fold_over k q h) (contribution_form k g) (fold_or p q h)
  fold_or p q (sent m r ∷ h) = fold_or p q h
  fold_or p q (delivered r m ∷ h) = fold_or p q h
  fold_or p q (dropped r ∷ h) = fold_or p q h
  fold_or p q (nothing ∷ h) = fold_or p q h

  -- a delivery joins what the slot's frame is of to what the node holds
  pub delivered_here : (h : History) (s m : ℕ) → node_form k (delivered s m ∷ h) m ≡ k.join (node_form k h m) (slot_form k h s)
  delivered_here h s m =
      fold_same k (reaches (delivered s m ∷ h) m) (λ t. carries h s t || reaches h m t) h (λ t le. ap (λ x. (x && carries h s t) || reaches h m t) (eq-eqb m m refl))
      ∙ fold_or (carries h s) (reaches h m) h
      ∙ laws.comm (slot_form k h s) (node_form k h m)

  -- what is below the fold stays below it
  more_below : (p : ℕ → Bool) (h : History) (e : Deed) (x : k.Form) → Below k x (fold_over k p h) → Below k x (fold_over k p (e ∷ h))
  more_below p h (contributed m g) x b = cond_both (p (suc (length h))) _ _ (λ y. Below k x y) (λ e. below_left x (fold_over k p h) (contribution_form k g) b) (λ e. b)
  more_below p h (sent m r) x b = b
  more_below p h (delivered r m) x b = b
  more_below p h (dropped r) x b = b
  more_below p h nothing x b = b

  -- every contribution whose turn passes the test is below the fold
  pub came_below : (p : ℕ → Bool) {h : History} {t m : ℕ} {g : Contribution} → Did h t (contributed m g) → p t ≡ true → Below k (contribution_form k g) (fold_over k p h)
  came_below p {g = g} (newest {h}) pass = subst (λ y. Below k (contribution_form k g) y) (sym (cond-true (p (suc (length h))) _ (fold_over k p h) pass)) (below_right (contribution_form k g) (fold_over k p h) (contribution_form k g) (laws.idem (contribution_form k g)))
  came_below p {g = g} (before {h} {e} d) pass = more_below p h e (contribution_form k g) (came_below p d pass)

  -- and the fold is below whatever all of these are below
  pub fold_least : (p : ℕ → Bool) (h : History) (y : k.Form) → ((t m : ℕ) (g : Contribution) → Did h t (contributed m g) → p t ≡ true → Below k (contribution_form k g) y) → Below k (fold_over k p h) y
  fold_least p [] y all = laws.unit y
  fold_least p (contributed m g ∷ h) y all =
      let rest = fold_least p h y (λ t n f d. all t n f (before d)) in
      cond_both (p (suc (length h))) _ _ (λ x. Below k x y) (λ e. join_below _ _ y rest (all (suc (length h)) m g newest e)) (λ e. rest)
  fold_least p (sent m r ∷ h) y all = fold_least p h y (λ t n f d. all t n f (before d))
  fold_least p (delivered r m ∷ h) y all = fold_least p h y (λ t n f d. all t n f (before d))
  fold_least p (dropped r ∷ h) y all = fold_least p h y (λ t n f d. all t n f (before d))
  fold_least p (nothing ∷ h) y all = fold_least p h y (λ t n f d. all t n f (before d))

  -- each leaf is below its tree's form, and that form is below whatever all of the leaves are below
  leaf_below : (t : Tree Contribution) (g : Contribution) → Leaf g t → Below k (contribution_form k g) (tree_form k t)
  leaf_below (leaf f) g e = ap (λ x. k.join (contribution_form k x) (contribution_form k f)) e ∙ laws.idem (contribution_form k f)
  leaf_below (fork l r) g e = ⊎_elim (λ a. below_left (contribution_form k g) (tree_form k l) (tree_form k r) (leaf_below l g a)) (λ a. below_right (contribution_form k g) (tree_form k l) (tree_form k r) (leaf_below r g a)) e

  tree_least : (t : Tree Contribution) (y : k.Form) → ((g : Contribution) → Leaf g t → Below k (contribution_form k g) y) → Below k (tree_form k t) y
  tree_least (leaf f) y all = all f refl
  tree_least (fork l r) y all = join_below (tree_form k l) (tree_form k r) y (tree_least l y (λ g a. all g (inl a))) (tree_least r y (λ g a. all g (inr a)))

  -- the contributions with a path to a node are below what the node should hold, and that is below whatever all of
  -- them are below
  pub path_below : (h : History) (n : ℕ) → Complete h → (g : Contribution) → Came h n g → Below k (contribution_form k g) (node_form k h n)
  path_below h n complete g c = came_below (reaches h n) c.did (complete n c.turn c.path)

  pub node_least : (h : History) (n : ℕ) → Found h → (y : k.Form) → ((g : Contribution) → Came h n g → Below k (contribution_form k g) y) → Below k (node_form k h n) y
  node_least h n found y all = fold_least (reaches h n) h y (λ t m g d pass. all g (record { turn = t; node = m; did = d; path = found n t pass }))

  -- every arrangement of the contributions with a path to n is the fold
  pub arranged_is : (h : History) (n : ℕ) → Found h → Complete h → (x : k.Form) → Arranged k h n x → x ≡ node_form k h n
  arranged_is h n found complete _ (arranged t only each) =
      below_both (tree_form k t) (node_form k h n)
      (tree_least t (node_form k h n) (λ g a. path_below h n complete g (only g a)))
      (node_least h n found (tree_form k t) (λ g c. leaf_below t g (each g c)))
  arranged_is h n found complete _ (none_came empty) = sym (node_least h n found k.none (λ g c. absurd (empty g c))) ∙ unit_right (node_form k h n)

  -- nodes with equal sets of contributions hold the same, in one history or two
  pub same_contributions : (h h' : History) (n n' : ℕ) → Found h → Complete h → Found h' → Complete h' → ((g : Contribution) → Came h n g → Came h' n' g) → ((g : Contribution) → Came h' n' g → Came h n g) → node_form k h n ≡ node_form k h' n'
  same_contributions h h' n n' found complete found' complete' there back =
      below_both (node_form k h n) (node_form k h' n')
      (node_least h n found (node_form k h' n') (λ g c. path_below h' n' complete' g (there g c)))
      (node_least h' n' found' (node_form k h n) (λ g c. path_below h n complete g (back g c)))
