-- Folds over contributions, and other arrangements of them.
use Rattle.std.specs.Prelude.{◌≡◌, ℕ, suc, Bool, cond, ◌⊎◌, [], ◌∷◌, length, Ok, Err, Result}
use Rattle.synopsis.specs.declared.fault.DecodeFault.{DecodeFault}
use Rattle.synopsis.specs.Kind.{Kind}
use Rattle.histories.specs.Deeds.{Contribution, reading, frame, contributed, sent, delivered, dropped, nothing, History}
use Rattle.histories.specs.Paths.{Did, Reaches}
use Rattle.histories.specs.Search.{reaches, carries}

module _ (k : Kind) where
  -- the form that bytes were read as
  abbrev pub read_as : Result k.Form DecodeFault → k.Form
  read_as (Ok x) = x
  read_as (Err e) = k.none

  -- a contribution's form: its reading's, or the one that its bytes encode
  abbrev pub contribution_form : Contribution → k.Form
  contribution_form (reading r) = k.single r
  contribution_form (frame bytes) = read_as (k.decoding bytes)

  -- the fold, from the empty form and in turn order, over the contributions whose turns pass the test
  abbrev pub fold_over : (ℕ → Bool) → History → k.Form
  fold_over p [] = k.none
  fold_over p (contributed m g ∷ h) = cond (p (suc (length h))) (k.join (fold_over p h) (contribution_form g)) (fold_over p h)
  fold_over p (sent m r ∷ h) = fold_over p h
  fold_over p (delivered r m ∷ h) = fold_over p h
  fold_over p (dropped r ∷ h) = fold_over p h
  fold_over p (nothing ∷ h) = fold_over p h

  -- what node n should hold, and what the frame in slot s should be of
  abbrev pub node_form : History → ℕ → k.Form
  node_form h n = fold_over (reaches h n) h

  abbrev pub slot_form : History → ℕ → k.Form
  slot_form h s = fold_over (carries h s) h

-- x is y joined with one form more where a path is there, and y itself where none is
abbrev pub JoinedWhere : {F : Type 0} → (path : Type 0) (x joined y : F) → Type 0
JoinedWhere path x joined y = (path × (x ≡ joined)) ⊎ ((path → ⊥) × (x ≡ y))

module _ (k : Kind) (h : History) (n : ℕ) where
  -- x is the fold, from the empty form and in turn order, over exactly those contributions of the oldest turns of h that
  -- have a delivered path to node n
  abbrev pub IsFoldOver : History → k.Form → Type 0
  IsFoldOver [] x = x ≡ k.none
  IsFoldOver (contributed m g ∷ oldest) x = (y : k.Form) × IsFoldOver oldest y × JoinedWhere (Reaches h (suc (length oldest)) n) x (k.join y (contribution_form k g)) y
  IsFoldOver (sent m r ∷ oldest) x = IsFoldOver oldest x
  IsFoldOver (delivered r m ∷ oldest) x = IsFoldOver oldest x
  IsFoldOver (dropped r ∷ oldest) x = IsFoldOver oldest x
  IsFoldOver (nothing ∷ oldest) x = IsFoldOver oldest x

  -- x is the fold, from the empty form and in turn order, over exactly the contributions with a delivered path to node n
  abbrev pub IsFold : k.Form → Type 0
  IsFold x = IsFoldOver h x

-- forms joined two at a time, in any order and bracketing
pub data Tree (A : Type 0) : Type 0 where
  leaf : A → Tree A
  fork : Tree A → Tree A → Tree A

abbrev pub Leaf : {A : Type 0} → A → Tree A → Type 0
Leaf x (leaf y) = x ≡ y
Leaf x (fork l r) = Leaf x l ⊎ Leaf x r

-- the contribution of turn t, g, has a path to node n
pub record Came (h : History) (n : ℕ) (g : Contribution) : Type 0 where
  pub turn : ℕ
  pub node : ℕ
  pub did : Did h turn (contributed node g)
  pub path : Reaches h turn n

module _ (k : Kind) where
  abbrev pub tree_form : Tree Contribution → k.Form
  tree_form (leaf g) = contribution_form k g
  tree_form (fork l r) = k.join (tree_form l) (tree_form r)

  -- an arrangement of the contributions with a path to node n: a tree whose leaves are these, each once or more, and
  -- no other; or, where there are none, the empty form
  pub data Arranged (h : History) (n : ℕ) : k.Form → Type 0 where
    arranged : (t : Tree Contribution) → ((g : Contribution) → Leaf g t → Came h n g) → ((g : Contribution) → Came h n g → Leaf g t) → Arranged h n (tree_form t)
    none_came : ((g : Contribution) → Came h n g → ⊥) → Arranged h n k.none
