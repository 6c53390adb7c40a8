-- Delivered paths.
use Rattle.std.specs.Prelude.{ℕ, suc, ◌<◌, ◌∷◌, length}
use Rattle.histories.specs.Deeds.{Contribution, Deed, contributed, sent, delivered, dropped, History}

-- turn i of the history did d
pub data Did : History → ℕ → Deed → Type 0 where
  newest : {h : History} {d : Deed} → Did (d ∷ h) (suc (length h)) d
  before : {h : History} {e d : Deed} {i : ℕ} → Did h i d → Did (e ∷ h) i d

-- no accepted drop of slot s between turns i and j
abbrev pub Undropped : History → ℕ → ℕ → ℕ → Type 0
Undropped h s i j = (l : ℕ) → i < l → l < j → Did h l (dropped s) → ⊥

-- a path from the contribution of turn t to a node, whose last turn is the second index: a chain of hops, possibly
-- none. A hop is a send into a slot and a later delivery of that slot, with no drop of it between; the first send is
-- later than the contribution, and each further one later than the delivery before it.
pub data Path (h : History) (t : ℕ) : ℕ → ℕ → Type 0 where
  start : {n : ℕ} {g : Contribution} → Did h t (contributed n g) → Path h t n t
  hop : {m n s i k j : ℕ} → Path h t m i → i < k → Did h k (sent m s) → k < j → Did h j (delivered s n) → Undropped h s k j → Path h t n j

-- the contribution of turn t has a path to node n
abbrev pub Reaches : History → ℕ → ℕ → Type 0
Reaches h t n = (j : ℕ) × Path h t n j

-- slot s is filled: an accepted send into it, and no drop of it since
abbrev pub Filled : History → ℕ → Type 0
Filled h s = (i : ℕ) × (m : ℕ) × Did h i (sent m s) × ((l : ℕ) → i < l → Did h l (dropped s) → ⊥)
