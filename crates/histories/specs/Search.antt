-- A search for paths that computes.
use Rattle.std.specs.Prelude.{◌≡◌, ℕ, suc, Bool, false, cond, ◌&&◌, ◌||◌, [], ◌∷◌, length, ◌==◌}
use Rattle.histories.specs.Deeds.{contributed, sent, delivered, dropped, nothing, History}

-- is slot s filled?
abbrev pub filled : History → ℕ → Bool
filled [] s = false
filled (contributed m g ∷ h) s = filled h s
filled (sent m r ∷ h) s = r == s || filled h s
filled (delivered r m ∷ h) s = filled h s
filled (dropped r ∷ h) s = cond (r == s) false (filled h s)
filled (nothing ∷ h) s = filled h s

abbrev mutual
  -- has the contribution of turn t reached node n?
  pub reaches : History → ℕ → ℕ → Bool
  reaches [] n t = false
  reaches (contributed m g ∷ h) n t = (m == n && t == suc (length h)) || reaches h n t
  reaches (sent m r ∷ h) n t = reaches h n t
  reaches (delivered r m ∷ h) n t = (m == n && carries h r t) || reaches h n t
  reaches (dropped r ∷ h) n t = reaches h n t
  reaches (nothing ∷ h) n t = reaches h n t

  -- does the frame in slot s carry it?
  pub carries : History → ℕ → ℕ → Bool
  carries [] s t = false
  carries (contributed m g ∷ h) s t = carries h s t
  carries (sent m r ∷ h) s t = cond (r == s) (reaches h m t) (carries h s t)
  carries (delivered r m ∷ h) s t = carries h s t
  carries (dropped r ∷ h) s t = cond (r == s) false (carries h s t)
  carries (nothing ∷ h) s t = carries h s t

-- sends went only into free slots
abbrev pub Sound : History → Type 0
Sound [] = Unit {0}
Sound (contributed m g ∷ h) = Sound h
Sound (sent m r ∷ h) = (filled h r ≡ false) × Sound h
Sound (delivered r m ∷ h) = Sound h
Sound (dropped r ∷ h) = Sound h
Sound (nothing ∷ h) = Sound h
