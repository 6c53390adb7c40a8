-- Whoever listens is told the answers of turns, one by one.
use Rattle.std.specs.Prelude.{List, [], ◌∷◌, ◌++◌, Result, MatchResult}
use Rattle.diffusion.specs.Turns.{Told}

-- what hearing an answer makes of a listener, or refusing to hear it
abbrev pub HearsOrStops : {L E : Type 0} (hears stops : L → Told → L → Type 0) → Result (Unit {0}) E → L → Told → L → Type 0
HearsOrStops hears stops result old told new = MatchResult result (λ _. hears old told new) (λ _. stops old told new)

-- from one state of a listener to another, by hearing these answers in their order
pub data Heard {L : Type 0} (hears : L → Told → L → Type 0) (first : L) : List Told → L → Type 0 where
  silence : Heard hears first [] first
  more : {ws : List Told} {mid : L} → Heard hears first ws mid → (w : Told) (last : L) → hears mid w last → Heard hears first (ws ++ w ∷ []) last
