-- What went into a writer.
use Rattle.std.specs.Prelude.{◌≡◌, List, ℕ, [], ◌++◌, Option, Result, MatchResult}
use Rattle.std.specs.Io.KnownBytes.{Appends}

-- of all these bytes those that are not left went to the end of what a writer holds
pub record Written (old new : Option (List ℕ)) (left all : List ℕ) : Type 0 where
  pub bytes : List ℕ
  pub appended : Appends old new bytes
  pub whole : bytes ++ left ≡ all

-- all but what the answer leaves, or after an error a front part
abbrev pub WroteAllBut : {A E : Type 0} → Result A E → Option (List ℕ) → Option (List ℕ) → (A → List ℕ) → List ℕ → Type 0
WroteAllBut r old new left all = MatchResult r (λ a. Written old new (left a) all) (λ _. (rest : List ℕ) × Written old new rest all)

-- all of them, or after an error a front part
abbrev pub Wrote : {E : Type 0} → Result (Unit {0}) E → Option (List ℕ) → Option (List ℕ) → List ℕ → Type 0
Wrote r old new all = WroteAllBut r old new (λ _. []) all
