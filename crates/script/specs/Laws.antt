-- What holds of the lines of any input.
use Rattle.std.specs.Prelude.{◌≡◌, ◌≢◌, ℕ, ◌⊎◌, List, [], ◌∷◌, ◌++◌}
use Rattle.std.specs.List.{All, join_with_byte}
use Rattle.script.specs.Lines.{lines}

-- a line has no byte 10
abbrev pub IsLine : List ℕ → Type 0
IsLine line = All (λ b. b ≢ 10) line

-- lines as an input that ends each of them by byte 10
abbrev pub written : List (List ℕ) → List ℕ
written [] = []
written (line ∷ others) = line ++ 10 ∷ written others

pub record LineLaws : Type 0 where
  -- each of them is a line
  pub whole : (input : List ℕ) → All IsLine (lines input)
  -- joined by byte 10 they give the input back, but for one last byte 10
  pub joined : (input : List ℕ) → (join_with_byte 10 (lines input) ≡ input) ⊎ (join_with_byte 10 (lines input) ++ 10 ∷ [] ≡ input)
  -- lines that are written are read back
  pub read_back : (ls : List (List ℕ)) → All IsLine ls → lines (written ls) ≡ ls
  -- what follows a byte 10 leaves the lines before it as they are
  pub appended : (front more : List ℕ) → lines (front ++ 10 ∷ more) ≡ lines (front ++ 10 ∷ []) ++ lines more
