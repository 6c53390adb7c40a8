-- Frames that lie one after the other, and the forms that are read from them, encoded and joined.
use Rattle.std.specs.Prelude.{ℕ, zero, suc, ◌+◌, ◌*◌, List, [], ◌∷◌, ◌++◌, take, drop, Ok, Err, Result}
use Rattle.std.specs.List.{fold}
use Rattle.synopsis.specs.declared.fault.DecodeFault.{DecodeFault}
use Rattle.synopsis.specs.Kind.{Kind, encode_after}
use Rattle.histories.specs.Folds.{read_as}

-- frame i of frames of one size; what lies behind their end lacks
abbrev pub frame_at : ℕ → List ℕ → ℕ → List ℕ
frame_at size frames i = take size (drop (i * size) frames)

-- so many times over
abbrev pub again : {A : Type 0} → (A → A) → ℕ → A → A
again f zero x = x
again f (suc n) x = f (again f n x)

abbrev pub refusal : {A : Type 0} → Result A DecodeFault → ℕ
refusal (Ok x) = 0
refusal (Err e) = 1

module _ (k : Kind) where
  -- what a value has that takes a frame: its form, or where they are refused the form that was there
  abbrev pub taken : k.Form → Result k.Form DecodeFault → k.Form
  taken before (Ok x) = x
  taken before (Err e) = before

  module _ (size : ℕ) (frames : List ℕ) where
    -- after so many frames: the form of the last one that was not refused, and how many were
    abbrev pub last_taken : ℕ → k.Form
    last_taken zero = k.none
    last_taken (suc n) = taken (last_taken n) (k.decoding (frame_at size frames n))

    abbrev pub refusals : ℕ → ℕ
    refusals zero = 0
    refusals (suc n) = refusals n + refusal (k.decoding (frame_at size frames n))

    -- the forms of so many frames, the empty one for each that is refused
    unfoldable pub forms : ℕ → List k.Form
    forms zero = []
    forms (suc n) = forms n ++ (read_as k (k.decoding (frame_at size frames n)) ∷ [])

  -- the bytes after ENCODE of each form
  abbrev pub encoded : List k.Form → List ℕ → List ℕ
  encoded xs bytes = fold (λ out x. encode_after k x out) bytes xs

  -- one form joined with all
  abbrev pub gathered : List k.Form → k.Form → k.Form
  gathered xs x = fold k.join x xs

  -- each of some forms joined with each of others: the last one that came of it, or where there was none the one that was there
  abbrev pub joined_last : (xs ys : List k.Form) → k.Form → k.Form
  joined_last xs ys before = fold (λ z x. fold (λ _ y. k.join x y) z ys) before xs
