-- What a text in fixed room holds after several calls that wrote to it.
use Rattle.std.proofs.Common.{◌≡◌, ℕ, List, [], ◌∷◌, ◌++◌, Ok, Err, Some, Result, OnOk, codes, append-nil, sym, ap, subst, ◌∙◌, append_assoc}
use Rattle.std.specs.List.{FoldsTo, concat}
use Rattle.std.specs.Fmt.{WritesText, decimal}
use Rattle.diffusion.specs.Turns.{Told}
use Rattle.script.specs.declared.fault.ScriptReason.{ScriptReason}
use Rattle.script.specs.Faults.{reason_text, fault_text}
use Rattle.session.specs.Printed.{told_text, line_text}

module _ {W : Type 0} (contents : W → List ℕ) where
  abbrev pub Appends : W → List ℕ → W → Type 0
  Appends w bs v = contents v ≡ contents w ++ bs

  after_calls : (w : W) (parts : List (List ℕ)) (v : W) → FoldsTo Appends w parts v → contents v ≡ contents w ++ concat parts
  after_calls w [] v p = subst (Appends w []) p (sym (append-nil (contents w)))
  after_calls w (x ∷ xs) v p = after_calls p.0 xs v p.2 ∙ ap (λ (l : List ℕ). l ++ concat xs) p.1 ∙ append_assoc (contents w) x (concat xs)

  -- what was written to an empty text is all that it holds
  pub said : {E : Type 0} (r : Result (Unit {0}) E) (w v : W) (bs : List ℕ) → contents w ≡ [] → OnOk r (WritesText Appends w (Some bs) v) → OnOk r (contents v ≡ bs)
  said (Ok u) w v bs none p = after_calls w p.parts v p.calls ∙ ap (λ (l : List ℕ). contents w ++ l) p.whole ∙ ap (λ (l : List ℕ). l ++ bs) none
  said (Err e) w v bs none p = tt

  -- and so is what that text is known to be
  pub said_as : {E : Type 0} (r : Result (Unit {0}) E) (w v : W) (bs text : List ℕ) → contents w ≡ [] → OnOk r (WritesText Appends w (Some bs) v) → bs ≡ text → OnOk r (contents v ≡ text)
  said_as {E = E} (Ok u) w v bs text none p e = said {E = E} (Ok u) w v bs none p ∙ e
  said_as (Err x) w v bs text none p e = tt

-- a refusal with its line's number is a line of output
pub refusal_line : (n : ℕ) (why : ScriptReason) (w : Told) → told_text w ≡ reason_text why → fault_text (record { line = n; why = why }) ++ codes "\n" ≡ line_text n w
refusal_line n why w e =
    append_assoc (decimal n) (codes " " ++ reason_text why) (codes "\n")
    ∙ ap (λ (l : List ℕ). decimal n ++ l) (append_assoc (codes " ") (reason_text why) (codes "\n") ∙ ap (λ (l : List ℕ). codes " " ++ (l ++ codes "\n")) (sym e))
