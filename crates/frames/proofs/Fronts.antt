-- Bytes that are written part by part, from the front on.
use Rattle.std.proofs.Common.{◌≡◌, ℕ, ◌-◌, ◌≤◌, List, ◌++◌, length, drop, sym, ap, ◌∙◌, arith}
use borrow.Rule.Slice.PartMut.{put_mid}
use Rattle.std.proofs.lemmas.List.{take_at, drop_at, drop-drop, append_assoc}

-- all of them once the next part is written
module _ (front out : List ℕ) (at to : ℕ) (e : length front ≡ at) (up : at ≤ to) where
  pub next_written : (part : List ℕ) → put_mid at (to - at) (front ++ drop at out) part ≡ (front ++ part) ++ drop to out
  next_written part =
      ap (λ (l : List ℕ). l ++ (part ++ drop (to - at) (drop at (front ++ drop at out)))) (take_at front (drop at out) at e)
      ∙ ap (λ (l : List ℕ). front ++ (part ++ drop (to - at) l)) (drop_at front (drop at out) at e)
      ∙ ap (λ (l : List ℕ). front ++ (part ++ l)) (drop-drop (to - at) at out ∙ ap (λ (n : ℕ). drop n out) (omega arith))
      ∙ sym (append_assoc front part (drop to out))
