-- The keys of elements are noted one after another.
use Rattle.std.proofs.Common.{◌≡◌, ℕ, suc, ◌+◌, ◌<◌, List, [], ◌∷◌, ◌++◌, length, take, map, set, get_or, cond, Some, Ordering, Less, sym, ap, ◌∙◌}
use Rattle.std.specs.Ordering.{is_lt}
use Rattle.std.proofs.lemmas.List.{take_more, take_more_set, map-append}
use Rattle.runs.specs.Runs.{fall_from}

-- an element that is greater is no fall
pub fall_next : {E : Type 0} (order : E → E → Ordering) (x y : E) (i : ℕ) (xs : List E) → order x y ≡ Less → fall_from order x i (y ∷ xs) ≡ fall_from order y (suc i) xs
fall_next order x y i xs e = ap (λ (o : Ordering). cond (is_lt o) (fall_from order y (suc i) xs) (Some i)) e

-- so many keys, and one more
pub noted_more : {E : Type 0} (key : E → ℕ) (items : List E) (room : List ℕ) (i k : ℕ) (x : E) → take i room ≡ map key (take i items) → i < length items → i < length room → x ≡ get_or items i x → k ≡ key x → take (i + 1) (set room i k) ≡ map key (take (i + 1) items)
noted_more {E} key items room i k x so_far inside fits is e =
    take_more_set room i k fits
    ∙ ap (λ (l : List ℕ). l ++ (k ∷ [])) so_far
    ∙ ap (λ (n : ℕ). map key (take i items) ++ (n ∷ [])) (e ∙ ap key is)
    ∙ sym (map-append key (take i items) (get_or items i x ∷ []))
    ∙ ap (map key) (sym (take_more items i x inside))
