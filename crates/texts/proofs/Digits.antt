-- One byte more in capital hex.
use Rattle.std.proofs.Common.{◌≡◌, ℕ, ◌+◌, ◌<◌, ◌/◌, ◌%◌, List, [], ◌∷◌, ◌++◌, take, length, get_or, slice_index, sym, ap, ◌∙◌, refl, encode_utf8}
use Rattle.std.proofs.lemmas.List.{take_more}
use Rattle.std.proofs.lemmas.Str.{encode_ascii}
use Rattle.hex.specs.Hex.{upper_digits, encode_with, encode_upper}

pub encode_none : encode_upper [] ≡ []
unfolding encode_with
encode_none = refl

encode_push : (xs : List ℕ) (b : ℕ) → encode_upper xs ++ slice_index upper_digits (b / 16) ∷ slice_index upper_digits (b % 16) ∷ [] ≡ encode_upper (xs ++ b ∷ [])
unfolding encode_with
encode_push [] b = refl
encode_push (x ∷ xs) b = ap (λ (l : List ℕ). slice_index upper_digits (x / 16) ∷ slice_index upper_digits (x % 16) ∷ l) (encode_push xs b)

pub encode_more : (xs : List ℕ) (i high low : ℕ) → i < length xs → high ≡ slice_index upper_digits (get_or xs i 0 / 16) → low ≡ slice_index upper_digits (get_or xs i 0 % 16) → high < 128 → low < 128 → encode_upper (take i xs) ++ (encode_utf8 high ++ encode_utf8 low) ≡ encode_upper (take (i + 1) xs)
encode_more xs i high low lt high_is low_is high_small low_small =
    let b = get_or xs i 0 in
    ap (λ (l : List ℕ). encode_upper (take i xs) ++ (l ++ encode_utf8 low)) (encode_ascii high high_small ∙ ap (λ (n : ℕ). n ∷ []) high_is)
    ∙ ap (λ (l : List ℕ). encode_upper (take i xs) ++ slice_index upper_digits (b / 16) ∷ l) (encode_ascii low low_small ∙ ap (λ (n : ℕ). n ∷ []) low_is)
    ∙ encode_push (take i xs) b ∙ ap encode_upper (sym (take_more xs i 0 lt))
