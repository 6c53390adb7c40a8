-- Numbers, digit by digit.
use Rattle.std.proofs.Common.{◌≡◌, ℕ, ◌+◌, ◌-◌, ◌*◌, ◌<◌, ◌≤◌, ◌^◌, List, [], ◌∷◌, length, drop, get_or, None, sym, ap, ◌∙◌, arith, nat_lt}
use Rattle.std.proofs.lemmas.Bool.{cond-false, le-ltb}
use Rattle.std.proofs.lemmas.List.{drop_more}
use Rattle.script.specs.Fields.{value_after, value, fitting}

-- no digit makes a number less
grown : (n : ℕ) (digits : List ℕ) → n ≤ value_after n digits
grown n [] = omega arith
grown n (b ∷ rest) = omega (arith, grown (10 * n + (b - 48)) rest)

-- one digit more of them is read
one_more : (digits : List ℕ) (n i : ℕ) → i < length digits → value_after n (drop i digits) ≡ value digits → value_after (10 * n + (get_or digits i 0 - 48)) (drop (i + 1) digits) ≡ value digits
one_more digits n i lt e = ap (value_after n) (sym (drop_more digits i 0 lt)) ∙ e

-- what is too great after some digits is so after all of them
pub too_great : (digits : List ℕ) (n i : ℕ) → i < length digits → value_after n (drop i digits) ≡ value digits → ¬ (10 * n + (get_or digits i 0 - 48) < 2 ^ 64) → None ≡ fitting (value digits)
too_great digits n i lt e large =
    let all = one_more digits n i lt e in
    let most = grown (10 * n + (get_or digits i 0 - 48)) (drop (i + 1) digits) in
    sym (cond-false (nat_lt (value digits) (2 ^ 64)) _ _ (le-ltb (value digits) (2 ^ 64) (omega (arith, all, most, large))))
