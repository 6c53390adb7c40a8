-- Bytes of a number read back as the number, and the other way round.
use Rattle.std.proofs.Common.{◌≡◌, ℕ, zero, suc, ◌+◌, ◌-◌, ◌*◌, ◌/◌, ◌%◌, ◌^◌, ◌<◌, ◌≤◌, List, [], ◌∷◌, length, get_or, drop, set, sym, refl, ap, ◌∙◌, mod-eq_of_lt, pow-suc, div-add-mod', div-one, arith}
use native.Mathlib.Nat.{div-div-eq-div-mul, pow-le-pow_right}
use Rattle.std.proofs.lemmas.List.{drop-set}
use Rattle.std.proofs.lemmas.List.Elements.{recursion_from_All, All-from_get_or}
use Rattle.std.specs.List.{AllByRecursion}
use Rattle.std.specs.Int.Digits.{number_from_digits_after}
use Rattle.std.proofs.lemmas.Int.Digits.{number_lt}
use Rattle.frames.specs.Numbers.{low_bytes, in_bytes, from_bytes}

-- one byte more is cut off
div_suc : (n w : ℕ) → n / 256 ^ suc w ≡ n / 256 ^ w / 256
div_suc n w = ap (λ (m : ℕ). n / m) (pow-suc 256 w) ∙ sym (div-div-eq-div-mul n (256 ^ w) 256)

after_low : (w n : ℕ) → number_from_digits_after 256 (n / 256 ^ w) (low_bytes w n) ≡ n
after_low zero n = div-one n
after_low (suc w) n =
    let e : n / 256 ^ suc w * 256 + n / 256 ^ w % 256 ≡ n / 256 ^ w = ap (λ (m : ℕ). m * 256 + n / 256 ^ w % 256) (div_suc n w) ∙ div-add-mod' (n / 256 ^ w) 256 in
    ap (λ (m : ℕ). number_from_digits_after 256 m (low_bytes w n)) e ∙ after_low w n

pub from_in_bytes : (w n : ℕ) → from_bytes (in_bytes (suc w) n) ≡ n
from_in_bytes w n =
    let e : 0 * 256 + n / 256 ^ w ≡ n / 256 ^ w = omega arith in
    ap (λ (m : ℕ). number_from_digits_after 256 m (low_bytes w n)) e ∙ after_low w n

after_div : (ds : List ℕ) (m : ℕ) → AllByRecursion (λ b. b < 256) ds → number_from_digits_after 256 m ds / 256 ^ length ds ≡ m
after_div [] m h = div-one m
after_div (d ∷ ds) m h =
    let lt : d < 256 = h.0 in
    let e : (m * 256 + d) / 256 ≡ m = omega arith in
    div_suc (number_from_digits_after 256 (m * 256 + d) ds) (length ds) ∙ ap (λ (x : ℕ). x / 256) (after_div ds (m * 256 + d) h.1) ∙ e

low_after : (ds : List ℕ) (m : ℕ) → AllByRecursion (λ b. b < 256) ds → low_bytes (length ds) (number_from_digits_after 256 m ds) ≡ ds
low_after [] m h = refl
low_after (d ∷ ds) m h =
    let lt : d < 256 = h.0 in
    let e : (m * 256 + d) % 256 ≡ d = omega arith in
    let head : number_from_digits_after 256 (m * 256 + d) ds / 256 ^ length ds % 256 ≡ d = ap (λ (x : ℕ). x % 256) (after_div ds (m * 256 + d) h.1) ∙ e in
    let tail = low_after ds (m * 256 + d) h.1 in
    cc

pub in_from_bytes : (ds : List ℕ) → AllByRecursion (λ b. b < 256) ds → in_bytes (length ds) (from_bytes ds) ≡ ds
in_from_bytes [] h = refl
in_from_bytes (d ∷ ds) h =
    let e : 0 * 256 + d ≡ d = omega arith in
    let head : number_from_digits_after 256 (0 * 256 + d) ds / 256 ^ length ds ≡ d = after_div ds (0 * 256 + d) h.1 ∙ e in
    let tail = low_after ds (0 * 256 + d) h.1 in
    cc

pub length_low : (w n : ℕ) → length (low_bytes w n) ≡ w
length_low zero n = refl
length_low (suc w) n = ap suc (length_low w n)

pub length_in : (w n : ℕ) → length (in_bytes w n) ≡ w
length_in zero n = refl
length_in (suc w) n = ap suc (length_low w n)

-- one byte more is written before the others
pub put_more : (out : List ℕ) (n i len rest : ℕ) → 0 < i → i ≤ len → length out ≡ len → (drop i out ≡ low_bytes (len - i) n) × (rest ≡ n / 256 ^ (len - i)) → (drop (i - 1) (set out (i - 1) (rest % 256)) ≡ low_bytes (len - (i - 1)) n) × (rest / 256 ≡ n / 256 ^ (len - (i - 1)))
put_more out n i len rest pos le long inv =
    let s : len - (i - 1) ≡ suc (len - i) = omega arith in
    let t : i - 1 + 1 ≡ i = omega arith in
    let lt : i - 1 < length out = omega arith in
    let b = ap (λ (m : ℕ). m % 256) inv.1 in
    let d : drop (i - 1 + 1) out ≡ low_bytes (len - i) n = rw t inv.0 in
    rw s (drop-set out (i - 1) (rest % 256) lt ∙ cc, ap (λ (m : ℕ). m / 256) inv.1 ∙ sym (div_suc n (len - i)))

-- bytes write a number that fits them
pub from_small : (w : ℕ) (ds : List ℕ) → AllByRecursion (λ b. b < 256) ds → length ds ≤ w → from_bytes ds % 256 ^ w ≡ from_bytes ds
from_small w ds all few =
    let below : from_bytes ds < 256 ^ length ds = number_lt 256 ds all in
    let most : 256 ^ length ds ≤ 256 ^ w = pow-le-pow_right (omega arith) few in
    mod-eq_of_lt (omega arith)

-- bytes are small wherever one looks, and so all of them are
pub all_small : (bytes : List ℕ) → ((i : ℕ) → get_or bytes i 0 < 256) → AllByRecursion (λ b. b < 256) bytes
all_small bytes small = recursion_from_All (λ b. b < 256) bytes (All-from_get_or (λ b. b < 256) bytes 0 (λ i _. small i))
