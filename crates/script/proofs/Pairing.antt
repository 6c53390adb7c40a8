-- Bytes, pair by pair.
use Rattle.std.proofs.Common.{◌≡◌, ℕ, zero, suc, ◌+◌, ◌*◌, ◌/◌, ◌<◌, List, [], ◌∷◌, ◌++◌, length, drop, set, get_or, refl, sym, ap, ◌∙◌, arith}
use Rattle.std.proofs.lemmas.List.Edits.{paste_more, paste_all}
use Rattle.std.proofs.Math.Seq.{paste}
use Rattle.script.specs.Fields.{hex_value, pair_bytes}

-- two digits show a byte
pub length-pair_bytes : (field : List ℕ) → length (pair_bytes field) ≡ length field / 2
length-pair_bytes [] = refl
length-pair_bytes (a ∷ []) = refl
length-pair_bytes (a ∷ b ∷ rest) = omega (arith, length-pair_bytes rest)

-- and which byte it is
pub byte_at : (field : List ℕ) (i : ℕ) → 2 * i + 1 < length field → get_or (pair_bytes field) i 0 ≡ 16 * hex_value (get_or field (2 * i) 0) + hex_value (get_or field (2 * i + 1) 0)
byte_at [] i lt = absurd (omega arith)
byte_at (a ∷ []) i lt = absurd (omega arith)
byte_at (a ∷ b ∷ rest) zero lt = refl
byte_at (a ∷ b ∷ rest) (suc i) lt =
    let e : 2 * suc i ≡ suc (suc (2 * i)) = omega arith in
    let e' : 2 * suc i + 1 ≡ suc (suc (2 * i + 1)) = omega arith in
    rw (e', e) (byte_at rest i (omega arith))

-- one byte more is written
pub one_written : (field old room : List ℕ) (i b : ℕ) → room ≡ paste old 0 (pair_bytes field) i → 2 * i + 1 < length field → i < length old → b ≡ 16 * hex_value (get_or field (2 * i) 0) + hex_value (get_or field (2 * i + 1) 0) → set room i b ≡ paste old 0 (pair_bytes field) (i + 1)
one_written field old room i b e lt within is =
    ap (λ (l : List ℕ). set l i b) e
    ∙ ap (λ (x : ℕ). set (paste old 0 (pair_bytes field) i) i x) (is ∙ sym (byte_at field i lt))
    ∙ ap (λ (n : ℕ). set (paste old 0 (pair_bytes field) i) n (get_or (pair_bytes field) i 0)) (let z : i ≡ 0 + i = omega arith in z)
    ∙ paste_more old 0 (pair_bytes field) i 0 (omega arith) (omega (arith, length-pair_bytes field))

-- all bytes are written
pub all_written : (field old room : List ℕ) (n : ℕ) → room ≡ paste old 0 (pair_bytes field) n → n ≡ length field / 2 → room ≡ pair_bytes field ++ drop n old
all_written field old room n e is = e ∙ paste_all old 0 (pair_bytes field) n (is ∙ sym (length-pair_bytes field)) ∙ ap (λ (k : ℕ). pair_bytes field ++ drop k old) (let z : 0 + n ≡ n = omega arith in z)
