-- A mark joined to maps sets one bit in one of them.
use Rattle.std.proofs.Common.{◌≡◌, ℕ, zero, suc, List, [], ◌∷◌, length, replicate, bit_or, set, get_or, refl, ◌∙◌, arith}
use Rattle.std.proofs.lemmas.Nat.{or_comm}
use Rattle.bitmaps.specs.Bitmaps.{or_maps}
use Rattle.bitmaps.specs.Ors.{maps_comm, maps_unit}

pub mark_joined : (n : ℕ) (xs : List ℕ) (at bits : ℕ) → length xs ≡ n → set xs at (bit_or (get_or xs at 0) bits) ≡ or_maps xs (set (replicate n 0) at bits)
mark_joined zero [] at bits e = refl
mark_joined zero (x ∷ xs) at bits e = absurd (omega arith)
mark_joined (suc n) [] at bits e = absurd (omega arith)
mark_joined (suc n) (x ∷ xs) zero bits e =
    let rest = maps_comm xs (replicate n 0) ∙ maps_unit n xs (omega arith) in
    cc
mark_joined (suc n) (x ∷ xs) (suc at) bits e =
    let first = or_comm x 0 in
    let rest = mark_joined n xs at bits (omega arith) in
    cc
