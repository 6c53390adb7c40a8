-- Numbers that are written one behind the other.
use Rattle.std.proofs.Common.{◌≡◌, ℕ, zero, suc, ◌+◌, ◌/◌, ◌*◌, ◌^◌, ◌<◌, List, [], ◌∷◌, length, get_or, drop, sym, refl, ap, ◌∙◌, mod-eq_of_lt, pow-suc, length-append, arith}
use Rattle.std.proofs.Math.Nat.{div-lt_iff_lt-mul}
use Rattle.std.proofs.lemmas.List.Sums.{sum_by-cons}
use Rattle.std.specs.List.{AllByRecursion}
use Rattle.frames.specs.Numbers.{low_bytes, in_bytes}
use Rattle.frames.proofs.Numbers.{length_in}
use Rattle.usage.specs.declared.cell.Cell.{Cell}
use Rattle.usage.specs.Cells.{cell_bytes, width_of, bytes_of}

-- a number that fits loses nothing
pub low_in : (w n : ℕ) → n < 256 ^ w → low_bytes w n ≡ in_bytes w n
low_in zero n lt = refl
low_in (suc w) n lt =
    let p : 256 ^ suc w ≡ 256 ^ w * 256 = pow-suc 256 w in
    let pos : 0 < 256 ^ w = omega arith in
    let small : n < 256 * 256 ^ w = omega arith in
    let b : n / 256 ^ w < 256 = (div-lt_iff_lt-mul pos).1 small in
    ap (λ (b : ℕ). b ∷ low_bytes w n) (mod-eq_of_lt b)

pub length_bytes : (cells : List Cell) → length (bytes_of cells) ≡ width_of cells
length_bytes [] = refl
length_bytes (c ∷ cs) = length-append (cell_bytes c) (bytes_of cs) ∙ ap (λ (n : ℕ). n + length (bytes_of cs)) (length_in c.width c.value) ∙ ap (λ (n : ℕ). c.width + n) (length_bytes cs) ∙ sym (sum_by-cons (λ (x : Cell). x.width) c cs)

-- the next of some numbers fits, and takes its width
pub next_cell : (cells : List Cell) (i : ℕ) (d : Cell) → i < length cells → AllByRecursion (λ c. c.value < 256 ^ c.width) cells
    → ((get_or cells i d).value < 256 ^ (get_or cells i d).width) × (width_of (drop i cells) ≡ (get_or cells i d).width + width_of (drop (suc i) cells))
next_cell [] i d lt h = absurd (omega arith)
next_cell (c ∷ cs) zero d lt h = (h.0, sum_by-cons (λ (x : Cell). x.width) c cs)
next_cell (c ∷ cs) (suc i) d lt h = next_cell cs i d (omega arith) h.1
