-- R is the position of the lowest zero bit, and S is small.
use Rattle.std.proofs.Common.{◌≡◌, ℕ, zero, suc, ◌+◌, ◌-◌, ◌*◌, ◌/◌, ◌%◌, ◌^◌, ◌<◌, ◌≤◌, sym, ap, ◌∙◌, subst, pow-suc, arith}
use lib.Count.{count_trailing_zeros, under, trailing_le}
use Rattle.std.proofs.lemmas.Nat.{shr-shr}
use Rattle.std.proofs.ByRecursion.{All-from_get_or, sum_by_le}
use Rattle.bitmaps.specs.Bitmaps.{Maps, bit, lowest_zero, LowestZero, sum_of}

-- one bit further in a map is a bit of its upper half
bit_up : (k m : ℕ) → bit (suc k) m ≡ bit k (m / 2)
bit_up k m =
    let s : 1 + k ≡ suc k = omega arith in
    ap (λ (n : ℕ). m / 2 ^ n % 2) (sym s) ∙ ap (λ (x : ℕ). x % 2) (sym (shr-shr m 1 k))

bit_first : (m : ℕ) → bit 0 m ≡ m % 2
bit_first m = let e : m / 1 ≡ m = omega arith in ap (λ (x : ℕ). x % 2) e

-- the lowest bit is zero, or it is one and the others tell
zero_here : (bits m d t : ℕ) → d ≡ 1 - m % 2 → LowestZero bits (m / 2) t → LowestZero (suc bits) m (under d t)
zero_here bits m zero t e h =
    let one : m % 2 ≡ 1 = omega arith in
    record {
      within = let w : t ≤ bits = h.within in omega arith;
      ones = λ k lt. one_below m t k one lt h.ones;
      zeroed = λ lt. bit_up t m ∙ h.zeroed (omega arith);
    }
  where
    one_below : (m t k : ℕ) → m % 2 ≡ 1 → k < suc t → ((i : ℕ) → i < t → bit i (m / 2) ≡ 1) → bit k m ≡ 1
    one_below m t zero one lt rest = bit_first m ∙ one
    one_below m t (suc k) one lt rest = bit_up k m ∙ rest k (omega arith)
zero_here bits m (suc d) t e h = record {
  within = omega arith;
  ones = λ k lt. absurd (omega arith);
  zeroed = λ lt. let none : m % 2 ≡ 0 = omega arith in bit_first m ∙ none;
}

pub lowest_tells : (bits m : ℕ) → m < 2 ^ bits → LowestZero bits m (count_trailing_zeros bits (2 ^ bits - 1 - m))
unfolding count_trailing_zeros
lowest_tells zero m lt = record { within = omega arith; ones = λ k h. absurd (omega arith); zeroed = λ h. absurd (omega arith) }
lowest_tells (suc bits) m lt =
    let p : 2 ^ suc bits ≡ 2 ^ bits * 2 = pow-suc 2 bits in
    let half : (2 ^ suc bits - 1 - m) / 2 ≡ 2 ^ bits - 1 - m / 2 = omega arith in
    let low : (2 ^ suc bits - 1 - m) % 2 ≡ 1 - m % 2 = omega arith in
    let h = lowest_tells bits (m / 2) (omega arith) in
    zero_here bits m ((2 ^ suc bits - 1 - m) % 2) (count_trailing_zeros bits ((2 ^ suc bits - 1 - m) / 2)) low (subst (λ (x : ℕ). LowestZero bits (m / 2) (count_trailing_zeros bits x)) (sym half) h)

pub sum_small : (x : Maps) → sum_of x.each ≤ 2048
sum_small x =
    let le = sum_by_le lowest_zero 32 x.each (All-from_get_or (λ m. lowest_zero m ≤ 32) x.each 0 (λ i lt. trailing_le 32 _)) in
    let n = x.whole in
    omega arith
