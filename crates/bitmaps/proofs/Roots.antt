-- The eighth root that the definition computes is the greatest, and there is one greatest.
use Rattle.std.proofs.Common.{◌≡◌, ℕ, zero, suc, ◌+◌, ◌^◌, ◌<◌, ◌≤◌, leb, sym, subst, ⊎_elim, le_antisymm, arith}
use native.Mathlib.Nat.{pow-le-pow_left, pow-le-pow_right}
use Rattle.std.proofs.lemmas.Bool.{cond_both, leb-true, leb-false, cases_lt}
use Rattle.bitmaps.specs.Bitmaps.{root_within, eighth_root, EighthRoot}

limit_below : (j : ℕ) → j < 8 → 2 ^ (j + 48) ≤ 2 ^ 55
limit_below j lt = let few : j + 48 ≤ 55 = omega arith in pow-le-pow_right (omega arith) few

-- 64 is a root, and there is none from 128 on
pub root_first : (j : ℕ) → 64 ^ 8 ≤ 2 ^ (j + 48)
root_first j = let more : 48 ≤ j + 48 = omega arith in pow-le-pow_right {n = 2} (omega arith) more

pub root_below : (j n : ℕ) → j < 8 → n ^ 8 ≤ 2 ^ (j + 48) → n < 128
root_below j n lt le =
    ⊎_elim (λ h. h)
    (λ h. let a : 128 ^ 8 ≤ n ^ 8 = pow-le-pow_left h 8 in
    let b = limit_below j lt in
    absurd (omega arith))
    (cases_lt n 128)

-- where t is a root and t + 1 is none, t is the greatest
pub root_last : (j t : ℕ) → t ^ 8 ≤ 2 ^ (j + 48) → 2 ^ (j + 48) < (t + 1) ^ 8 → EighthRoot j t
root_last j t le lt = record {
  small = le;
  greatest = λ n h. ⊎_elim
      (λ above. let m : (t + 1) ^ 8 ≤ n ^ 8 = pow-le-pow_left (omega arith) 8 in absurd (omega arith))
      (λ below. below)
      (cases_lt t n);
}

pub root_one : (j s t : ℕ) → EighthRoot j s → EighthRoot j t → s ≡ t
root_one j s t p q = le_antisymm (q.greatest s p.small) (p.greatest t q.small)

within_root : (j n : ℕ) → 2 ^ (j + 48) < (n + 1) ^ 8 → EighthRoot j (root_within (2 ^ (j + 48)) n)
unfolding root_within
within_root j zero lt = let one : 0 ^ 8 ≤ 2 ^ (j + 48) = omega arith in root_last j 0 one lt
within_root j (suc n) lt =
    cond_both (leb (suc n ^ 8) (2 ^ (j + 48))) (suc n) (root_within (2 ^ (j + 48)) n) (EighthRoot j)
    (λ e. root_last j (suc n) (leb-true (suc n ^ 8) (2 ^ (j + 48)) e) lt)
    (λ e. let s : n + 1 ≡ suc n = omega arith in within_root j n (subst (λ (k : ℕ). 2 ^ (j + 48) < k ^ 8) (sym s) (leb-false (suc n ^ 8) (2 ^ (j + 48)) e)))

pub root_greatest : (j : ℕ) → j < 8 → EighthRoot j (eighth_root j)
root_greatest j lt =
    let b = limit_below j lt in
    within_root j 127 (omega arith)
