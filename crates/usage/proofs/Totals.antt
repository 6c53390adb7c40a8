-- Which tenants are among those of some records, and that each record is counted in one row.
use Rattle.std.proofs.Common.{◌≡◌, ℕ, suc, ◌+◌, ◌≤◌, cond, T, eqb, ◌⊎◌, List, [], ◌∷◌, length, sym, refl, ◌∙◌, subst, inl, inr, ⊎_elim, Less, arith}
use Rattle.std.specs.List.{sum_by, count_by}
use Rattle.std.proofs.lemmas.Bool.{cond-true, cond-false, eq-eqb, ne_eqb}
use Rattle.std.proofs.lemmas.List.Sums.{sum_by-cons}
use Rattle.runs.specs.Order.{by_size}
use Rattle.runs.specs.Runs.{rising}
use Rattle.runs.specs.Union.{Among}
use Rattle.runs.proofs.Orders.{size_lawful}
use Rattle.runs.proofs.Rising.{all_among, never_less, above, rest_rises}
use Rattle.runs.proofs.Unions.{by_answer}
use Rattle.sample.specs.declared.record.SampleRecord.{SampleRecord}
use Rattle.usage.specs.Rows.{of_tenant, tenants_after}
use Rattle.usage.specs.Meaning.{sample_tenants}
use Rattle.usage.proofs.Tenants.{joined, joined_rises}

-- what stands among tenants with one more
from_joined : (t : ℕ) (ts : List ℕ) (z : ℕ) → Among z (joined t ts) → (z ≡ t) ⊎ Among z ts
from_joined t [] z = λ m. m
from_joined t (u ∷ us) z =
    let on = from_joined t us z in
    by_answer by_size (λ l. Among z l → (z ≡ t) ⊎ Among z (u ∷ us)) t u (t ∷ u ∷ us) (t ∷ us) (u ∷ joined t us)
    (λ e m. m)
    (λ e m. ⊎_elim (λ q. inl q) (λ n. inr (inr n)) m)
    (λ e m. ⊎_elim (λ q. inr (inl q)) (λ n. ⊎_elim (λ q. inl q) (λ k. inr (inr k)) (on n)) m)

to_joined : (t : ℕ) (ts : List ℕ) (z : ℕ) → (z ≡ t) ⊎ Among z ts → Among z (joined t ts)
to_joined t [] z = λ m. m
to_joined t (u ∷ us) z =
    let on = to_joined t us z in
    by_answer by_size (λ l. (z ≡ t) ⊎ Among z (u ∷ us) → Among z l) t u (t ∷ u ∷ us) (t ∷ us) (u ∷ joined t us)
    (λ e m. m)
    (λ e m. ⊎_elim (λ q. inl q) (λ h. ⊎_elim (λ q. inl (q ∙ sym (size_lawful.same t u e))) (λ n. inr n) h) m)
    (λ e m. ⊎_elim (λ q. inr (on (inl q))) (λ h. ⊎_elim (λ q. inl q) (λ n. inr (on (inr n))) h) m)

joined_few : (t : ℕ) (ts : List ℕ) → length (joined t ts) ≤ suc (length ts)
joined_few t [] = omega arith
joined_few t (u ∷ us) =
    let on = joined_few t us in
    by_answer by_size (λ l. length l ≤ suc (suc (length us))) t u (t ∷ u ∷ us) (t ∷ us) (u ∷ joined t us)
    (λ e. omega arith)
    (λ e. omega arith)
    (λ e. omega arith)

-- and among those with some records' more
pub from_after : (ts : List ℕ) (xs : List SampleRecord) (z : ℕ) → Among z (tenants_after ts xs) → Among z ts ⊎ Among z (sample_tenants xs)
from_after ts [] z m = inl m
from_after ts (x ∷ xs) z m =
    ⊎_elim
    (λ n. ⊎_elim (λ q. inr (inl q)) (λ k. inl k) (from_joined x.tenant ts z n))
    (λ n. inr (inr n))
    (from_after (joined x.tenant ts) xs z m)

pub to_after : (ts : List ℕ) (xs : List SampleRecord) (z : ℕ) → Among z ts ⊎ Among z (sample_tenants xs) → Among z (tenants_after ts xs)
to_after ts [] z m = ⊎_elim (λ n. n) (λ n. absurd n) m
to_after ts (x ∷ xs) z m =
    to_after (joined x.tenant ts) xs z
    (⊎_elim
    (λ n. inl (to_joined x.tenant ts z (inr n)))
    (λ h. ⊎_elim (λ q. inl (to_joined x.tenant ts z (inl q))) (λ n. inr n) h)
    m)

pub after_rises : (ts : List ℕ) (xs : List SampleRecord) → T (rising by_size ts) → T (rising by_size (tenants_after ts xs))
after_rises ts [] h = h
after_rises ts (x ∷ xs) h = after_rises (joined x.tenant ts) xs (joined_rises x.tenant ts h)

pub after_few : (ts : List ℕ) (xs : List SampleRecord) → length (tenants_after ts xs) ≤ length ts + length xs
after_few ts [] = omega arith
after_few ts (x ∷ xs) =
    let one = joined_few x.tenant ts in
    let rest = after_few (joined x.tenant ts) xs in
    omega arith

-- sums over tenants
sum_split : (f g h : ℕ → ℕ) → ((t : ℕ) → f t ≡ g t + h t) → (ts : List ℕ) → sum_by f ts ≡ sum_by g ts + sum_by h ts
sum_split f g h e [] = refl
sum_split f g h e (t ∷ ts) =
    let a = sum_by-cons f t ts in
    let b = sum_by-cons g t ts in
    let d = sum_by-cons h t ts in
    let one = e t in
    let rest = sum_split f g h e ts in
    omega arith

sum_none : (ts : List ℕ) → sum_by (λ (_ : ℕ). 0) ts ≡ 0
sum_none [] = refl
sum_none (t ∷ ts) =
    let a = sum_by-cons (λ (_ : ℕ). 0) t ts in
    let rest = sum_none ts in
    omega arith

-- one for a tenant, zero for others
abbrev once : ℕ → ℕ → ℕ
once u t = cond (eqb u t) 1 0

never : (u : ℕ) (ts : List ℕ) → (Among u ts → ⊥) → sum_by (once u) ts ≡ 0
never u [] n = refl
never u (t ∷ ts) n =
    let a = sum_by-cons (once u) t ts in
    let one : once u t ≡ 0 = cond-false (eqb u t) 1 0 (ne_eqb u t (λ q. n (inl q))) in
    let rest = never u ts (λ m. n (inr m)) in
    omega arith

once_only : (u : ℕ) (ts : List ℕ) → T (rising by_size ts) → Among u ts → sum_by (once u) ts ≡ 1
once_only u [] h m = absurd m
once_only u (t ∷ ts) h m =
    let a = sum_by-cons (once u) t ts in
    let beyond : (z : ℕ) → Among z ts → by_size t z ≡ Less = all_among (λ z. by_size t z ≡ Less) ts (above by_size size_lawful t ts h) in
    ⊎_elim
    (λ q. let rest = never u ts (λ n. never_less by_size size_lawful t (subst (λ (z : ℕ). by_size t z ≡ Less) q (beyond u n))) in
    let one : once u t ≡ 1 = cond-true (eqb u t) 1 0 (eq-eqb u t q) in
    omega arith)
    (λ n. let rest = once_only u ts (rest_rises by_size size_lawful t ts h) n in
    let other : u ≡ t → ⊥ = λ q. never_less by_size size_lawful t (subst (λ (z : ℕ). by_size t z ≡ Less) q (beyond u n)) in
    let one : once u t ≡ 0 = cond-false (eqb u t) 1 0 (ne_eqb u t other) in
    omega arith)
    m

-- each record is counted at one tenant
pub all_counted : (ts : List ℕ) (xs : List SampleRecord) → T (rising by_size ts) → ((z : ℕ) → Among z (sample_tenants xs) → Among z ts) → sum_by (λ t. count_by (of_tenant t) xs) ts ≡ length xs
all_counted ts [] h sub = sum_none ts
all_counted ts (x ∷ xs) h sub =
    let split = sum_split (λ t. count_by (of_tenant t) (x ∷ xs)) (once x.tenant) (λ t. count_by (of_tenant t) xs) (λ t. sum_by-cons (λ (y : SampleRecord). cond (of_tenant t y) 1 0) x xs) ts in
    let one = once_only x.tenant ts h (sub x.tenant (inl refl)) in
    let rest = all_counted ts xs h (λ z m. sub z (inr m)) in
    omega arith
