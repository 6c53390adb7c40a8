-- The tenants of some records: how a search finds the place of one more.
use Rattle.std.proofs.Common.{◌≡◌, ℕ, zero, suc, ◌+◌, ◌<◌, ◌≤◌, T, List, [], ◌∷◌, length, get_or, drop, Result, Ok, Err, Less, Equal, Greater, Ordering, sym, refl, ap, ◌∙◌, arith}
use Rattle.std.specs.List.{insert}
use Rattle.std.specs.List.Sorted.{IsBinarySearchResult}
use Rattle.std.specs.Result.{MatchResult}
use Rattle.std.specs.Ordering.{nat_cmp, is_lt}
use Rattle.std.proofs.Math.Seq.{drop-cons}
use Rattle.std.proofs.lemmas.Bool.Decides.{nat_tests}
use Rattle.std.proofs.lemmas.List.Sorted.{searched}
use Rattle.runs.specs.Order.{by_size}
use Rattle.runs.specs.Runs.{rising, rising_from}
use Rattle.runs.specs.Union.{pick, merge}
use Rattle.runs.proofs.Orders.{size_lawful}
use Rattle.runs.proofs.Unions.{merge_rises}
use Rattle.runs.proofs.Rising.{left, right, less_from, rest_rises}
use Rattle.sample.specs.declared.record.SampleRecord.{SampleRecord}
use Rattle.usage.specs.Rows.{tenants_after}

-- one tenant more, at its place, unless it is there
abbrev pub joined : ℕ → List ℕ → List ℕ
joined t ts = merge by_size (t ∷ []) ts

is_less : (m n : ℕ) → m < n → by_size m n ≡ Less
is_less m n lt = grind (arith, nat_tests)

is_greater : (m n : ℕ) → n < m → by_size m n ≡ Greater
is_greater m n lt = grind (arith, nat_tests)

is_same : (m n : ℕ) → n ≡ m → by_size m n ≡ Equal
is_same m n e = grind (arith, nat_tests)

below : (m n : ℕ) → by_size m n ≡ Less → m < n
below m n e = grind (arith, nat_tests)

-- what follows a tenant is greater
pub above_at : (u : ℕ) (us : List ℕ) (i : ℕ) → T (rising_from by_size u us) → i < length us → u < get_or us i 0
above_at u [] i h lt = absurd (omega arith)
above_at u (y ∷ ys) zero h lt = below u y (less_from (by_size u y) (left (is_lt (by_size u y)) (rising_from by_size y ys) h))
above_at u (y ∷ ys) (suc i) h lt =
    let first = below u y (less_from (by_size u y) (left (is_lt (by_size u y)) (rising_from by_size y ys) h)) in
    let rest = above_at y ys i (right (is_lt (by_size u y)) (rising_from by_size y ys) h) (omega arith) in
    omega arith

ordered : (ts : List ℕ) → T (rising by_size ts) → (i j : ℕ) → i ≤ j → j < length ts → get_or ts i 0 ≤ get_or ts j 0
ordered [] h i j le lt = absurd (omega arith)
ordered (t ∷ ts) h zero zero le lt = omega arith
ordered (t ∷ ts) h zero (suc j) le lt = let a = above_at t ts j h (omega arith) in omega arith
ordered (t ∷ ts) h (suc i) zero le lt = absurd (omega arith)
ordered (t ∷ ts) h (suc i) (suc j) le lt = ordered ts (rest_rises by_size size_lawful t ts h) i j (omega arith) (omega arith)

-- a step of the union, by the answer of the order
joined_next : (t u : ℕ) (us : List ℕ) (o : Ordering) → by_size t u ≡ o → joined t (u ∷ us) ≡ pick o (t ∷ u ∷ us) (t ∷ us) (u ∷ joined t us)
joined_next t u us o e = ap (λ (p : Ordering). pick p (t ∷ u ∷ us) (t ∷ us) (u ∷ joined t us)) e

-- a tenant between what is less and what is greater
absent : (ts : List ℕ) (i t : ℕ) → i ≤ length ts → ((k : ℕ) → k < i → get_or ts k 0 < t) → ((k : ℕ) → i ≤ k → k < length ts → t < get_or ts k 0) → insert ts i t ≡ joined t ts
absent [] zero t le low high = refl
absent [] (suc i) t le low high = absurd (omega arith)
absent (u ∷ us) zero t le low high = sym (joined_next t u us Less (is_less t u (high 0 (omega arith) (omega arith))))
absent (u ∷ us) (suc i) t le low high =
    ap (λ (l : List ℕ). u ∷ l) (absent us i t (omega arith) (λ k lt. low (suc k) (omega arith)) (λ k a lt. high (suc k) (omega arith) (omega arith)))
    ∙ sym (joined_next t u us Greater (is_greater t u (low 0 (omega arith))))

-- one that is there
found : (ts : List ℕ) (i t : ℕ) → T (rising by_size ts) → i < length ts → get_or ts i 0 ≡ t → joined t ts ≡ ts
found [] i t h lt e = absurd (omega arith)
found (u ∷ us) zero t h lt e = joined_next t u us Equal (is_same t u e) ∙ ap (λ (x : ℕ). x ∷ us) (sym e)
found (u ∷ us) (suc i) t h lt e =
    let a : u < get_or us i 0 = above_at u us i h (omega arith) in
    joined_next t u us Greater (is_greater t u (omega arith)) ∙ ap (λ (l : List ℕ). u ∷ l) (found us i t (rest_rises by_size size_lawful u us h) (omega arith) e)

pub search_tells : (ts : List ℕ) (t : ℕ) (r : Result ℕ ℕ) → IsBinarySearchResult (λ y. nat_cmp y t) ts r → T (rising by_size ts)
    → MatchResult r (λ i. joined t ts ≡ ts) (λ i. (i ≤ length ts) × (insert ts i t ≡ joined t ts))
search_tells ts t (Ok i) h up = let s = searched ts t (Ok i) h (ordered ts up) in found ts i t up s.0 s.1
search_tells ts t (Err i) h up = let s = searched ts t (Err i) h (ordered ts up) in (s.0, absent ts i t s.0 s.1 s.2)

-- the next record's tenant is joined to those before it
pub next_tenant : (xs : List SampleRecord) (ts : List ℕ) (i : ℕ) (d : SampleRecord) → i < length xs → tenants_after ts (drop i xs) ≡ tenants_after (joined (get_or xs i d).tenant ts) (drop (i + 1) xs)
next_tenant xs ts i d lt =
    let s : suc i ≡ i + 1 = omega arith in
    ap (tenants_after ts) (drop-cons xs i d lt) ∙ ap (λ (k : ℕ). tenants_after (joined (get_or xs i d).tenant ts) (drop k xs)) s

pub joined_rises : (t : ℕ) (ts : List ℕ) → T (rising by_size ts) → T (rising by_size (joined t ts))
joined_rises t ts h = merge_rises by_size size_lawful (t ∷ []) ts tt h
