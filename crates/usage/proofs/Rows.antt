-- The row of a tenant says what the sample has of it, and no other row does.
use Rattle.std.proofs.Common.{◌≡◌, ℕ, ◌+◌, ◌≤◌, max, Bool, true, false, cond, T, ◌⊎◌, List, [], ◌∷◌, length, map, sym, refl, ap, ◌∙◌, subst, inl, inr, ⊎_elim, arith}
use Rattle.std.specs.List.{AllByRecursion, count_by}
use Rattle.std.proofs.lemmas.Bool.{cases_lt, eqb-true, eq-eqb, cond-true}
use Rattle.std.proofs.lemmas.List.Folds.{fold-map}
use Rattle.runs.specs.Order.{by_size}
use Rattle.runs.specs.Runs.{rising}
use Rattle.runs.specs.Union.{Among, Least}
use Rattle.runs.proofs.Orders.{size_lawful}
use Rattle.runs.proofs.Rising.{least_same}
use Rattle.sample.specs.declared.record.SampleRecord.{SampleRecord}
use Rattle.usage.specs.declared.row.Row.{Row}
use Rattle.usage.specs.Rows.{of_tenant, greatest_of, row_of, tenants_of, rows_of}
use Rattle.usage.specs.Meaning.{row_tenants, sample_tenants, RowTells, RowsTell}
use Rattle.usage.proofs.Totals.{from_after, to_after, after_rises, all_counted}

-- a record of the tenant with the greatest amount
abbrev Reached : List SampleRecord → ℕ → ℕ → Type 0
Reached xs t n = (x : SampleRecord) × Among x xs × (x.tenant ≡ t) × (x.amount ≡ n)

grown : (b : Bool) (p r : ℕ) → r ≤ cond b (max p r) r
grown true p r = omega arith
grown false p r = omega arith

bound : (xs : List SampleRecord) (t : ℕ) (x : SampleRecord) → Among x xs → x.tenant ≡ t → x.amount ≤ greatest_of xs t
bound [] t x m e = absurd m
bound (y ∷ ys) t x m e =
    ⊎_elim
    (λ q. let same : x.amount ≡ y.amount = ap (λ (z : SampleRecord). z.amount) q in
    let here = cond-true (of_tenant t y) (max y.amount (greatest_of ys t)) (greatest_of ys t) (eq-eqb y.tenant t (sym (ap (λ (z : SampleRecord). z.tenant) q) ∙ e)) in
    omega arith)
    (λ n. let rest = bound ys t x n e in
    let up = grown (of_tenant t y) y.amount (greatest_of ys t) in
    omega arith)
    m

reached_with : (b : Bool) (y : SampleRecord) (ys : List SampleRecord) (t r : ℕ) → of_tenant t y ≡ b → (r ≡ 0) ⊎ Reached ys t r → (cond b (max y.amount r) r ≡ 0) ⊎ Reached (y ∷ ys) t (cond b (max y.amount r) r)
reached_with false y ys t r e h = ⊎_elim (λ z. inl z) (λ w. inr (w.0, inr w.1, w.2, w.3)) h
reached_with true y ys t r e h =
    ⊎_elim
    (λ lt. ⊎_elim (λ z. absurd (omega arith)) (λ w. let top : r ≡ max y.amount r = omega arith in inr (w.0, inr w.1, w.2, w.3 ∙ top)) h)
    (λ le. let top : y.amount ≡ max y.amount r = omega arith in inr (y, inl refl, eqb-true y.tenant t e, top))
    (cases_lt y.amount r)

reached_or : (xs : List SampleRecord) (t : ℕ) → (greatest_of xs t ≡ 0) ⊎ Reached xs t (greatest_of xs t)
reached_or [] t = inl refl
reached_or (y ∷ ys) t = reached_with (of_tenant t y) y ys t (greatest_of ys t) refl (reached_or ys t)

-- a tenant of the sample has a record in it
holder : (xs : List SampleRecord) (t : ℕ) → Among t (sample_tenants xs) → (x : SampleRecord) × Among x xs × (x.tenant ≡ t)
holder [] t m = absurd m
holder (y ∷ ys) t m = ⊎_elim (λ q. (y, inl refl, sym q)) (λ n. let w = holder ys t n in (w.0, inr w.1, w.2)) m

reached : (xs : List SampleRecord) (t : ℕ) → Among t (sample_tenants xs) → Reached xs t (greatest_of xs t)
reached xs t m =
    ⊎_elim
    (λ z. let w = holder xs t m in
    let le = bound xs t w.0 w.1 w.2 in
    let none : w.0.amount ≡ greatest_of xs t = omega arith in
    (w.0, w.1, w.2, none))
    (λ w. w)
    (reached_or xs t)

row_tells : (xs : List SampleRecord) (t : ℕ) → Among t (sample_tenants xs) → RowTells xs (row_of xs t)
row_tells xs t m = record { records = refl; reached = reached xs t m; greatest = λ x n e. bound xs t x n e }

-- rows of tenants of the sample
each_tells : (xs : List SampleRecord) (ts : List ℕ) → ((z : ℕ) → Among z ts → Among z (sample_tenants xs)) → AllByRecursion (RowTells xs) (map (row_of xs) ts)
each_tells xs [] sub = tt
each_tells xs (t ∷ ts) sub = (row_tells xs t (sub t (inl refl)), each_tells xs ts (λ z m. sub z (inr m)))

tenants_back : (xs : List SampleRecord) (ts : List ℕ) → row_tenants (map (row_of xs) ts) ≡ ts
tenants_back xs [] = refl
tenants_back xs (t ∷ ts) = ap (λ (l : List ℕ). t ∷ l) (tenants_back xs ts)

pub rows_tell : (xs : List SampleRecord) → RowsTell xs (rows_of xs)
rows_tell xs =
    let ts = tenants_of xs in
    let back = tenants_back xs ts in
    let up : T (rising by_size ts) = after_rises [] xs tt in
    let there : (z : ℕ) → Among z (sample_tenants xs) → Among z ts = λ z m. to_after [] xs z (inr m) in
    let from : (z : ℕ) → Among z ts → Among z (sample_tenants xs) = λ z m. ⊎_elim (λ n. absurd n) (λ n. n) (from_after [] xs z m) in
    record {
      rises = subst (λ (l : List ℕ). T (rising by_size l)) (sym back) up;
      present = λ t. (λ m. from t (subst (λ (l : List ℕ). Among t l) back m), λ m. subst (λ (l : List ℕ). Among t l) (sym back) (there t m));
      each = each_tells xs ts from;
      total = fold-map (λ (a : ℕ) (r : Row). a + r.records) (row_of xs) 0 ts ∙ all_counted ts xs up there;
    }

-- two rows of a tenant that say this are one
same_row : (xs : List SampleRecord) (r s : Row) → RowTells xs r → RowTells xs s → r.tenant ≡ s.tenant → r ≡ s
same_row xs r s a b e =
    let records : r.records ≡ s.records = a.records ∙ ap (λ (t : ℕ). count_by (of_tenant t) xs) e ∙ sym b.records in
    let v = a.reached in
    let w = b.reached in
    let up = b.greatest v.0 v.1 (v.2 ∙ e) in
    let down = a.greatest w.0 w.1 (w.2 ∙ sym e) in
    let top = v.3 in
    let other = w.3 in
    let greatest : r.greatest ≡ s.greatest = omega arith in
    λ i. record { tenant = e i; records = records i; greatest = greatest i }

same_rows : (xs : List SampleRecord) (rs ss : List Row) → AllByRecursion (RowTells xs) rs → AllByRecursion (RowTells xs) ss → row_tenants rs ≡ row_tenants ss → rs ≡ ss
same_rows xs [] [] a b e = refl
same_rows xs [] (s ∷ ss) a b e = let z : ◌≡◌ {A = ℕ} 0 1 = cc in absurd (omega arith)
same_rows xs (r ∷ rs) [] a b e = let z : ◌≡◌ {A = ℕ} 0 1 = cc in absurd (omega arith)
same_rows xs (r ∷ rs) (s ∷ ss) a b e =
    let t : r.tenant ≡ s.tenant = cc in
    let ts : row_tenants rs ≡ row_tenants ss = cc in
    let first = same_row xs r s a.0 b.0 t in
    let rest = same_rows xs rs ss a.1 b.1 ts in
    cc first

pub only_rows : (xs : List SampleRecord) (rs ss : List Row) → RowsTell xs rs → RowsTell xs ss → rs ≡ ss
only_rows xs rs ss a b =
    let k = length (row_tenants rs) + length (row_tenants ss) in
    let P : ℕ → Type 0 = λ t. Among t (sample_tenants xs) in
    let one : Least by_size k P (row_tenants rs) = record { rises = a.rises; few = omega arith; found = λ t m. (a.present t).0 m; least = λ t m. inl ((a.present t).1 m) } in
    let two : Least by_size k P (row_tenants ss) = record { rises = b.rises; few = omega arith; found = λ t m. (b.present t).0 m; least = λ t m. inl ((b.present t).1 m) } in
    same_rows xs rs ss a.each b.each (least_same by_size size_lawful k P P (row_tenants rs) (row_tenants ss) one two (λ t m. m) (λ t m. m))
