-- The row of a tenant, one record more at a time.
use Rattle.std.proofs.Common.{◌≡◌, ℕ, ◌+◌, ◌<◌, max, Bool, true, false, cond, List, [], ◌∷◌, ◌++◌, length, get_or, take, refl, ap, ◌∙◌, arith}
use Rattle.std.specs.List.{count_by}
use Rattle.std.proofs.lemmas.Bool.{cond-true, cond-false, eq-eqb, ne_eqb}
use Rattle.std.proofs.lemmas.List.{take_more}
use Rattle.std.proofs.lemmas.List.Sums.{count_by_more_yes, count_by_more_no}
use Rattle.sample.specs.declared.record.SampleRecord.{SampleRecord}
use Rattle.usage.specs.Rows.{of_tenant, greatest_of}

one_more : (b c : Bool) (p q r : ℕ) → cond b (max p (cond c (max r q) r)) (cond c (max r q) r) ≡ cond c (max (cond b (max p r) r) q) (cond b (max p r) r)
one_more true true p q r = omega arith
one_more true false p q r = refl
one_more false true p q r = refl
one_more false false p q r = refl

only_one : (c : Bool) (q : ℕ) → cond c (max q 0) 0 ≡ cond c (max 0 q) 0
only_one true q = omega arith
only_one false q = refl

pub greatest_more : (xs : List SampleRecord) (x : SampleRecord) (t : ℕ) → greatest_of (xs ++ x ∷ []) t ≡ cond (of_tenant t x) (max (greatest_of xs t) x.amount) (greatest_of xs t)
greatest_more [] x t = only_one (of_tenant t x) x.amount
greatest_more (y ∷ ys) x t =
    ap (λ (n : ℕ). cond (of_tenant t y) (max y.amount n) n) (greatest_more ys x t) ∙ one_more (of_tenant t y) (of_tenant t x) y.amount x.amount (greatest_of ys t)

-- the next record is of the tenant, or not
module _ (xs : List SampleRecord) (i : ℕ) (d : SampleRecord) (lt : i < length xs) (t : ℕ) where
  pub counted_yes : (get_or xs i d).tenant ≡ t → (count_by (of_tenant t) (take (i + 1) xs) ≡ count_by (of_tenant t) (take i xs) + 1) × (greatest_of (take (i + 1) xs) t ≡ max (greatest_of (take i xs) t) (get_or xs i d).amount)
  counted_yes e =
      let yes = eq-eqb (get_or xs i d).tenant t e in (
        count_by_more_yes (of_tenant t) xs i d lt yes,
        ap (λ (l : List SampleRecord). greatest_of l t) (take_more xs i d lt) ∙ greatest_more (take i xs) (get_or xs i d) t ∙ cond-true (of_tenant t (get_or xs i d)) _ _ yes,
      )

  pub counted_no : ((get_or xs i d).tenant ≡ t → ⊥) → (count_by (of_tenant t) (take (i + 1) xs) ≡ count_by (of_tenant t) (take i xs)) × (greatest_of (take (i + 1) xs) t ≡ greatest_of (take i xs) t)
  counted_no n =
      let no = ne_eqb (get_or xs i d).tenant t n in (
        count_by_more_no (of_tenant t) xs i d lt no,
        ap (λ (l : List SampleRecord). greatest_of l t) (take_more xs i d lt) ∙ greatest_more (take i xs) (get_or xs i d) t ∙ cond-false (of_tenant t (get_or xs i d)) _ _ no,
      )
