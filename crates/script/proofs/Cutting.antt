-- Texts that are cut at the first byte of a sort.
use Rattle.std.proofs.Common.{◌≡◌, ℕ, zero, suc, ◌+◌, ◌-◌, ◌<◌, ◌≤◌, ◌==◌, Bool, true, false, not, List, [], ◌∷◌, length, take, drop, None, Some, Err, position, inl, inr, refl, sym, ap, ◌∙◌, arith, add-one}
use Rattle.std.specs.List.{onto_first, position_or_len, slice_split}
use Rattle.std.proofs.lemmas.Bool.{cond-true, cond-false, cases_Bool, not_from_true, not_from_false}
use Rattle.std.proofs.lemmas.List.Splits.{slice_split-cons_yes, slice_split-cons_no, length-slice_split}
use Rattle.std.proofs.lemmas.List.{take_rest}
use Rattle.script.specs.declared.fault.LineFault.TheVariants.{Form}
use Rattle.script.specs.Fields.{one}
use Rattle.script.specs.Lines.{lines, fields}

-- the place of the first such byte, in a list with one byte more
place_here : (p : ℕ → Bool) (b : ℕ) (rest : List ℕ) → p b ≡ true → position_or_len p (b ∷ rest) ≡ 0
place_here p b rest t = cond-false (not (p b)) _ _ (not_from_true (p b) t)

place_later : (p : ℕ → Bool) (b : ℕ) (rest : List ℕ) → p b ≡ false → position_or_len p (b ∷ rest) ≡ 1 + position_or_len p rest
place_later p b rest f = cond-true (not (p b)) _ _ (not_from_false (p b) f)

-- the first line, where a byte 10 ends it
line_ends : (bs : List ℕ) (n : ℕ) → position_or_len (λ b. b == 10) bs ≡ n → n < length bs → lines bs ≡ take n bs ∷ lines (drop (suc n) bs)
line_ends [] n e lt = absurd (omega arith)
line_ends (b ∷ rest) zero e lt =
    elim (cases_Bool (b == 10)) [
      | inl t ↦ cond-true (b == 10) _ _ t
      | inr f ↦ absurd (omega (arith, e, place_later (λ b. b == 10) b rest f))
    ]
line_ends (b ∷ rest) (suc n) e lt =
    elim (cases_Bool (b == 10)) [
      | inl t ↦ absurd (omega (arith, e, place_here (λ b. b == 10) b rest t))
      | inr f ↦ cond-false (b == 10) _ _ f ∙ ap (onto_first b) (line_ends rest n (omega (arith, e, place_later (λ b. b == 10) b rest f)) (omega arith))
    ]

-- and where none does
line_goes_on : (bs : List ℕ) → length bs ≤ position_or_len (λ b. b == 10) bs → 0 < length bs → lines bs ≡ bs ∷ []
line_goes_on [] le lt = absurd (omega arith)
line_goes_on (b ∷ []) le lt =
    elim (cases_Bool (b == 10)) [
      | inl t ↦ absurd (omega (arith, le, place_here (λ b. b == 10) b [] t))
      | inr f ↦ cond-false (b == 10) _ _ f
    ]
line_goes_on (b ∷ c ∷ rest) le lt =
    elim (cases_Bool (b == 10)) [
      | inl t ↦ absurd (omega (arith, le, place_here (λ b. b == 10) b (c ∷ rest) t))
      | inr f ↦ cond-false (b == 10) _ _ f ∙ ap (onto_first b) (line_goes_on (c ∷ rest) (omega (arith, le, place_later (λ b. b == 10) b (c ∷ rest) f)) (omega arith))
    ]

-- the same of fields
field_ends : (p : ℕ → Bool) (bs : List ℕ) (n : ℕ) → position_or_len p bs ≡ n → n < length bs → slice_split p bs ≡ take n bs ∷ slice_split p (drop (suc n) bs)
field_ends p [] n e lt = absurd (omega arith)
field_ends p (b ∷ rest) zero e lt =
    elim (cases_Bool (p b)) [
      | inl t ↦ slice_split-cons_yes p b rest t
      | inr f ↦ absurd (omega (arith, e, place_later p b rest f))
    ]
field_ends p (b ∷ rest) (suc n) e lt =
    elim (cases_Bool (p b)) [
      | inl t ↦ absurd (omega (arith, e, place_here p b rest t))
      | inr f ↦ slice_split-cons_no p b rest f ∙ ap (onto_first b) (field_ends p rest n (omega (arith, e, place_later p b rest f)) (omega arith))
    ]

field_goes_on : (p : ℕ → Bool) (bs : List ℕ) → length bs ≤ position_or_len p bs → slice_split p bs ≡ bs ∷ []
field_goes_on p [] le = refl
field_goes_on p (b ∷ rest) le =
    elim (cases_Bool (p b)) [
      | inl t ↦ absurd (omega (arith, le, place_here p b rest t))
      | inr f ↦ slice_split-cons_no p b rest f ∙ ap (onto_first b) (field_goes_on p rest (omega (arith, le, place_later p b rest f)))
    ]

-- what a place that was found, or not, says of the first such byte
found : (p : ℕ → Bool) (bs : List ℕ) (at : ℕ) → position p bs ≡ Some at → (position_or_len p bs ≡ at) × (at < length bs)
found p bs at e = grind (arith)

missing : (p : ℕ → Bool) (bs : List ℕ) → position p bs ≡ None → length bs ≤ position_or_len p bs
missing p bs e = grind (arith)

-- the part up to a place, and what comes after it, as slices give them
sliced : (F : List ℕ → List (List ℕ)) (bs : List ℕ) (at : ℕ) → F bs ≡ take at bs ∷ F (drop (suc at) bs) → F bs ≡ take at bs ∷ F (take (length bs - (at + 1)) (drop (at + 1) bs))
sliced F bs at e = e ∙ ap (λ (n : ℕ). take at bs ∷ F (drop n bs)) (sym (add-one at)) ∙ ap (λ (l : List ℕ). take at bs ∷ F l) (sym (take_rest bs (at + 1)))

pub first_field : (bs : List ℕ) (at : ℕ) → position (λ b. b == 32) bs ≡ Some at → fields bs ≡ take at bs ∷ fields (take (length bs - (at + 1)) (drop (at + 1) bs))
first_field bs at e = let f = found (λ b. b == 32) bs at e in sliced fields bs at (field_ends (λ b. b == 32) bs at f.0 f.1)

pub no_more_fields : (bs : List ℕ) → position (λ b. b == 32) bs ≡ None → fields bs ≡ bs ∷ []
no_more_fields bs e = field_goes_on (λ b. b == 32) bs (missing (λ b. b == 32) bs e)

one_of_more : (a : List ℕ) (fs : List (List ℕ)) → 0 < length fs → one (a ∷ fs) ≡ Err Form
one_of_more a [] lt = absurd (omega arith)
one_of_more a (b ∷ fs) lt = refl

-- where a second field follows there is not one
pub not_one : (bs : List ℕ) (at : ℕ) → position (λ b. b == 32) bs ≡ Some at → one (fields bs) ≡ Err Form
not_one bs at e =
    let more = drop (suc at) bs in
    let f = found (λ b. b == 32) bs at e in
    ap one (field_ends (λ b. b == 32) bs at f.0 f.1) ∙ one_of_more (take at bs) (fields more) (omega (arith, length-slice_split (λ b. b == 32) more))

-- the first line, and what comes after it
pub ended_line : (bs : List ℕ) (at : ℕ) → position (λ b. b == 10) bs ≡ Some at → lines bs ≡ take at bs ∷ lines (take (length bs - (at + 1)) (drop (at + 1) bs))
ended_line bs at e = let f = found (λ b. b == 10) bs at e in sliced lines bs at (line_ends bs at f.0 f.1)

pub last_line : (bs : List ℕ) → position (λ b. b == 10) bs ≡ None → 0 < length bs → lines bs ≡ bs ∷ []
last_line bs e lt = line_goes_on bs (missing (λ b. b == 10) bs e) lt
