-- What a merge gives next, and what it has written once it ends.
use Rattle.std.proofs.Common.{◌≡◌, ℕ, ◌+◌, ◌-◌, ◌<◌, ◌≤◌, List, [], ◌∷◌, ◌++◌, length, take, drop, get_or, Ordering, Less, Equal, refl, sym, ap, ◌∙◌, arith}
use Rattle.std.proofs.Math.Seq.{take-append-add, drop-append-add}
use Rattle.std.proofs.lemmas.List.{append-nil, append_assoc, take_more, drop_more, length-take-le, length-append, length-drop, take_at, drop_at, take_all, drop_all, drop-drop, take-append-drop}
use borrow.Rule.Slice.PartMut.{put_mid}
use Rattle.runs.specs.Union.{pick, against, merge, union_of}

-- with nothing on the right, all of the left
module _ {E : Type 0} (order : E → E → Ordering) where
  pub merge_none : (xs : List E) → merge order xs [] ≡ xs
  merge_none [] = refl
  merge_none (x ∷ xs) = refl

  -- the first element on the left, where it is less, and where it stands on both sides
  pub next_less : (x y : E) (xs ys : List E) → order x y ≡ Less → merge order (x ∷ xs) (y ∷ ys) ≡ x ∷ merge order xs (y ∷ ys)
  next_less x y xs ys e = ap (λ (o : Ordering). pick o (x ∷ merge order xs (y ∷ ys)) (x ∷ merge order xs ys) (y ∷ against order x xs (merge order xs) ys)) e

  pub next_both : (x y : E) (xs ys : List E) → order x y ≡ Equal → merge order (x ∷ xs) (y ∷ ys) ≡ x ∷ merge order xs ys
  next_both x y xs ys e = ap (λ (o : Ordering). pick o (x ∷ merge order xs (y ∷ ys)) (x ∷ merge order xs ys) (y ∷ against order x xs (merge order xs) ys)) e

  -- so a merge begins with one more of the left
  pub begins_more : (all xs ys rest : List E) (i : ℕ) (x : E) → all ≡ take i xs ++ merge order (drop i xs) ys → i < length xs → x ≡ get_or xs i x → merge order (x ∷ drop (i + 1) xs) ys ≡ x ∷ rest → all ≡ take (i + 1) xs ++ rest
  begins_more all xs ys rest i x e lt is next =
      e ∙ ap (λ (l : List E). take i xs ++ merge order l ys) (drop_more xs i x lt ∙ ap (λ (y : E). y ∷ drop (i + 1) xs) (sym is))
      ∙ ap (λ (l : List E). take i xs ++ l) next
      ∙ sym (append_assoc (take i xs) (x ∷ []) rest)
      ∙ ap (λ (l : List E). l ++ rest) (ap (λ (y : E). take i xs ++ (y ∷ [])) is ∙ sym (take_more xs i x lt))

  -- and the left itself, where it begins so that nothing is left on the right
  pub begins_all : (k : ℕ) (xs ys : List E) (i j : ℕ) → merge order xs ys ≡ take i xs ++ merge order (drop i xs) (drop j ys) → length ys ≤ j → length xs ≤ k → union_of order k xs ys ≡ xs
  begins_all k xs ys i j e none few =
      ap (take k) (e ∙ ap (λ (l : List E). take i xs ++ merge order (drop i xs) l) (drop_all j ys none) ∙ ap (λ (l : List E). take i xs ++ l) (merge_none (drop i xs)) ∙ take-append-drop i xs)
      ∙ take_all k xs few

-- all is written: the places are full, or nothing is left
module _ {E : Type 0} (out all left : List E) (n k : ℕ) (within : n ≤ length out) (e : take n out ++ left ≡ all) (long : length out ≡ k) where
  front : length (take n out) ≡ n
  front = length-take-le n out within

  pub written_full : k ≤ n → take n out ≡ take k all
  written_full h =
      let s : length (take n out) ≡ k = omega (arith, front) in
      sym (ap (take k) (sym e) ∙ take_at (take n out) left k s)

  pub written_all : left ≡ [] → take n out ≡ take k all
  written_all f =
      let p : take n out ≡ all = sym (append-nil (take n out)) ∙ ap (λ (l : List E). take n out ++ l) (sym f) ∙ e in
      let s : length all ≤ k = omega (arith, front, ap length p) in
      p ∙ sym (take_all k all s)

-- a front that was copied, and what is written behind it
module _ {E : Type 0} (copied old rest : List E) (n m : ℕ) (long : length copied ≡ n) where
  pub behind : take (length (copied ++ old) - n) (drop n (copied ++ old)) ≡ old
  behind =
      let e : drop n (copied ++ old) ≡ old = drop_at copied old n long in
      ap (take (length (copied ++ old) - n)) e ∙ take_all (length (copied ++ old) - n) old (simp length-append (omega arith))

  whole : put_mid n (length (copied ++ old) - n) (copied ++ old) rest ≡ copied ++ rest
  whole =
      let places = copied ++ old in
      let none : drop (length places - n) (drop n places) ≡ [] = drop_all (length places - n) (drop n places) (simp length-drop (omega arith)) in
      ap (λ (l : List E). take n places ++ (rest ++ l)) none ∙ ap (λ (l : List E). take n places ++ l) (append-nil rest) ∙ ap (λ (l : List E). l ++ rest) (take_at copied old n long)

  pub written_on : (all left : List E) (k : ℕ) → all ≡ copied ++ left → n ≤ k → take m rest ≡ take (k - n) left → take (n + m) (put_mid n (length (copied ++ old) - n) (copied ++ old) rest) ≡ take k all
  written_on all left k e le value =
      let j : length copied + (k - n) ≡ k = omega (arith, long) in
      ap (take (n + m)) whole
      ∙ ap (λ (i : ℕ). take (i + m) (copied ++ rest)) (sym long) ∙ take-append-add copied rest m
      ∙ ap (λ (l : List E). copied ++ l) value
      ∙ sym (ap (take k) e ∙ ap (λ (i : ℕ). take i (copied ++ left)) (sym j) ∙ take-append-add copied left (k - n))

  pub same_on : (out : List E) → old ≡ drop n out → drop m rest ≡ drop m old → drop (n + m) (put_mid n (length (copied ++ old) - n) (copied ++ old) rest) ≡ drop (n + m) out
  same_on out e same =
      ap (drop (n + m)) whole
      ∙ ap (λ (i : ℕ). drop (i + m) (copied ++ rest)) (sym long) ∙ drop-append-add copied rest m
      ∙ same ∙ ap (drop m) e ∙ drop-drop m n out
