-- The laws of or, of two maps and of two lists of them.
use Rattle.std.specs.Prelude.{◌≡◌, ℕ, zero, suc, ◌+◌, ◌/◌, ◌%◌, ◌<◌, max, List, [], ◌∷◌, ◌++◌, length, take, drop, replicate, bit_or, slice_index, slice_set, refl}
use Rattle.std.proofs.Common.{sym, ap, ◌∙◌, arith}
use Rattle.std.proofs.Math.Arith.{bin_ind}
use Rattle.std.specs.Int.Bits.{or_step, or_self}
use Rattle.std.proofs.lemmas.Nat.{or_comm}
use Rattle.std.proofs.lemmas.List.{append_assoc, take_more_set, drop-set-lt, drop_more}
use Rattle.bitmaps.specs.Bitmaps.{or_maps}

-- bit by bit
or_half : (a b : ℕ) → bit_or a b / 2 ≡ bit_or (a / 2) (b / 2)
or_half a b = let s = or_step a b in omega arith

or_last : (a b : ℕ) → bit_or a b % 2 ≡ max (a % 2) (b % 2)
or_last a b = let s = or_step a b in omega arith

pub or_assoc : (a b c : ℕ) → bit_or (bit_or a b) c ≡ bit_or a (bit_or b c)
or_assoc =
    bin_ind (λ (n : ℕ). (b c : ℕ) → bit_or (bit_or n b) c ≡ bit_or n (bit_or b c)) (λ b c. refl)
    (λ n ih b c. let upper : bit_or (bit_or n b / 2) (c / 2) ≡ bit_or (n / 2) (bit_or b c / 2) =
    ap (λ (x : ℕ). bit_or x (c / 2)) (or_half n b) ∙ ih (b / 2) (c / 2) ∙ ap (bit_or (n / 2)) (sym (or_half b c)) in
    let l = or_step (bit_or n b) c in
    let r = or_step n (bit_or b c) in
    let p = or_last n b in
    let q = or_last b c in
    omega arith)

pub length_or : (xs ys : List ℕ) → length xs ≡ length ys → length (or_maps xs ys) ≡ length xs
length_or [] ys e = refl
length_or (x ∷ xs) [] e = absurd (omega arith)
length_or (x ∷ xs) (y ∷ ys) e = ap suc (length_or xs ys (omega arith))

pub maps_assoc : (xs ys zs : List ℕ) → or_maps (or_maps xs ys) zs ≡ or_maps xs (or_maps ys zs)
maps_assoc [] ys zs = refl
maps_assoc (x ∷ xs) [] zs = refl
maps_assoc (x ∷ xs) (y ∷ ys) [] = refl
maps_assoc (x ∷ xs) (y ∷ ys) (z ∷ zs) =
    let first = or_assoc x y z in
    let rest = maps_assoc xs ys zs in
    cc

pub maps_comm : (xs ys : List ℕ) → or_maps xs ys ≡ or_maps ys xs
maps_comm [] [] = refl
maps_comm [] (y ∷ ys) = refl
maps_comm (x ∷ xs) [] = refl
maps_comm (x ∷ xs) (y ∷ ys) =
    let first = or_comm x y in
    let rest = maps_comm xs ys in
    cc

pub maps_idem : (xs : List ℕ) → or_maps xs xs ≡ xs
maps_idem [] = refl
maps_idem (x ∷ xs) =
    let first = or_self x in
    let rest = maps_idem xs in
    cc

pub maps_unit : (n : ℕ) (xs : List ℕ) → length xs ≡ n → or_maps (replicate n 0) xs ≡ xs
maps_unit zero [] e = refl
maps_unit zero (x ∷ xs) e = absurd (omega arith)
maps_unit (suc n) [] e = absurd (omega arith)
maps_unit (suc n) (x ∷ xs) e = ap (λ (l : List ℕ). x ∷ l) (maps_unit n xs (omega arith))

-- the first i maps are joined, and then one more
pub or_more : (maps others all : List ℕ) (i : ℕ) → i < length maps → i < length others → take i maps ++ or_maps (drop i maps) (drop i others) ≡ all → take (i + 1) (slice_set maps i (bit_or (slice_index maps i) (slice_index others i))) ++ or_maps (drop (i + 1) (slice_set maps i (bit_or (slice_index maps i) (slice_index others i)))) (drop (i + 1) others) ≡ all
or_more maps others all i lt under inv =
    let v = bit_or (slice_index maps i) (slice_index others i) in
    let a = drop_more maps i 0 lt in
    let b = drop_more others i 0 under in
    let both : or_maps (drop i maps) (drop i others) ≡ v ∷ or_maps (drop (i + 1) maps) (drop (i + 1) others) =
    ap (λ (l : List ℕ). or_maps l (drop i others)) a ∙ ap (or_maps (slice_index maps i ∷ drop (i + 1) maps)) b in
    let front = take_more_set maps i v lt in
    let behind = drop-set-lt (i + 1) maps i v (omega arith) in
    ap (λ (l : List ℕ). l ++ or_maps (drop (i + 1) (slice_set maps i v)) (drop (i + 1) others)) front
    ∙ ap (λ (l : List ℕ). (take i maps ++ v ∷ []) ++ or_maps l (drop (i + 1) others)) behind
    ∙ append_assoc (take i maps) (v ∷ []) (or_maps (drop (i + 1) maps) (drop (i + 1) others))
    ∙ ap (λ (l : List ℕ). take i maps ++ l) (sym both)
    ∙ inv
