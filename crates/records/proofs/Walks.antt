-- A walk along records that lie one behind the other.
use Rattle.std.proofs.Common.{◌≡◌, ℕ, suc, ◌+◌, ◌-◌, ◌*◌, ◌<◌, ◌≤◌, List, [], ◌∷◌, ◌++◌, length, get_or, take, drop, set, sym, ap, ◌∙◌, suc-mul, arith, take-add}
use borrow.Rule.Slice.PartMut.{put_mid}
use Rattle.std.specs.List.{flat_map}
use Rattle.std.proofs.lemmas.List.{take_more, take_more_set, append_assoc, drop-drop, flat_map_more, length-take, length-drop}
use Rattle.std.proofs.lemmas.Slice.{take-put_mid}
use Rattle.records.specs.Records.{Layout, cut}

-- what is left after i of n records of w bytes
pub room : (n i w at len : ℕ) → i < n → at + (n - i) * w ≡ len → (at + w ≤ len) × (at + w + (n - (i + 1)) * w ≡ len)
room n i w at len lt e =
    let s : n - i ≡ suc (n - (i + 1)) = omega arith in
    let m : (n - i) * w ≡ (n - (i + 1)) * w + w = ap (λ (k : ℕ). k * w) s ∙ suc-mul (n - (i + 1)) w in
    (omega arith, omega arith)

module _ {E : Type 0} (f : E → List ℕ) where
  joined_push : (xs : List E) (x : E) → flat_map f xs ++ f x ≡ flat_map f (xs ++ x ∷ [])
  joined_push xs x = flat_map_more f [] xs x

  -- one record more is joined
  pub joined_step : (xs : List E) (i : ℕ) (x : E) → i < length xs → x ≡ get_or xs i x → flat_map f (take i xs) ++ f x ≡ flat_map f (take (i + 1) xs)
  joined_step xs i x lt e =
      let t : take (i + 1) xs ≡ take i xs ++ x ∷ [] = take_more xs i x lt ∙ ap (λ (y : E). take i xs ++ y ∷ []) (sym e) in
      joined_push (take i xs) x ∙ ap (flat_map f) (sym t)

  -- one record more is written
  pub put_step : (items : List E) (out ys : List ℕ) (i at k n : ℕ) (x : E) → i < length items → x ≡ get_or items i x → take at out ≡ flat_map f (take i items) → at ≤ length out → ys ≡ f x → n ≡ at + length ys → take n (put_mid at k out ys) ≡ flat_map f (take (i + 1) items)
  put_step items out ys i at k n x lt e inv le q m =
      take-put_mid at k out ys n m le ∙ ap (λ (l : List ℕ). l ++ ys) inv ∙ ap (λ (l : List ℕ). flat_map f (take i items) ++ l) q ∙ joined_step items i x lt e

module _ {E : Type 0} (l : Layout E) where
  -- one record more is read
  pub cut_step : (out : List E) (bytes : List ℕ) (i at n : ℕ) (x : E) → i < length out → n ≡ length out → take i out ++ cut l (n - i) (drop at bytes) ≡ cut l n bytes → x ≡ l.read (take l.width (drop at bytes)) → take (i + 1) (set out i x) ++ cut l (n - (i + 1)) (drop (at + l.width) bytes) ≡ cut l n bytes
  cut_step out bytes i at n x lt m inv q =
      let s : n - i ≡ suc (n - (i + 1)) = omega arith in
      let d : drop l.width (drop at bytes) ≡ drop (at + l.width) bytes = drop-drop l.width at bytes in
      let open_cut : cut l (n - i) (drop at bytes) ≡ x ∷ cut l (n - (i + 1)) (drop (at + l.width) bytes) =
      ap (λ (k : ℕ). cut l k (drop at bytes)) s ∙ ap (λ (y : E). y ∷ cut l (n - (i + 1)) (drop l.width (drop at bytes))) (sym q) ∙ ap (λ (b : List ℕ). x ∷ cut l (n - (i + 1)) b) d in
      rw (take_more_set out i x lt, append_assoc) (ap (λ (r : List E). take i out ++ r) (sym open_cut) ∙ inv)

  -- and its bytes with it
  pub back_step : (out : List E) (bytes : List ℕ) (i at : ℕ) (x : E) → i < length out → flat_map l.written (take i out) ≡ take at bytes → l.written x ≡ take l.width (drop at bytes) → flat_map l.written (take (i + 1) (set out i x)) ≡ take (at + l.width) bytes
  back_step out bytes i at x lt inv q =
      ap (flat_map l.written) (take_more_set out i x lt) ∙ sym (joined_push l.written (take i out) x)
      ∙ ap (λ (b : List ℕ). b ++ l.written x) inv ∙ ap (λ (b : List ℕ). take at bytes ++ b) q ∙ sym (take-add at l.width bytes)

-- the part of w bytes at a place has w bytes
pub part_length : (bytes : List ℕ) (at w v : ℕ) → v ≡ w → at + w ≤ length bytes → length (take (at + v - at) (drop at bytes)) ≡ w
part_length bytes at w v e le = simp (length-take, length-drop) (omega arith)

pub part_is : (bytes : List ℕ) (at w v : ℕ) → v ≡ w → take (at + v - at) (drop at bytes) ≡ take w (drop at bytes)
part_is bytes at w v e = let s : at + v - at ≡ w = omega arith in ap (λ (n : ℕ). take n (drop at bytes)) s
