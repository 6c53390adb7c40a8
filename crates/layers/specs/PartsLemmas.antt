-- Frames that are parts of a frame: how they are written one after another, and what is told where they are read.
use Rattle.std.specs.Prelude.{◌≡◌, ℕ, ◌+◌, ◌-◌, ◌<◌, ◌≤◌, false, List, ◌∷◌, ◌++◌, length, take, drop, All, Contains, Ok, Err, Result, MatchResult}
use Rattle.std.proofs.Common.{sym, ap, ◌∙◌, arith}
use Rattle.std.specs.Result.{result_map_both}
use Rattle.std.specs.List.{between}
use borrow.Rule.Slice.PartMut.{put_mid}
use Rattle.std.proofs.lemmas.List.{length-drop, take_at, take_rest, drop_at, drop_all, append-nil, append_assoc}
use Rattle.std.proofs.lemmas.List.Edits.{length-between}
use Rattle.std.proofs.lemmas.List.Elements.{All-take, All-drop}
use Rattle.std.proofs.lemmas.Result.{MatchResult-weaker}
use Rattle.std.proofs.lemmas.Bool.{cond-false}
use Rattle.synopsis.specs.declared.fault.DecodeFault.{DecodeFault}
use Rattle.synopsis.specs.declared.fault.EncodeFault.{EncodeFault}
use Rattle.synopsis.specs.declared.fault.EncodeFault.TheVariants.{Room}
use Rattle.synopsis.specs.Kind.{Kind, Laws, Inside, overlong, frame_length, encode_answer, encode_after}
use Rattle.synopsis.proofs.Fits.{fitted_not, over_not, fitted_so, over_so, encode_ok, encode_over}
use Rattle.synopsis.proofs.Reading.{Tells, laws_tell}
use Rattle.layers.specs.Parts.{then_read, raise, read_part}

-- what a kind that is not overlong answers and writes
module _ (k : Kind) (h : overlong k ≡ false) (x : k.Form) where
  -- LENGTH is the number of bytes of the encoding
  pub fits_length : frame_length k x ≡ length (k.encoding x)
  fits_length = cond-false (overlong k) _ _ h

  module _ (out : List ℕ) where
    -- ENCODE refuses too few bytes
    pub no_room_answer : length out < length (k.encoding x) → Err Room ≡ encode_answer k x (length out)
    no_room_answer lt = fitted_not (k.encoding x) (length out) lt ∙ sym (cond-false (overlong k) _ _ h)

    -- and leaves them as they were
    pub no_room_after : length out < length (k.encoding x) → out ≡ encode_after k x out
    no_room_after lt = over_not (k.encoding x) out lt ∙ sym (cond-false (overlong k) _ _ h)

    -- where there is room, it answers the length of the encoding
    pub room_answer : length (k.encoding x) ≤ length out → Ok (length (k.encoding x)) ≡ encode_answer k x (length out)
    room_answer le = fitted_so (k.encoding x) (length out) le ∙ sym (cond-false (overlong k) _ _ h)

    -- and writes it at the front of the bytes
    pub room_after : length (k.encoding x) ≤ length out → k.encoding x ++ drop (length (k.encoding x)) out ≡ encode_after k x out
    room_after le = over_so (k.encoding x) out le ∙ sym (cond-false (overlong k) _ _ h)

    -- bytes of the encoding's length are filled by it
    pub filled : length out ≡ length (k.encoding x) → encode_after k x out ≡ k.encoding x
    filled e = sym (room_after (omega arith)) ∙ ap (λ (l : List ℕ). k.encoding x ++ l) (drop_all (length (k.encoding x)) out (omega arith)) ∙ append-nil (k.encoding x)

-- a frame is written over the last bytes, which have room for each of its kind
module _ (k : Kind) (laws : Laws k) (fits : overlong k ≡ false) (x : k.Form) (bytes front rest : List ℕ) (at : ℕ) (e : bytes ≡ front ++ rest) (long : length front ≡ at) (room : k.greatest ≤ length rest) where
  last_part : between at (length bytes) bytes ≡ rest
  last_part = take_rest bytes at ∙ ap (drop at) e ∙ drop_at front rest at long

  pub last_length : (n : ℕ) → Ok n ≡ encode_answer k x (length (between at (length bytes) bytes)) → n ≡ length (k.encoding x)
  last_length n n_is = ap ok_or (n_is ∙ ap (λ (part : List ℕ). encode_answer k x (length part)) last_part ∙ encode_ok k laws fits x rest room)
    where
      ok_or : Result ℕ EncodeFault → ℕ
      ok_or (Ok n) = n
      ok_or (Err e) = 0

  pub last_written : (part : List ℕ) → part ≡ encode_after k x (between at (length bytes) bytes) → put_mid at (length bytes - at) bytes part ≡ (front ++ k.encoding x) ++ drop (length (k.encoding x)) rest
  last_written part part_is =
      ap (λ (l : List ℕ). take at bytes ++ (part ++ l)) (drop_all (length bytes - at) (drop at bytes) (omega (arith, length-drop at bytes)))
      ∙ ap (λ (l : List ℕ). take at bytes ++ l) (append-nil part)
      ∙ ap (λ (l : List ℕ). l ++ part) (ap (take at) e ∙ take_at front rest at long)
      ∙ ap (λ (l : List ℕ). front ++ l) (part_is ∙ ap (encode_after k x) last_part ∙ encode_over k laws fits x rest room)
      ∙ sym (append_assoc front (k.encoding x) (drop (length (k.encoding x)) rest))

-- what two readings tell, one after the other
pub then_tells : {X Y : Type 0} (P : X → Type 0) (Q : Y → Type 0) (F : DecodeFault → Type 0) (r : Result X DecodeFault) (next : X → Result Y DecodeFault) → MatchResult r P F → ((x : X) → P x → MatchResult (next x) Q F) → MatchResult (then_read r next) Q F
then_tells P Q F (Ok x) next h k = k x h
then_tells P Q F (Err e) next h k = h

-- what a lawful kind tells of a part of bytes: its faults lie within them, and arose where those of the part did
pub part_tells : (k : Kind) → Laws k → (from to : ℕ) (bytes : List ℕ) → from ≤ to → to ≤ length bytes → MatchResult (read_part k from to bytes) (λ x. All (λ b. b < 256) bytes → k.encoding x ≡ between from to bytes) (λ e. (e.place ≤ length bytes) × Contains (k.number ∷ k.below) e.kind)
part_tells k laws from to bytes up within = raised (k.decoding part) (laws_tell k laws part)
  where
    part : List ℕ
    part = between from to bytes

    raised : (r : Result k.Form DecodeFault) → Tells k part r → MatchResult (result_map_both (λ x. x) (raise from) r) (λ x. All (λ b. b < 256) bytes → k.encoding x ≡ part) (λ e. (e.place ≤ length bytes) × Contains (k.number ∷ k.below) e.kind)
    raised (Ok x) h = λ small. h (All-take (λ b. b < 256) (to - from) (drop from bytes) (All-drop (λ b. b < 256) from bytes small))
    raised (Err e) h = (let le : e.place ≤ length part = h.0 in omega (arith, length-between bytes from to within), h.1)

-- what is wrong lies within the bytes, whichever of two readings finds it
pub inside_then : {X Y : Type 0} (n : ℕ) (r : Result X DecodeFault) (next : X → Result Y DecodeFault) → Inside n r → ((x : X) → Inside n (next x)) → Inside n (then_read r next)
inside_then n r next h k = then_tells (λ _. Unit {0}) (λ _. Unit {0}) (λ e. e.place ≤ n) r next h (λ x _. k x)

-- a place within a part is one within the bytes
pub part_inside : (from to : ℕ) (bytes : List ℕ) (place : ℕ) → from ≤ to → to ≤ length bytes → place ≤ length (between from to bytes) → from + place ≤ length bytes
part_inside from to bytes place up within le = omega (arith, length-between bytes from to within)

-- what is wrong with a part lies within the bytes
pub inside_part : (k : Kind) → Laws k → (from to : ℕ) (bytes : List ℕ) → from ≤ to → to ≤ length bytes → Inside (length bytes) (read_part k from to bytes)
inside_part k laws from to bytes up within = MatchResult-weaker (read_part k from to bytes) (part_tells k laws from to bytes up within) (λ _ _. tt) (λ e h. h.0)
