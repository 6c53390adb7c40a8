-- Numbers that are read from bytes of their width, and from others.
use Rattle.std.proofs.Common.{◌≡◌, ℕ, ◌%◌, ◌^◌, ◌<◌, Bool, true, false, eqb, List, [], length, refl, sym, ap, ◌∙◌, arith}
use Rattle.std.specs.List.{AllByRecursion}
use Rattle.std.proofs.Math.Nat.{zero-mod}
use Rattle.std.proofs.lemmas.Bool.{cond-true, cond-false, eq-eqb, eqb-true, eqb-false}
use Rattle.frames.specs.Numbers.{in_bytes, from_bytes}
use Rattle.frames.proofs.Numbers.{in_from_bytes, from_small}
use Rattle.records.specs.Records.{Layout, of_width, numbers}

-- bytes of a record's width are written over and read whole
module _ {E : Type 0} (l : Layout E) (bytes : List ℕ) (long : length bytes ≡ l.width) where
  pub whole_width : of_width l bytes ≡ bytes
  whole_width = cond-true _ bytes _ (eq-eqb (length bytes) l.width long)

-- a number that is read from bytes of its width is the one that they write
pub number_got : (w : ℕ) (bytes : List ℕ) (x : ℕ) → AllByRecursion (λ b. b < 256) bytes → length bytes ≡ w → x ≡ from_bytes bytes % 256 ^ w → (x ≡ from_bytes (of_width (numbers w) bytes)) × (in_bytes w x ≡ bytes)
number_got w bytes x small long e =
    let value : x ≡ from_bytes bytes = e ∙ from_small w bytes small (omega arith) in
    (value ∙ ap from_bytes (sym (whole_width (numbers w) bytes long)), ap (in_bytes w) value ∙ ap (λ (n : ℕ). in_bytes n (from_bytes bytes)) (sym long) ∙ in_from_bytes bytes small)

-- a number that is read from bytes of its width, or zero for others, is the one that they write
pub got_sized : (w : ℕ) (bytes : List ℕ) (x : ℕ) → (length bytes ≡ w → AllByRecursion (λ b. b < 256) bytes) → x ≡ from_bytes (of_width (numbers w) bytes) % 256 ^ w → (length bytes ≡ w → (x ≡ from_bytes bytes) × (in_bytes w x ≡ bytes)) × (x ≡ from_bytes (of_width (numbers w) bytes))
got_sized w bytes x small e = by (eqb (length bytes) w) refl
  where
    by : (b : Bool) → eqb (length bytes) w ≡ b → (length bytes ≡ w → (x ≡ from_bytes bytes) × (in_bytes w x ≡ bytes)) × (x ≡ from_bytes (of_width (numbers w) bytes))
    by true q =
        let long : length bytes ≡ w = eqb-true (length bytes) w q in
        let whole = whole_width (numbers w) bytes long in
        let got = number_got w bytes x (small long) long (e ∙ ap (λ (b : List ℕ). from_bytes b % 256 ^ w) whole) in
        (λ l. (got.0 ∙ ap from_bytes whole, got.1), got.0)
    by false q =
        let none : of_width (numbers w) bytes ≡ [] = cond-false (eqb (length bytes) w) bytes [] q in
        let zero : x ≡ 0 = e ∙ ap (λ (b : List ℕ). from_bytes b % 256 ^ w) none ∙ zero-mod (256 ^ w) in
        (λ l. absurd (eqb-false (length bytes) w q l), zero ∙ sym (ap from_bytes none))
