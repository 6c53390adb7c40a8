-- What a synopsis kind means, and the laws that it keeps.
use Rattle.std.specs.Prelude.{◌≡◌, ℕ, ◌<◌, ◌≤◌, Bool, true, false, cond, List, ◌∷◌, ◌++◌, length, drop, All, Contains, IfErr, Ok, Err, Result, MatchResult, nat_lt}
use Rattle.readings.specs.declared.Reading.{Reading}
use Rattle.synopsis.specs.declared.fault.DecodeFault.{DecodeFault}
use Rattle.synopsis.specs.declared.fault.EncodeFault.{EncodeFault}
use Rattle.synopsis.specs.Faults.{encode_fault_of, refusal}

-- A kind has forms, and a value of the kind has one of them, told by what it holds.
pub record Kind : Type 1 where
  pub Form : Type 0
  -- the kind number, and the greatest length of an encoding; 2,049 says that the kind is overlong
  pub number : ℕ
  pub greatest : ℕ
  -- the numbers of the kinds that a layer takes, and of those that these take; none where the kind is no layer
  pub below : List ℕ
  -- the empty form, a reading's form, and the join of two forms
  pub none : Form
  pub single : Reading → Form
  pub join : Form → Form → Form
  -- the bytes that a form is written as, and what bytes are read as: a form, or what is wrong with them
  pub encoding : Form → List ℕ
  pub decoding : List ℕ → Result Form DecodeFault

-- the greatest length of a kind that is not overlong
abbrev pub longest : ℕ
longest = 2048

abbrev pub overlong : Kind → Bool
overlong k = nat_lt longest k.greatest

-- what is wrong, if anything is, lies within so many bytes
abbrev pub Inside : {A : Type 0} → ℕ → Result A DecodeFault → Type 0
Inside n r = IfErr r (λ e. e.place ≤ n)

-- a fault arose in this kind, or in one that it takes
abbrev pub ArisesIn : (k : Kind) → {A : Type 0} → Result A DecodeFault → Type 0
ArisesIn k r = IfErr r (λ e. Contains (k.number ∷ k.below) e.kind)

-- What every kind keeps.
pub record Laws (k : Kind) : Type 0 where
  pub assoc : (x y z : k.Form) → k.join (k.join x y) z ≡ k.join x (k.join y z)
  pub comm : (x y : k.Form) → k.join x y ≡ k.join y x
  pub idem : (x : k.Form) → k.join x x ≡ x
  pub unit : (x : k.Form) → k.join k.none x ≡ x
  -- the greatest length, and every length up to it
  pub bounded : k.greatest ≤ 2049
  pub least : overlong k ≡ false → (x : k.Form) → 4 ≤ length (k.encoding x)
  pub most : overlong k ≡ false → (x : k.Form) → length (k.encoding x) ≤ k.greatest
  -- a frame reads back as the form that made it
  pub back : overlong k ≡ false → (x : k.Form) → k.decoding (k.encoding x) ≡ Ok x
  -- so different forms have different encodings
  pub apart : overlong k ≡ false → (x y : k.Form) → k.encoding x ≡ k.encoding y → x ≡ y
  -- and bytes that are read are the encoding of what they are read as
  pub exact : (bytes : List ℕ) → All (λ b. b < 256) bytes → (x : k.Form) → k.decoding bytes ≡ Ok x → k.encoding x ≡ bytes
  -- a fault is of this kind, or of one that it takes
  pub arises : (bytes : List ℕ) → ArisesIn k (k.decoding bytes)
  -- a fault lies within the bytes, and an overlong kind reads none
  pub inside : (bytes : List ℕ) → Inside (length bytes) (k.decoding bytes)
  pub shut : overlong k ≡ true → (bytes : List ℕ) → k.decoding bytes ≡ Err (refusal 3 0 k.number)

-- the length of a frame that is to be written into so many bytes, if they suffice
abbrev pub fitted : List ℕ → ℕ → Result ℕ EncodeFault
fitted frame room = cond (nat_lt room (length frame)) (Err (encode_fault_of 8)) (Ok (length frame))

-- a frame over the front of some bytes, if they suffice
abbrev pub over : List ℕ → List ℕ → List ℕ
over frame bytes = cond (nat_lt (length bytes) (length frame)) bytes (frame ++ drop (length frame) bytes)

module _ (k : Kind) where
  -- LENGTH
  abbrev pub frame_length : k.Form → ℕ
  frame_length x = cond (overlong k) 2049 (length (k.encoding x))

  -- what ENCODE answers of a form, with room for so many bytes
  abbrev pub encode_answer : k.Form → ℕ → Result ℕ EncodeFault
  encode_answer x room = cond (overlong k) (Err (encode_fault_of 3)) (fitted (k.encoding x) room)

  -- the bytes after ENCODE
  abbrev pub encode_after : k.Form → List ℕ → List ℕ
  encode_after x bytes = cond (overlong k) bytes (over (k.encoding x) bytes)

  -- What DECODE answers and leaves: at the place the form that the bytes encode, or the value that was there.
  abbrev pub Decoded : {S : Type 0} → (S → k.Form) → List ℕ → (before after : S) → Result (Unit {0}) DecodeFault → Type 0
  Decoded form bytes before after r =
      MatchResult r
      (λ _. (k.decoding bytes ≡ Ok (form after)) × (k.encoding (form after) ≡ bytes))
      (λ e. (k.decoding bytes ≡ Err e) × (after ≡ before))
