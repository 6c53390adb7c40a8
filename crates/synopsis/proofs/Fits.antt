-- A frame is written where there is room for it.
use Rattle.std.proofs.Common.{◌≡◌, ℕ, ◌<◌, ◌≤◌, false, ltb, List, ◌++◌, length, take, drop, Ok, Err, sym, refl, ap, ◌∙◌, arith}
use Rattle.std.proofs.lemmas.List.{take_at}
use Rattle.std.proofs.lemmas.Bool.{cond-true, cond-false, lt-ltb, le-ltb}
use Rattle.synopsis.specs.declared.fault.EncodeFault.TheVariants.{Room}
use Rattle.synopsis.specs.Kind.{Kind, Laws, overlong, fitted, over, encode_answer, encode_after}

pub fitted_not : (frame : List ℕ) (room : ℕ) → room < length frame → Err Room ≡ fitted frame room
fitted_not frame room lt = sym (cond-true (ltb room (length frame)) (Err Room) (Ok (length frame)) (lt-ltb room (length frame) lt))

pub over_not : (frame bytes : List ℕ) → length bytes < length frame → bytes ≡ over frame bytes
over_not frame bytes lt = sym (cond-true (ltb (length bytes) (length frame)) bytes (frame ++ drop (length frame) bytes) (lt-ltb (length bytes) (length frame) lt))

pub fitted_so : (frame : List ℕ) (room : ℕ) → length frame ≤ room → Ok (length frame) ≡ fitted frame room
fitted_so frame room le = sym (cond-false (ltb room (length frame)) (Err Room) (Ok (length frame)) (le-ltb room (length frame) le))

pub over_so : (frame bytes : List ℕ) → length frame ≤ length bytes → frame ++ drop (length frame) bytes ≡ over frame bytes
over_so frame bytes le = sym (cond-false (ltb (length bytes) (length frame)) bytes (frame ++ drop (length frame) bytes) (le-ltb (length bytes) (length frame) le))

-- where there is room for the longest frame, each is written
module _ (k : Kind) (laws : Laws k) (fits : overlong k ≡ false) (x : k.Form) (bytes : List ℕ) (room : k.greatest ≤ length bytes) where
  enough : length (k.encoding x) ≤ length bytes
  enough = let m = laws.most fits x in omega arith

  pub encode_ok : encode_answer k x (length bytes) ≡ Ok (length (k.encoding x))
  encode_ok = cond-false (overlong k) _ _ fits ∙ sym (fitted_so (k.encoding x) (length bytes) enough)

  pub encode_over : encode_after k x bytes ≡ k.encoding x ++ drop (length (k.encoding x)) bytes
  encode_over = cond-false (overlong k) _ _ fits ∙ sym (over_so (k.encoding x) bytes enough)

  pub encode_front : take (length (k.encoding x)) (encode_after k x bytes) ≡ k.encoding x
  encode_front = ap (take (length (k.encoding x))) encode_over ∙ take_at (k.encoding x) (drop (length (k.encoding x)) bytes) (length (k.encoding x)) refl
