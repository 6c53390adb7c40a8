-- A header reads back as itself, and its faults lie within the bytes.
use Rattle.std.proofs.Common.{◌≡◌, ℕ, ◌+◌, ◌*◌, ◌/◌, ◌%◌, ◌^◌, ◌<◌, ◌≤◌, false, ◌||◌, eqb, ltb, List, [], ◌∷◌, ◌++◌, length, get_or, drop, Ok, Result, refl, ap, ◌∙◌, arith, MatchResult}
use Rattle.std.proofs.lemmas.Bool.{cond_both, cond-true, cond-false, le-ltb, ltb-false, eq-eqb, eqb-true, or_from, or_parts}
use Rattle.synopsis.specs.declared.fault.DecodeFault.{DecodeFault}
use Rattle.frames.specs.declared.header.Header.{Header}
use Rattle.frames.specs.Headers.{header_bytes, opened}

pub opened_header : (kind fewest most count end : ℕ) (rest : List ℕ) → fewest ≤ count → count ≤ most → opened kind fewest most (header_bytes kind count end ++ rest) ≡ Ok (record { count = count; end = end })
opened_header kind fewest most count end rest lo hi =
    let long : ltb (length (header_bytes kind count end ++ rest)) 4 ≡ false = le-ltb (length (header_bytes kind count end ++ rest)) 4 (omega arith) in
    let counted : (ltb count fewest || ltb most count) ≡ false = or_from (ltb count fewest) (ltb most count) (le-ltb count fewest lo) (le-ltb most count hi) in
    let ended : end / 256 ^ 1 * 256 + end / 256 ^ 0 % 256 ≡ end = omega arith in
    cond-false _ _ _ long ∙ cond-true _ _ _ (eq-eqb kind kind refl) ∙ cond-false _ _ _ counted ∙ ap (λ (e : ℕ). Ok (record { count = count; end = e })) ended

-- what a header that is read tells of the bytes
pub record Read (kind fewest most : ℕ) (bytes : List ℕ) (h : Header) : Type 0 where
  pub long : 4 ≤ length bytes
  pub kind_is : get_or bytes 0 0 ≡ kind
  pub count_is : h.count ≡ get_or bytes 1 0
  pub end_is : h.end ≡ get_or bytes 2 0 * 256 + get_or bytes 3 0
  pub enough : fewest ≤ h.count
  pub within : h.count ≤ most

-- and a fault of it lies within them, and is the kind's own
abbrev pub Opens : (kind fewest most : ℕ) (bytes : List ℕ) → Result Header DecodeFault → Type 0
Opens kind fewest most bytes r = MatchResult r (Read kind fewest most bytes) (λ e. (e.place ≤ length bytes) × (e.kind ≡ kind))

pub opened_tells : (kind fewest most : ℕ) (bytes : List ℕ) → Opens kind fewest most bytes (opened kind fewest most bytes)
opened_tells kind fewest most bytes =
    let P = Opens kind fewest most bytes in
    cond_both (ltb (length bytes) 4) _ _ P
    (λ e. (omega arith, refl))
    (λ e. let long : 4 ≤ length bytes = ltb-false (length bytes) 4 e in
    cond_both (eqb (get_or bytes 0 0) kind) _ _ P
    (λ f. cond_both (ltb (get_or bytes 1 0) fewest || ltb most (get_or bytes 1 0)) _ _ P
    (λ g. (omega arith, refl))
    (λ g. let parts = or_parts (ltb (get_or bytes 1 0) fewest) (ltb most (get_or bytes 1 0)) g in
    record {
      long = long;
      kind_is = eqb-true (get_or bytes 0 0) kind f;
      count_is = refl;
      end_is = refl;
      enough = ltb-false (get_or bytes 1 0) fewest parts.0;
      within = ltb-false most (get_or bytes 1 0) parts.1;
    }))
    (λ f. (omega arith, refl)))

-- bytes are their header and the rest
pub header_back : (kind fewest most : ℕ) (bytes : List ℕ) (h : Header) → Read kind fewest most bytes h → get_or bytes 3 0 < 256 → header_bytes kind h.count h.end ++ drop 4 bytes ≡ bytes
header_back kind fewest most [] h r lt = let long : 4 ≤ 0 = r.long in absurd (omega arith)
header_back kind fewest most (a ∷ []) h r lt = let long : 4 ≤ 1 = r.long in absurd (omega arith)
header_back kind fewest most (a ∷ b ∷ []) h r lt = let long : 4 ≤ 2 = r.long in absurd (omega arith)
header_back kind fewest most (a ∷ b ∷ d ∷ []) h r lt = let long : 4 ≤ 3 = r.long in absurd (omega arith)
header_back kind fewest most (a ∷ b ∷ d ∷ e ∷ rest) h r lt =
    let k : a ≡ kind = r.kind_is in
    let n : h.count ≡ b = r.count_is in
    let m : h.end ≡ d * 256 + e = r.end_is in
    let high : h.end / 256 ^ 1 ≡ d = omega arith in
    let low : h.end / 256 ^ 0 % 256 ≡ e = omega arith in
    cc
