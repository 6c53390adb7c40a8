-- The laws of lines.
use Rattle.std.proofs.Common.{◌≡◌, ◌≢◌, ℕ, ◌==◌, ◌<◌, Bool, true, false, cond, ◌⊎◌, inl, inr, List, [], ◌∷◌, ◌++◌, length, refl, sym, ap, subst, ◌∙◌, arith}
use Rattle.std.specs.List.{onto_first, All, join_with_byte}
use Rattle.std.proofs.lemmas.Bool.{cond-false, eqb-true, ne_eqb}
use Rattle.std.proofs.lemmas.List.Elements.{All-nil, All-cons, All-head, All-tail}
use Rattle.script.specs.Lines.{lines}
use Rattle.script.specs.Laws.{IsLine, written, LineLaws}

-- one byte more before the first of some lines
onto_whole : (b : ℕ) (ls : List (List ℕ)) → b ≢ 10 → All IsLine ls → All IsLine (onto_first b ls)
onto_whole b [] other h = All-cons IsLine (b ∷ []) [] (All-cons (λ c. c ≢ 10) b [] other (All-nil (λ c. c ≢ 10))) (All-nil IsLine)
onto_whole b (line ∷ others) other h = All-cons IsLine (b ∷ line) others (All-cons (λ c. c ≢ 10) b line other (All-head IsLine line others h)) (All-tail IsLine line others h)

other_byte : (b : ℕ) → (b == 10) ≡ false → b ≢ 10
other_byte b f e = grind arith

add_whole : (b : ℕ) (ls : List (List ℕ)) (test : Bool) → (b == 10) ≡ test → All IsLine ls → All IsLine (cond test ([] ∷ ls) (onto_first b ls))
add_whole b ls true t h = All-cons IsLine [] ls (All-nil (λ c. c ≢ 10)) h
add_whole b ls false f h = onto_whole b ls (other_byte b f) h

lines-whole : (input : List ℕ) → All IsLine (lines input)
lines-whole [] = All-nil IsLine
lines-whole (b ∷ rest) = add_whole b (lines rest) (b == 10) refl (lines-whole rest)

-- some lines, joined by byte 10, are these bytes but for a last byte 10
abbrev Back : List (List ℕ) → List ℕ → Type 0
Back [] input = input ≡ []
Back (line ∷ others) input = (join_with_byte 10 (line ∷ others) ≡ input) ⊎ (join_with_byte 10 (line ∷ others) ++ 10 ∷ [] ≡ input)

onto_back : (b : ℕ) (ls : List (List ℕ)) (input : List ℕ) → Back ls input → Back (onto_first b ls) (b ∷ input)
onto_back b [] input e = inl (ap (λ (l : List ℕ). b ∷ l) (sym e))
onto_back b (line ∷ []) input (inl e) = inl (ap (λ (l : List ℕ). b ∷ l) e)
onto_back b (line ∷ []) input (inr e) = inr (ap (λ (l : List ℕ). b ∷ l) e)
onto_back b (line ∷ other ∷ others) input (inl e) = inl (ap (λ (l : List ℕ). b ∷ l) e)
onto_back b (line ∷ other ∷ others) input (inr e) = inr (ap (λ (l : List ℕ). b ∷ l) e)

end_back : (ls : List (List ℕ)) (input : List ℕ) → Back ls input → Back ([] ∷ ls) (10 ∷ input)
end_back [] input e = inr (ap (λ (l : List ℕ). 10 ∷ l) (sym e))
end_back (line ∷ others) input (inl e) = inl (ap (λ (l : List ℕ). 10 ∷ l) e)
end_back (line ∷ others) input (inr e) = inr (ap (λ (l : List ℕ). 10 ∷ l) e)

add_back : (b : ℕ) (ls : List (List ℕ)) (input : List ℕ) (test : Bool) → (b == 10) ≡ test → Back ls input → Back (cond test ([] ∷ ls) (onto_first b ls)) (b ∷ input)
add_back b ls input true t h = subst (λ (c : ℕ). Back ([] ∷ ls) (c ∷ input)) (sym (eqb-true b 10 t)) (end_back ls input h)
add_back b ls input false f h = onto_back b ls input h

lines-back : (input : List ℕ) → Back (lines input) input
lines-back [] = refl
lines-back (b ∷ rest) = add_back b (lines rest) rest (b == 10) refl (lines-back rest)

back_joined : (ls : List (List ℕ)) (input : List ℕ) → Back ls input → (join_with_byte 10 ls ≡ input) ⊎ (join_with_byte 10 ls ++ 10 ∷ [] ≡ input)
back_joined [] input e = inl (sym e)
back_joined (line ∷ others) input h = h

-- a line that a byte 10 ends
line_read : (line more : List ℕ) → IsLine line → lines (line ++ 10 ∷ more) ≡ line ∷ lines more
line_read [] more h = refl
line_read (b ∷ line) more h =
    cond-false (b == 10) _ _ (ne_eqb b 10 (All-head (λ c. c ≢ 10) b line h))
    ∙ ap (onto_first b) (line_read line more (All-tail (λ c. c ≢ 10) b line h))

lines-written : (ls : List (List ℕ)) → All IsLine ls → lines (written ls) ≡ ls
lines-written [] h = refl
lines-written (line ∷ others) h =
    line_read line (written others) (All-head IsLine line others h)
    ∙ ap (λ (l : List (List ℕ)). line ∷ l) (lines-written others (All-tail IsLine line others h))

-- bytes have some line
onto_some : (b : ℕ) (ls more : List (List ℕ)) → 0 < length ls → onto_first b (ls ++ more) ≡ onto_first b ls ++ more
onto_some b [] more lt = absurd (omega arith)
onto_some b (line ∷ others) more lt = refl

some_onto : (b : ℕ) (ls : List (List ℕ)) → 0 < length (onto_first b ls)
some_onto b [] = omega arith
some_onto b (line ∷ others) = omega arith

some_lines : (b : ℕ) (ls : List (List ℕ)) (test : Bool) → 0 < length (cond test ([] ∷ ls) (onto_first b ls))
some_lines b ls true = omega arith
some_lines b ls false = some_onto b ls

ended_some : (front : List ℕ) → 0 < length (lines (front ++ 10 ∷ []))
ended_some [] = omega arith
ended_some (b ∷ front) = some_lines b (lines (front ++ 10 ∷ [])) (b == 10)

add_appended : (b : ℕ) (before all more : List (List ℕ)) (test : Bool) → 0 < length before → all ≡ before ++ more → cond test ([] ∷ all) (onto_first b all) ≡ cond test ([] ∷ before) (onto_first b before) ++ more
add_appended b before all more true lt e = ap (λ (l : List (List ℕ)). [] ∷ l) e
add_appended b before all more false lt e = ap (onto_first b) e ∙ onto_some b before more lt

lines-append : (front more : List ℕ) → lines (front ++ 10 ∷ more) ≡ lines (front ++ 10 ∷ []) ++ lines more
lines-append [] more = refl
lines-append (b ∷ front) more =
    add_appended b (lines (front ++ 10 ∷ [])) (lines (front ++ 10 ∷ more)) (lines more) (b == 10) (ended_some front) (lines-append front more)

pub line_laws : LineLaws
line_laws = record {
  whole = lines-whole;
  joined = λ input. back_joined (lines input) input (lines-back input);
  read_back = lines-written;
  appended = lines-append;
}
