-- What went into a writer, step by step.
use Rattle.std.proofs.Common.{ℕ, List, [], ◌++◌, length, take, drop, length-drop, ◌+◌, ◌-◌, arith, Ok, Err, Result, IsErr, Option, refl, sym, ap, subst, ◌∙◌, append_assoc}
use Rattle.std.proofs.lemmas.List.{take-append-drop, take_all, drop-drop}
use Rattle.std.proofs.lemmas.Bool.{false≢true}
use Rattle.std.specs.Io.KnownBytes.{Appends}
use Rattle.std.proofs.KnownBytes.{Appends-nil, Appends-trans}
use Rattle.session.specs.Writing.{Written, WroteAllBut}

-- nothing yet
pub nothing_yet : (o : Option (List ℕ)) (all : List ℕ) → Written o o all all
nothing_yet o all = record { bytes = []; appended = Appends-nil o; whole = refl }

-- of what was left, the first part was written, all but some of it
pub part_more : (a b c : Option (List ℕ)) (next rest left all : List ℕ) → Written a b (next ++ left) all → Written b c rest next → Written a c (rest ++ left) all
part_more a b c next rest left all p q = record {
  bytes = p.bytes ++ q.bytes;
  appended = Appends-trans a b c p.bytes q.bytes p.appended q.appended;
  whole = append_assoc p.bytes q.bytes (rest ++ left) ∙ ap (λ (l : List ℕ). p.bytes ++ l) (sym (append_assoc q.bytes rest left) ∙ ap (λ (l : List ℕ). l ++ left) q.whole) ∙ p.whole;
}

-- of what was left, all but some was written
pub more_of : (a b c : Option (List ℕ)) (left rest all : List ℕ) → Written a b left all → Written b c rest left → Written a c rest all
more_of a b c left rest all p q = record {
  bytes = p.bytes ++ q.bytes;
  appended = Appends-trans a b c p.bytes q.bytes p.appended q.appended;
  whole = append_assoc p.bytes q.bytes rest ∙ ap (λ (l : List ℕ). p.bytes ++ l) q.whole ∙ p.whole;
}

-- one write more of some bytes
pub written_more : (a b c : Option (List ℕ)) (n at : ℕ) (all : List ℕ) → Written a b (drop at all) all → Appends b c (take n (take (length all - at) (drop at all))) → Written a c (drop (at + n) all) all
written_more a b c n at all p q = record {
  bytes = p.bytes ++ take n (drop at all);
  appended = Appends-trans a b c p.bytes (take n (drop at all)) p.appended (subst (λ (l : List ℕ). Appends b c (take n l)) (take_all (length all - at) (drop at all) (omega (arith, length-drop at all))) q);
  whole =
      ap (λ (l : List ℕ). (p.bytes ++ take n (drop at all)) ++ l) (sym (drop-drop n at all))
      ∙ append_assoc p.bytes (take n (drop at all)) (drop n (drop at all)) ∙ ap (λ (l : List ℕ). p.bytes ++ l) (take-append-drop n (drop at all)) ∙ p.whole;
}

-- after an error a front part is there
pub after_error : {A E : Type 0} (r : Result A E) (a b : Option (List ℕ)) (by_answer : A → List ℕ) (left all : List ℕ) → IsErr r → Written a b left all → WroteAllBut r a b by_answer all
after_error (Ok x) a b by_answer left all e p = absurd (false≢true e)
after_error (Err x) a b by_answer left all e p = (left, p)
