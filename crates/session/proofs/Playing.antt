-- The lines so far are written, and those that are left complete the output.
use Rattle.std.proofs.Common.{◌≡◌, ℕ, ◌+◌, Bool, true, false, List, [], ◌∷◌, ◌++◌, cond, Option, Ok, Result, IsErr, refl, sym, ap, subst}
use Rattle.std.specs.Prelude.{is_some}
use Rattle.synopsis.specs.Kind.{Kind}
use Rattle.histories.specs.Deeds.{History}
use Rattle.diffusion.specs.Turns.{Told, is_accepted}
use Rattle.diffusion.specs.Runs.{Rack}
use Rattle.script.specs.declared.ask.KindLetter.{KindLetter}
use Rattle.script.specs.declared.fault.LineFault.{LineFault}
use Rattle.script.specs.declared.ask.Stage.TheVariants.{Open, Closed}
use Rattle.script.specs.declared.ask.Ask.{Ask}
use Rattle.script.specs.declared.ask.Ask.TheVariants as ask
use Rattle.script.specs.Asking.{asked}
use Rattle.session.specs.Printed.{line_text, printed_from}
use Rattle.session.specs.Sessions.{After}
use Rattle.session.specs.Owing.{Page, opens, open_owes, open_leaves, open_answers}
use Rattle.session.specs.Standing.{kind_of_letter, page_of_letter, opened, closed, ask_owes, ask_leaves, answers}
use Rattle.session.specs.Writing.{Written, Wrote, WroteAllBut}
use Rattle.session.proofs.Written.{part_more, more_of, after_error}

-- the answers on an open network of a letter's kind
pub answers_open : (l : KindLetter) (nodes : ℕ) (h : History) (ls : List (List ℕ)) → answers (opened l nodes h) ls ≡ open_answers (kind_of_letter l) (page_of_letter l) nodes h ls
answers_open l nodes h [] = refl
answers_open l nodes h (line ∷ more) =
    let a = asked (Open (is_some (page_of_letter l))) line in
    ap (λ (ws : List Told). open_owes (kind_of_letter l) (page_of_letter l) nodes h a ∷ ws) (answers_open l nodes (open_leaves (kind_of_letter l) (page_of_letter l) nodes h a) more)

module _ {S : Type 0} (k : Kind) (form : S → k.Form) (page : Page) (nodes first : ℕ) (all : List (List ℕ)) (old : Option (List ℕ)) where
  pub record Playing (r : Rack S) (number : ℕ) (now : Option (List ℕ)) (left : List (List ℕ)) : Type 0 where
    pub history : History
    pub session : After k form nodes history r
    pub written : Written old now (printed_from number (open_answers k page nodes history left)) (printed_from first (open_answers k page nodes [] all))

  -- one line more was written, or a front part of it
  next : (now later : Option (List ℕ)) (number : ℕ) (h : History) (line part : List ℕ) (rest left : List (List ℕ)) → left ≡ line ∷ rest
      → Written old now (printed_from number (open_answers k page nodes h left)) (printed_from first (open_answers k page nodes [] all))
      → Written now later part (line_text number (open_owes k page nodes h (asked (Open (is_some page)) line)))
      → Written old later (part ++ printed_from (number + 1) (open_answers k page nodes (open_leaves k page nodes h (asked (Open (is_some page)) line)) rest)) (printed_from first (open_answers k page nodes [] all))
  next now later number h line part rest left e p w =
      let a = asked (Open (is_some page)) line in
      part_more old now later (line_text number (open_owes k page nodes h a)) part (printed_from (number + 1) (open_answers k page nodes (open_leaves k page nodes h a) rest)) (printed_from first (open_answers k page nodes [] all))
      (subst (λ (l : List (List ℕ)). Written old now (printed_from number (open_answers k page nodes h l)) (printed_from first (open_answers k page nodes [] all))) e p)
      w

  pub played : (r after : Rack S) (number : ℕ) (now later : Option (List ℕ)) (line : List ℕ) (rest left : List (List ℕ)) → left ≡ line ∷ rest → (p : Playing r number now left)
      → After k form nodes (open_leaves k page nodes p.history (asked (Open (is_some page)) line)) after
      → Written now later [] (line_text number (open_owes k page nodes p.history (asked (Open (is_some page)) line))) → Playing after (number + 1) later rest
  played r after number now later line rest left e p s w = record {
    history = open_leaves k page nodes p.history (asked (Open (is_some page)) line);
    session = s;
    written = next now later number p.history line [] rest left e p.written w;
  }

  pub broken : {E : Type 0} (x : Result (Unit {0}) E) (r : Rack S) (number : ℕ) (now later : Option (List ℕ)) (line : List ℕ) (rest left : List (List ℕ)) → IsErr x → left ≡ line ∷ rest → (p : Playing r number now left)
      → (part : List ℕ) × Written now later part (line_text number (open_owes k page nodes p.history (asked (Open (is_some page)) line))) → Wrote x old later (printed_from first (open_answers k page nodes [] all))
  broken x r number now later line rest left err e p w = after_error x old later _ _ _ err (next now later number p.history line w.0 rest left e p.written w.1)

  -- where no line is left, all is written
  pub finished : (r : Rack S) (number : ℕ) (now : Option (List ℕ)) (left : List (List ℕ)) → left ≡ [] → Playing r number now left → Written old now [] (printed_from first (open_answers k page nodes [] all))
  finished r number now left e p = subst (λ (l : List (List ℕ)). Written old now (printed_from number (open_answers k page nodes p.history l)) (printed_from first (open_answers k page nodes [] all))) e p.written

-- Where nothing is open

-- the answers after an OPEN, by whether it was accepted
by_opening : (l : KindLetter) (n : ℕ) (ls : List (List ℕ)) (b : Bool) → answers (cond b (opened l n []) closed) ls ≡ cond b (open_answers (kind_of_letter l) (page_of_letter l) n [] ls) (answers closed ls)
by_opening l n ls true = answers_open l n [] ls
by_opening l n ls false = refl

-- what an opening OPEN is followed by
pub opening_on : {E : Type 0} (x : Result Bool E) (a b : Option (List ℕ)) (left : Bool → List ℕ) (number : ℕ) (l : KindLetter) (n : ℕ) (ls : List (List ℕ))
    → WroteAllBut x a b left (printed_from number (opens (kind_of_letter l) n ∷ cond (is_accepted (opens (kind_of_letter l) n)) (open_answers (kind_of_letter l) (page_of_letter l) n [] ls) (answers closed ls)))
    → WroteAllBut x a b left (printed_from number (ask_owes closed (Ok (ask.Open l n)) ∷ answers (ask_leaves closed (Ok (ask.Open l n))) ls))
opening_on x a b left number l n ls w =
    subst (λ (ws : List Told). WroteAllBut x a b left (printed_from number (opens (kind_of_letter l) n ∷ ws))) (sym (by_opening l n ls (is_accepted (opens (kind_of_letter l) n)))) w

-- a line is answered as what it asks for
pub line_served : {E : Type 0} (x : Result Bool E) (a b : Option (List ℕ)) (left : Bool → List ℕ) (number : ℕ) (line : List ℕ) (ls : List (List ℕ)) (r : Result Ask LineFault) → r ≡ asked Closed line
    → WroteAllBut x a b left (printed_from number (ask_owes closed r ∷ answers (ask_leaves closed r) ls)) → WroteAllBut x a b left (printed_from number (answers closed (line ∷ ls)))
line_served x a b left number line ls r e w = subst (λ (q : Result Ask LineFault). WroteAllBut x a b left (printed_from number (ask_owes closed q ∷ answers (ask_leaves closed q) ls))) e w

module _ (a b c : Option (List ℕ)) (number : ℕ) (line : List ℕ) (rest left : List (List ℕ)) (all : List ℕ) where
  pub line_on : (part : List ℕ) → rest ≡ line ∷ left → Written a b (printed_from number (answers closed rest)) all → Written b c part (printed_from number (answers closed (line ∷ left))) → Written a c part all
  line_on part e p q = more_of a b c (printed_from number (answers closed (line ∷ left))) part all (subst (λ (l : List (List ℕ)). Written a b (printed_from number (answers closed l)) all) e p) q

  -- by whether the line opened a network and the rest was served
  pub went_on : (went w : Bool) → went ≡ w → rest ≡ line ∷ left → Written a b (printed_from number (answers closed rest)) all → Written b c (printed_from (number + 1) (cond went [] (answers closed left))) (printed_from number (answers closed (line ∷ left))) → Written a c (printed_from (number + 1) (cond w [] (answers closed left))) all
  went_on went w t e p q = subst (λ (x : Bool). Written a c (printed_from (number + 1) (cond x [] (answers closed left))) all) t (line_on (printed_from (number + 1) (cond went [] (answers closed left))) e p q)
