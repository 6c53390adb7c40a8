-- What an OPEN writes first, and the session that begins where it is accepted.
use Rattle.std.proofs.Common.{◌≡◌, ℕ, ◌+◌, Bool, true, List, [], ◌∷◌, ◌++◌, cond, Option, Ok, Result, length, refl, sym, ap, subst, ◌∙◌}
use Rattle.synopsis.specs.Kind.{Kind}
use Rattle.network.specs.declared.fault.NetworkFault.{NetworkFault}
use Rattle.network.specs.Tables.{Table}
use Rattle.network.specs.Calls.{open_answer, opened_network, Emptied}
use Rattle.diffusion.specs.Turns.{Told, plainly, is_accepted}
use Rattle.diffusion.specs.Runs.{rack, begun}
use Rattle.session.specs.Printed.{line_text, printed_from}
use Rattle.session.specs.Sessions.{After}
use Rattle.session.specs.Owing.{Page, opens, open_answers}
use Rattle.session.specs.Standing.{answers, closed}
use Rattle.session.specs.Writing.{Written}
use Rattle.session.proofs.Written.{nothing_yet, part_more, more_of}

-- what an OPEN on 16 values and 65,536 bytes tells
pub told_by_open : (k : Kind) (nodes values bytes : ℕ) (r : Result (Unit {0}) NetworkFault) → values ≡ 16 → bytes ≡ 65536 → r ≡ open_answer k nodes values bytes → plainly r ≡ opens k nodes
told_by_open k nodes values bytes r e f q =
    ap plainly q ∙ ap (λ (v : ℕ). plainly (open_answer k nodes v bytes)) e ∙ ap (λ (m : ℕ). plainly (open_answer k nodes 16 m)) f

pub opened_session : {S : Type 0} (k : Kind) (form : S → k.Form) (nodes : ℕ) (net : Table) (before after : List S) (memory : List ℕ) → Ok tt ≡ open_answer k nodes (length before) (length memory) → net ≡ opened_network nodes → Emptied form k.none before after nodes → After k form nodes [] (rack net after memory)
opened_session k form nodes net before after memory q table e = record {
  values = before;
  memory = memory;
  first = rack net after memory;
  opened = record { accepted = sym q; table = table; empty = e; same = refl };
  turns = [];
  told = [];
  ran = begun;
}

module _ (k : Kind) (page : Page) (nodes number : ℕ) (left : List (List ℕ)) (a : Option (List ℕ)) where
  -- after the line's answer those on the open network, or those where nothing is open
  abbrev pub rest : Told → List Told
  rest w = cond (is_accepted w) (open_answers k page nodes [] left) (answers closed left)

  abbrev pub all : List ℕ
  all = printed_from number (opens k nodes ∷ rest (opens k nodes))

  pub first_said : (b : Option (List ℕ)) (w : Told) (part : List ℕ) → w ≡ opens k nodes → Written a b part (line_text number w) → Written a b (part ++ printed_from (number + 1) (rest w)) all
  first_said b w part e s =
      part_more a a b (line_text number w) part (printed_from (number + 1) (rest w)) all
      (subst (λ (x : Told). Written a a (line_text number x ++ printed_from (number + 1) (rest x)) all) (sym e) (nothing_yet a all)) s

  -- and the lines that are served after it
  pub line_and_more : (b c : Option (List ℕ)) (w : Told) (part : List ℕ) → w ≡ opens k nodes → is_accepted w ≡ true → Written a b [] (line_text number w) → Written b c part (printed_from (number + 1) (open_answers k page nodes [] left)) → Written a c part all
  line_and_more b c w part e t s more =
      more_of a b c (printed_from (number + 1) (open_answers k page nodes [] left)) part all
      (subst (λ (x : Bool). Written a b (printed_from (number + 1) (cond x (open_answers k page nodes [] left) (answers closed left))) all) t (first_said b w [] e s)) more
