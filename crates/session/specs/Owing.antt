-- What the lines of a script are owed on an open network, by the history of the accepted lines before them.
use Rattle.std.specs.Prelude.{ℕ, cond, List, [], ◌∷◌, None, Some, Option, Ok, Err, Result, nat_le, is_some}
use Rattle.synopsis.specs.Kind.{Kind}
use Rattle.histories.specs.declared.Call.{Call}
use Rattle.histories.specs.declared.Turn.{Turn}
use Rattle.histories.specs.Deeds.{deed_of, History}
use Rattle.histories.specs.Folds.{node_form}
use Rattle.network.specs.Tables.{most_nodes, memory_bytes}
use Rattle.network.specs.Calls.{open_answer}
use Rattle.diffusion.specs.Turns.{Told, bytes, refused, is_accepted, plainly}
use Rattle.diffusion.specs.Owed.{owes, refused_if}
use Rattle.script.specs.declared.fault.LineFault.{LineFault}
use Rattle.script.specs.declared.ask.Stage.TheVariants as stage
use Rattle.script.specs.declared.ask.Ask.{Ask}
use Rattle.script.specs.declared.ask.Ask.TheVariants as ask
use Rattle.script.specs.Faults.{line_number}
use Rattle.script.specs.Asking.{asked}

-- a turn that is lent as many values and bytes as any network asks for
abbrev pub whole : Call → Turn
whole c = record { values = most_nodes; bytes = memory_bytes; call = c }

-- what OPEN of so many nodes tells
abbrev pub opens : Kind → ℕ → Told
opens k nodes = plainly (open_answer k nodes most_nodes memory_bytes)

-- why a line asks for nothing
abbrev pub line_refusal : LineFault → Told
line_refusal e = refused (line_number e) None

-- A page is made of an encoding, in the kinds that have one.
abbrev pub Page : Type 0
Page = Option (List ℕ → List ℕ)

-- what a line is told that asks for the page of a node, by the forms that the nodes have
abbrev pub usage_tells : (k : Kind) → Page → (nodes : ℕ) → (ℕ → k.Form) → ℕ → Told
usage_tells k None nodes forms n = refused 24 None
usage_tells k (Some page_of) nodes forms n = refused_if (nat_le nodes n) 4 (bytes (page_of (k.encoding (forms n))))

-- On an open network of so many nodes, after a history of accepted lines
module _ (k : Kind) (page : Page) (nodes : ℕ) where
  -- what a line is owed that asks for this, or for nothing
  abbrev pub open_owes : History → Result Ask LineFault → Told
  open_owes h (Err e) = line_refusal e
  open_owes h (Ok (ask.Open kind n)) = refused 23 None
  open_owes h (Ok (ask.Call c)) = owes k nodes h (whole c)
  open_owes h (Ok (ask.Usage n)) = usage_tells k page nodes (node_form k h) n

  -- the history after it: an accepted call alone has a part in it
  abbrev pub open_leaves : History → Result Ask LineFault → History
  open_leaves h (Ok (ask.Call c)) = cond (is_accepted (owes k nodes h (whole c))) (deed_of c ∷ h) h
  open_leaves h _ = h

  -- what lines are owed in turn
  abbrev pub open_answers : History → List (List ℕ) → List Told
  open_answers h [] = []
  open_answers h (line ∷ more) = open_owes h (asked (stage.Open (is_some page)) line) ∷ open_answers (open_leaves h (asked (stage.Open (is_some page)) line)) more
