-- How far a script is, by the lines that were accepted, and what a line is owed there.
use Rattle.std.specs.Prelude.{ℕ, cond, List, [], ◌∷◌, None, Some, Ok, Err, Result, is_some}
use Rattle.synopsis.specs.Kind.{Kind}
use Rattle.bitmaps.specs.Bitmaps.{bitmaps_kind}
use Rattle.least.specs.Least.{least_kind}
use Rattle.sample.specs.Sample.{sample_kind}
use Rattle.usage.specs.Pages.{pile_kind, page_by}
use Rattle.histories.specs.Deeds.{History}
use Rattle.diffusion.specs.Turns.{Told, refused, is_accepted}
use Rattle.script.specs.declared.fault.LineFault.{LineFault}
use Rattle.script.specs.declared.ask.KindLetter.{KindLetter}
use Rattle.script.specs.declared.ask.KindLetter.TheVariants as letter
use Rattle.script.specs.declared.ask.Stage.{Stage}
use Rattle.script.specs.declared.ask.Stage.TheVariants as stage
use Rattle.script.specs.declared.ask.Ask.{Ask}
use Rattle.script.specs.declared.ask.Ask.TheVariants as ask
use Rattle.script.specs.Asking.{asked}
use Rattle.session.specs.Owing.{Page, opens, line_refusal, open_owes, open_leaves}

-- the kinds that a script may open, and the pages of those that have one
abbrev pub kind_of_letter : KindLetter → Kind
kind_of_letter letter.Bitmaps = bitmaps_kind
kind_of_letter letter.LeastValues = least_kind
kind_of_letter letter.Sample = sample_kind
kind_of_letter letter.Pile = pile_kind

abbrev pub page_of_letter : KindLetter → Page
page_of_letter letter.Bitmaps = None
page_of_letter letter.LeastValues = None
page_of_letter letter.Sample = None
page_of_letter letter.Pile = Some page_by

-- nothing is open, or a network of a kind with so many nodes, with the history of the accepted lines since
pub data Standing : Type 0 where
  closed : Standing
  opened : KindLetter → (nodes : ℕ) → History → Standing

abbrev pub stage_of : Standing → Stage
stage_of closed = stage.Closed
stage_of (opened l nodes h) = stage.Open (is_some (page_of_letter l))

-- what a line is owed that asks for this, and where a script stands after it
abbrev pub ask_owes : Standing → Result Ask LineFault → Told
ask_owes (opened l nodes h) a = open_owes (kind_of_letter l) (page_of_letter l) nodes h a
ask_owes closed (Err e) = line_refusal e
ask_owes closed (Ok (ask.Open l n)) = opens (kind_of_letter l) n
ask_owes closed (Ok _) = refused 23 None

abbrev pub ask_leaves : Standing → Result Ask LineFault → Standing
ask_leaves (opened l nodes h) a = opened l nodes (open_leaves (kind_of_letter l) (page_of_letter l) nodes h a)
ask_leaves closed (Ok (ask.Open l n)) = cond (is_accepted (opens (kind_of_letter l) n)) (opened l n []) closed
ask_leaves closed _ = closed

-- the same of the line itself
abbrev pub line_owes : Standing → List ℕ → Told
line_owes st line = ask_owes st (asked (stage_of st) line)

abbrev pub line_leaves : Standing → List ℕ → Standing
line_leaves st line = ask_leaves st (asked (stage_of st) line)

-- what lines are owed in turn, and where a script stands after them
abbrev pub answers : Standing → List (List ℕ) → List Told
answers st [] = []
answers st (line ∷ more) = line_owes st line ∷ answers (line_leaves st line) more

abbrev pub stands : Standing → List (List ℕ) → Standing
stands st [] = st
stands st (line ∷ more) = stands (line_leaves st line) more
