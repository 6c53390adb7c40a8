-- What holds of all scripts.
use Rattle.std.specs.Prelude.{◌≡◌, ℕ, ◌≤◌, true, false, List, ◌∷◌, ◌++◌, length, take, Some, Ok, slice_index_or}
use Rattle.std.specs.List.{remove}
use Rattle.histories.specs.declared.Call.TheVariants.{Read}
use Rattle.histories.specs.Deeds.{Contribution, History}
use Rattle.synopsis.specs.Kind.{Kind}
use Rattle.histories.specs.Paths.{Reaches, Filled}
use Rattle.histories.specs.Search.{reaches, filled}
use Rattle.histories.specs.Folds.{node_form, Came, IsFold, Arranged}
use Rattle.diffusion.specs.Turns.{Told, done, bytes, is_accepted}
use Rattle.script.specs.declared.ask.KindLetter.{KindLetter}
use Rattle.script.specs.declared.ask.Ask.TheVariants as ask
use Rattle.script.specs.Lines.{lines}
use Rattle.script.specs.Asking.{asked}
use Rattle.session.specs.Standing.{Standing, closed, opened, kind_of_letter, page_of_letter, stage_of, line_owes, answers, stands}
use Rattle.session.specs.Printed.{longest_input, printed_from, printed}

-- the answers to a script
abbrev pub owed : List (List ℕ) → List Told
owed script = answers closed script

-- where a script stands after these lines, line r of a node gives these bytes
abbrev pub ReadGives : Standing → ℕ → List ℕ → Type 0
ReadGives st n bs = (line : List ℕ) × (room : ℕ) × (asked (stage_of st) line ≡ Ok (ask.Call (Read n room))) × (line_owes st line ≡ bytes bs)

-- and a line that asks for the page of a node gives these
abbrev pub PageGives : Standing → ℕ → List ℕ → Type 0
PageGives st n bs = (line : List ℕ) × (asked (stage_of st) line ≡ Ok (ask.Usage n)) × (line_owes st line ≡ bytes bs)

-- What lines are owed is computed by a search; what that is by paths, on an open network with the history of the accepted lines
pub record PathLaws (k : Kind) (l : KindLetter) (nodes : ℕ) (h : History) : Type 0 where
  -- the search finds exactly the delivered paths
  pub found : (n t : ℕ) → reaches h n t ≡ true → Reaches h t n
  pub complete : (n t : ℕ) → Reaches h t n → reaches h n t ≡ true
  -- and which slots are filled: from an accepted send to the next accepted drop
  pub sent_into : (s : ℕ) → filled h s ≡ true → Filled h s
  pub lying : (s : ℕ) → Filled h s → filled h s ≡ true
  -- what reads and pages of a node are made of is the fold over exactly the contributions with a delivered path to it
  pub holds : (n : ℕ) → IsFold k h n (node_form k h n)
  -- so a line that reads the node gives the encoding of that fold
  pub reads : (n : ℕ) (bs : List ℕ) → ReadGives (opened l nodes h) n bs → (x : k.Form) × IsFold k h n x × (bs ≡ k.encoding x)
  -- and one that asks for its page gives the page of that encoding, in a kind with pages
  pub pages : (n : ℕ) (bs : List ℕ) → PageGives (opened l nodes h) n bs → (x : k.Form) × IsFold k h n x × ((page_of : List ℕ → List ℕ) × (page_of_letter l ≡ Some page_of) × (bs ≡ page_of (k.encoding x)))
  -- every arrangement of these contributions encodes to the bytes that are read
  pub arranged : (n : ℕ) (x : k.Form) → Arranged k h n x → (bs : List ℕ) → ReadGives (opened l nodes h) n bs → bs ≡ k.encoding x

pub record ScriptLaws : Type 0 where
  -- an input that is not too long gives one line of output for each line, numbered from 1
  pub numbered : (input : List ℕ) → length input ≤ longest_input → printed input ≡ printed_from 1 (owed (lines input))
  pub each : (script : List (List ℕ)) → length (owed script) ≡ length script
  -- lines that follow change none of the answers before them
  pub fronts : (script more : List (List ℕ)) → take (length script) (owed (script ++ more)) ≡ owed script
  -- and none of the bytes that are printed for them
  pub front_bytes : (input longer : List ℕ) (more : List (List ℕ)) → lines longer ≡ lines input ++ more → length longer ≤ longest_input → length input ≤ longest_input
      → (rest : List ℕ) × (printed longer ≡ printed input ++ rest)
  -- a refused line could as well not be there: without it, no other line is answered otherwise
  pub taken_out : (before : List (List ℕ)) (line : List ℕ) (after : List (List ℕ)) → is_accepted (slice_index_or (owed (before ++ line ∷ after)) (length before) done) ≡ false
      → owed (before ++ after) ≡ remove (owed (before ++ line ∷ after)) (length before)
  -- after any script that opened a network, its history says by paths what is read there
  pub paths : (script : List (List ℕ)) (l : KindLetter) (nodes : ℕ) (h : History) → stands closed script ≡ opened l nodes h → PathLaws (kind_of_letter l) l nodes h
  -- after any two scripts on networks of one kind, nodes with equal sets of contributions are read as the same bytes
  pub agree : (script script' : List (List ℕ)) (l : KindLetter) (nodes nodes' : ℕ) (h h' : History)
      → stands closed script ≡ opened l nodes h → stands closed script' ≡ opened l nodes' h'
      → (n n' : ℕ) → ((g : Contribution) → Came h n g → Came h' n' g) → ((g : Contribution) → Came h' n' g → Came h n g)
      → (bs bs' : List ℕ) → ReadGives (opened l nodes h) n bs → ReadGives (opened l nodes' h') n' bs' → bs ≡ bs'
