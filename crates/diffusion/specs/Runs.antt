-- Runs of turns, from the state that they begin with to the state that they leave.
use Rattle.std.specs.Prelude.{◌≡◌, ℕ, ◌≤◌, List, [], ◌∷◌, ◌++◌, length, take, Ok, Err, Result}
use Rattle.synopsis.specs.Kind.{Kind}
use Rattle.histories.specs.declared.Turn.{Turn}
use Rattle.histories.specs.Deeds.{deed, History}
use Rattle.network.specs.declared.fault.NetworkFault.{NetworkFault}
use Rattle.network.specs.Tables.{Table}
use Rattle.network.specs.Calls.{open_answer, opened_network, Emptied}
use Rattle.diffusion.specs.declared.fault.RunFault.{RunFault}
use Rattle.diffusion.specs.declared.fault.RunFault.TheVariants.{Refused, Stopped}
use Rattle.diffusion.specs.Turns.{Told, is_accepted, State, state_of, turn_tells, turn_leaves, written_by, SameBut}
use Rattle.diffusion.specs.Listening.{Heard}

-- a network and what it is lent: its table, the values, the nodes first, and the memory
pub record Rack (S : Type 0) : Type 0 where
  pub net : Table
  pub values : List S
  pub memory : List ℕ

abbrev pub rack : {S : Type 0} → Table → List S → List ℕ → Rack S
rack net values memory = record { net = net; values = values; memory = memory }

module _ {S : Type 0} (k : Kind) (form : S → k.Form) where
  -- the same with the forms of the values
  abbrev pub formed : Rack S → State k
  formed r = state_of k form r.net r.values r.memory

  -- what a turn tells, and its deed
  abbrev pub rack_tells : Rack S → Turn → Told
  rack_tells r t = turn_tells k (formed r) t

  -- A turn: the table, the memory and the forms of the values are exactly what its call leaves of them. The values are the
  -- very same, but for the one that an accepted GENERATE, ARRIVE or DELIVER writes.
  pub record Step (before : Rack S) (t : Turn) (after : Rack S) : Type 0 where
    pub leaves : formed after ≡ turn_leaves k (formed before) t
    pub others : SameBut (written_by (rack_tells before t) t.call) before.values after.values

  -- An accepted OPEN of so many nodes: the first values are empty, the others and the memory are the very same.
  pub record Opened (nodes : ℕ) (values : List S) (memory : List ℕ) (first : Rack S) : Type 0 where
    pub accepted : open_answer k nodes (length values) (length memory) ≡ Ok tt
    pub table : first.net ≡ opened_network nodes
    pub empty : Emptied form k.none values first.values nodes
    pub same : first.memory ≡ memory

  -- A run from its first state: the turns, what each told, the history, read off the turns' arguments and which were
  -- accepted, and the state after them.
  pub data Ran (first : Rack S) : List Turn → List Told → History → Rack S → Type 0 where
    begun : Ran first [] [] [] first
    then : {ts : List Turn} {ws : List Told} {h : History} {r : Rack S} → Ran first ts ws h r → (t : Turn) (after : Rack S) → Step r t after
        → Ran first (ts ++ t ∷ []) (ws ++ rack_tells r t ∷ []) (deed t.call (is_accepted (rack_tells r t)) ∷ h) after

-- what a list of turns came to, with values and memory as they were lent: OPEN was accepted, and from what it left so many
-- of the first turns were made as there are answers
pub record Made {S : Type 0} (k : Kind) (form : S → k.Form) (nodes : ℕ) (values : List S) (memory : List ℕ) (turns : List Turn) (told : List Told) (last : Rack S) : Type 0 where
  pub first : Rack S
  pub opened : Opened k form nodes values memory first
  pub few : length told ≤ length turns
  pub history : History
  pub ran : Ran k form first (take (length told) turns) told history last

module _ {S L : Type 0} (k : Kind) (form : S → k.Form) (hears stops : L → Told → L → Type 0) (nodes : ℕ) (values : List S) (memory : List ℕ) (turns : List Turn) (old new : L) (last : Rack S) where
  -- every turn was made and gave one answer, and the listener heard them in their order
  pub record Finished : Type 0 where
    pub told : List Told
    pub each : length told ≡ length turns
    pub made : Made k form nodes values memory turns told last
    pub heard : Heard hears old told new

  -- the listener stopped at the answer of the last turn that was made, after it heard those before it
  pub record StoppedAt : Type 0 where
    pub told : List Told
    pub unheard : Told
    pub mid : L
    pub made : Made k form nodes values memory turns (told ++ unheard ∷ []) last
    pub heard : Heard hears old told mid
    pub stop : stops mid unheard new

  -- how a run ended, by what the call answered after an accepted OPEN
  abbrev pub Ended : {E : Type 0} → Result (Unit {0}) (RunFault E) → Type 0
  Ended (Ok u) = Finished
  Ended (Err (Refused e)) = ⊥
  Ended (Err (Stopped e)) = StoppedAt

-- how OPEN was answered: nothing follows where it was refused
abbrev pub opening : {E : Type 0} → Result (Unit {0}) (RunFault E) → Result (Unit {0}) NetworkFault
opening (Ok u) = Ok tt
opening (Err (Refused e)) = Err e
opening (Err (Stopped e)) = Ok tt

-- the refusal of OPEN
abbrev pub of_network : {E : Type 0} → NetworkFault → RunFault E
of_network e = Refused e
