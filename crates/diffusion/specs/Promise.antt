-- The promise over runs, for one kind: of every network of it, every node count, whatever values and memory were lent, and
-- every list of turns.
use Rattle.std.specs.Prelude.{◌≡◌, ℕ, ◌+◌, ◌<◌, ◌≤◌, true, false, ◌⊎◌, List, [], ◌++◌, map, length, take, drop, Option, slice_index, slice_index_or}
use Rattle.synopsis.specs.Kind.{Kind}
use Rattle.histories.specs.declared.Call.TheVariants.{Read}
use Rattle.histories.specs.declared.Turn.{Turn}
use Rattle.histories.specs.Deeds.{Contribution, sent, History, deed, nothing, history_after}
use Rattle.histories.specs.Paths.{Did, Reaches, Filled}
use Rattle.histories.specs.Search.{reaches, filled}
use Rattle.histories.specs.Folds.{node_form, slot_form, Came, Arranged, IsFold}
use Rattle.network.specs.Tables.{slot_count, slot_bytes}
use Rattle.network.specs.Calls.{is_filled, slot_start, slot_frame, no_slot}
use Rattle.diffusion.specs.Turns.{Told, bytes, refused, is_accepted, form_of}
use Rattle.diffusion.specs.Runs.{Rack, formed, rack_tells, Step, Opened, Ran}
use Rattle.diffusion.specs.Owed.{Answered, due, owes}

-- a byte lies in no slot that was sent into
abbrev pub Outside : History → ℕ → Type 0
Outside h place = (s m t : ℕ) → s < slot_count → Did h t (sent m s) → (place < slot_start s) ⊎ (slot_start s + slot_bytes ≤ place)

-- memory is as long as it was, and byte for byte the same outside the slots that were sent into
pub record SameOutside (h : History) (before after : List ℕ) : Type 0 where
  pub long : length after ≡ length before
  pub bytes : (place : ℕ) → Outside h place → slice_index after place ≡ slice_index before place

module _ {S : Type 0} (k : Kind) (form : S → k.Form) where
  -- the form of a node
  abbrev pub node_holds : Rack S → ℕ → k.Form
  node_holds r n = form_of k (formed k form r) n

  -- the bytes that a turn gave are the encoding of the fold over exactly the contributions with a path to node n
  abbrev pub GivesFold : History → ℕ → List ℕ → Type 0
  GivesFold h n bs = (x : k.Form) × IsFold k h n x × (bs ≡ k.encoding x)

  -- what is promised of one run, after all of its turns
  pub record Kept (nodes : ℕ) (values : List S) (memory : List ℕ) (ts : List Turn) (ws : List Told) (h : History) (last : Rack S) : Type 0 where
    -- the history is told by the turns' arguments and which of them were accepted
    pub history : h ≡ history_after [] ts (map is_accepted ws)
    -- every answer is exactly what the history before its turn owes
    pub answers : Answered k nodes ts ws h
    -- so that they can be computed from the turns alone
    pub computed : ws ≡ due k nodes [] ts
    -- and whatever turn comes next tells what this history owes
    pub next : (t : Turn) → rack_tells k form last t ≡ owes k nodes h t
    -- every node has the fold, from the empty form and in turn order, over exactly the contributions with a delivered path to
    -- it, whether or not anybody reads it
    pub holds : (n : ℕ) → n < nodes → IsFold k h n (node_holds last n)
    -- and a READ gives the encoding of that fold
    pub reads : (t : Turn) (n room : ℕ) (bs : List ℕ) → t.call ≡ Read n room → rack_tells k form last t ≡ bytes bs → GivesFold h n bs
    -- every arrangement of these contributions encodes to the same bytes
    pub arranged : (n : ℕ) → n < nodes → (x : k.Form) → Arranged k h n x → k.encoding x ≡ k.encoding (node_holds last n)
    -- a search computes the same: a contribution reaches a node in it exactly where it has a delivered path there
    pub searched : (n : ℕ) → n < nodes → node_holds last n ≡ node_form k h n
    pub found : (n t : ℕ) → reaches h n t ≡ true → Reaches h t n
    pub complete : (n t : ℕ) → Reaches h t n → reaches h n t ≡ true
    -- a slot is filled from an accepted send to the next accepted drop, and otherwise free
    pub sent_into : (s : ℕ) → filled h s ≡ true → Filled h s
    pub lying : (s : ℕ) → Filled h s → filled h s ≡ true
    pub table : (s : ℕ) → s < slot_count → is_filled (slice_index_or last.net.slots s no_slot) ≡ filled h s
    -- the frame in a filled slot is that of what its send carried
    pub lies : (s : ℕ) → s < slot_count → filled h s ≡ true → slot_frame last.memory s (slice_index_or last.net.slots s no_slot) ≡ k.encoding (slot_form k h s)
    -- a refused turn leaves the table, every value and every byte as it was, and has no part in any path
    pub still : (t : Turn) (after : Rack S) (number : ℕ) (at : Option (ℕ × ℕ)) → Step k form last t after → rack_tells k form last t ≡ refused number at → (after ≡ last) × (deed t.call false ≡ nothing)
    -- the network has its nodes, and there are as many values as were lent
    pub count : last.net.count ≡ nodes
    pub many : length last.values ≡ length values
    -- values beyond the nodes, and memory outside the slots that were sent into, are the very same as lent
    pub beyond : drop nodes last.values ≡ drop nodes values
    pub outside : SameOutside h memory last.memory

  -- a run is in this state with this history after its first turns, and goes on from there
  pub record Front (first : Rack S) (ts : List Turn) (ws : List Told) (h : History) (last : Rack S) (i : ℕ) : Type 0 where
    pub before : History
    pub mid : Rack S
    pub later : History
    pub ran : Ran k form first (take i ts) (take i ws) before mid
    pub goes_on : Ran k form mid (drop i ts) (drop i ws) later last
    pub whole : h ≡ later ++ before

  pub record Promise : Type 0 where
    pub kept : (nodes : ℕ) (values : List S) (memory : List ℕ) (first : Rack S) (ts : List Turn) (ws : List Told) (h : History) (last : Rack S)
        → Opened k form nodes values memory first → Ran k form first ts ws h last → Kept nodes values memory ts ws h last
    -- after each of its turns a run is a run that has all of this, with its own state and history of that time
    pub fronts : (first : Rack S) (ts : List Turn) (ws : List Told) (h : History) (last : Rack S) → Ran k form first ts ws h last → (i : ℕ) → i ≤ length ts → Front first ts ws h last i
    -- there is one fold over the contributions with a path to a node
    pub one_fold : (h : History) (n : ℕ) (x y : k.Form) → IsFold k h n x → IsFold k h n y → x ≡ y
    -- two folds over equal sets of contributions, of one history or of two, have the same bytes: so nodes of any two networks
    -- of the kind agree, whatever their values are made of
    pub equal_folds : (h h' : History) (n n' : ℕ) (x x' : k.Form) → IsFold k h n x → IsFold k h' n' x'
        → ((g : Contribution) → Came h n g → Came h' n' g) → ((g : Contribution) → Came h' n' g → Came h n g)
        → k.encoding x ≡ k.encoding x'
    -- in any two runs, of one network or two, nodes with equal sets of contributions hold the same bytes
    pub agree : (nodes nodes' : ℕ) (values values' : List S) (memory memory' : List ℕ) (first first' : Rack S) (ts ts' : List Turn) (ws ws' : List Told) (h h' : History) (last last' : Rack S)
        → Opened k form nodes values memory first → Ran k form first ts ws h last → Opened k form nodes' values' memory' first' → Ran k form first' ts' ws' h' last'
        → (n n' : ℕ) → n < nodes → n' < nodes'
        → ((g : Contribution) → Came h n g → Came h' n' g) → ((g : Contribution) → Came h' n' g → Came h n g)
        → k.encoding (node_holds last n) ≡ k.encoding (node_holds last' n')
