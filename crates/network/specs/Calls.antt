-- What each call of a network answers, and what it leaves.
use Rattle.std.specs.Prelude.{◌≡◌, ℕ, ◌+◌, ◌*◌, min, Bool, true, false, cond, ◌||◌, List, [], ◌++◌, map, length, take, drop, replicate, None, Some, Option, Ok, Err, Result, ◌≢◌, nat_le, nat_lt, slice_index_or, slice_set}
use Rattle.synopsis.specs.declared.fault.DecodeFault.{DecodeFault}
use Rattle.synopsis.specs.Kind.{Kind, overlong}
use Rattle.network.specs.declared.fault.NetworkFault.{NetworkFault}
use Rattle.network.specs.declared.slot.Filled.{Filled}
use Rattle.network.specs.Faults.{fault_of, of_synopsis}
use Rattle.network.specs.Tables.{Table, most_nodes, slot_count, slot_bytes, memory_bytes}

-- refuses with a number where the test says so, and goes on where not
abbrev pub unless : {A : Type 0} → Bool → ℕ → Result A NetworkFault → Result A NetworkFault
unless refused number rest = cond refused (Err (fault_of number)) rest

-- where slot s begins
abbrev pub slot_start : ℕ → ℕ
slot_start s = slot_bytes * s

-- what lies in a slot: who sent it, and how long it is
abbrev pub slot_of : ℕ → ℕ → Option Filled
slot_of sender length = Some (record { sender = sender; length = length })

abbrev pub is_filled : Option Filled → Bool
is_filled None = false
is_filled (Some frame) = true

-- the bytes that a slot holds
abbrev pub slot_frame : List ℕ → ℕ → Option Filled → List ℕ
slot_frame memory s None = []
slot_frame memory s (Some frame) = take (min frame.length slot_bytes) (drop (slot_start s) memory)

-- the slot that is read past the table's end
abbrev pub no_slot : Option Filled
no_slot = None

-- the form of one of the values, and its encoding
abbrev pub value_form : {S : Type 0} (k : Kind) → (S → k.Form) → List S → ℕ → k.Form
value_form k form values node = slice_index_or (map form values) node k.none

abbrev pub value_frame : {S : Type 0} (k : Kind) → (S → k.Form) → List S → ℕ → List ℕ
value_frame k form values node = k.encoding (value_form k form values node)

module _ (k : Kind) where
  -- what a form is joined with, by what bytes are read as
  abbrev pub accepted : Result k.Form DecodeFault → Result (Unit {0}) NetworkFault
  accepted (Ok x) = Ok tt
  accepted (Err e) = Err (of_synopsis e)

  -- how many nodes there are or are to be, and how many values and bytes are lent: what every call refuses before it
  -- looks at its node and slot
  abbrev pub with_enough_lent : {A : Type 0} → ℕ → ℕ → ℕ → Result A NetworkFault → Result A NetworkFault
  with_enough_lent nodes values bytes rest = unless (nat_lt values nodes || nat_lt bytes memory_bytes) 2 (unless (overlong k) 3 rest)

  -- a network, how many values and how many bytes it is lent
  module _ (net : Table) (values bytes : ℕ) where
    -- what every call but OPEN refuses first
    abbrev pub ready : {A : Type 0} → Result A NetworkFault → Result A NetworkFault
    ready rest = with_enough_lent net.count values bytes rest

    abbrev pub no_node : {A : Type 0} → ℕ → Result A NetworkFault → Result A NetworkFault
    no_node node rest = unless (nat_le net.count node) 4 rest

    abbrev pub beyond : {A : Type 0} → ℕ → Result A NetworkFault → Result A NetworkFault
    beyond s rest = unless (nat_le slot_count s) 5 rest

    abbrev pub generate_answer : ℕ → Result (Unit {0}) NetworkFault
    generate_answer node = ready (no_node node (Ok tt))

    abbrev pub arrive_answer : ℕ → List ℕ → Result (Unit {0}) NetworkFault
    arrive_answer node frame = ready (no_node node (accepted (k.decoding frame)))

    abbrev pub send_answer : ℕ → ℕ → Result (Unit {0}) NetworkFault
    send_answer node s = ready (no_node node (beyond s (unless (is_filled (slice_index_or net.slots s no_slot)) 7 (Ok tt))))

    abbrev pub deliver_answer : List ℕ → ℕ → ℕ → Result (Unit {0}) NetworkFault
    deliver_answer memory s node =
        ready (beyond s (no_node node (cond (is_filled (slice_index_or net.slots s no_slot)) (accepted (k.decoding (slot_frame memory s (slice_index_or net.slots s no_slot)))) (Err (fault_of 6)))))

    abbrev pub drop_answer : ℕ → Result (Unit {0}) NetworkFault
    drop_answer s = ready (beyond s (cond (is_filled (slice_index_or net.slots s no_slot)) (Ok tt) (Err (fault_of 6))))

    -- READ of a form into room for so many bytes
    abbrev pub read_answer : ℕ → k.Form → ℕ → Result ℕ NetworkFault
    read_answer node x room = ready (no_node node (unless (nat_lt room (length (k.encoding x))) 8 (Ok (length (k.encoding x)))))

  -- OPEN
  abbrev pub open_answer : ℕ → ℕ → ℕ → Result (Unit {0}) NetworkFault
  open_answer nodes values bytes =
      unless (nat_lt nodes 1 || nat_lt most_nodes nodes) 1 (with_enough_lent nodes values bytes (Ok tt))

-- the memory with a frame at a place
abbrev pub placed : List ℕ → ℕ → List ℕ → List ℕ
placed memory at frame = take at memory ++ (frame ++ drop (at + length frame) memory)

-- a network that was just opened
abbrev pub opened_network : ℕ → Table
opened_network nodes = record { count = nodes; slots = replicate slot_count None }

-- with one entry of its table switched
abbrev pub switched : Table → ℕ → Option Filled → Table
switched net s entry = record { count = net.count; slots = slice_set net.slots s entry }

-- one node's value has this form now, the others are as they were
pub record Fused {S F : Type 0} (form : S → F) (before after : List S) (node : ℕ) (x : F) : Type 0 where
  pub long : length after ≡ length before
  pub forms : map form after ≡ slice_set (map form before) node x
  pub others : (n : ℕ) (d : S) → (n ≢ node) → slice_index_or after n d ≡ slice_index_or before n d

-- one node's value was joined with the form that bytes encode
pub record Joined {S : Type 0} (k : Kind) (form : S → k.Form) (before after : List S) (node : ℕ) (bytes : List ℕ) : Type 0 where
  pub told : k.Form
  pub decodes : k.decoding bytes ≡ Ok told
  pub encodes : k.encoding told ≡ bytes
  pub fused : Fused form before after node (k.join (value_form k form before node) told)

-- the first values are empty now, the others are as they were
pub record Emptied {S F : Type 0} (form : S → F) (none : F) (before after : List S) (nodes : ℕ) : Type 0 where
  pub long : length after ≡ length before
  pub forms : map form (take nodes after) ≡ replicate nodes none
  pub others : drop nodes after ≡ drop nodes before
