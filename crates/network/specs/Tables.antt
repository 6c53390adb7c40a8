-- The table of a network: how many nodes it has, and what lies in each slot.
use Rattle.std.specs.Prelude.{ℕ, ◌*◌, ◌≤◌, List, All, None, Some, Option}
use Rattle.synopsis.specs.Kind.{longest}
use Rattle.network.specs.declared.slot.Filled.{Filled}

pub record Table : Type 0 where
  pub count : ℕ
  pub slots : List (Option Filled)

-- how many nodes and slots there are at most, how many bytes a slot has, and all slots together
abbrev pub most_nodes : ℕ
most_nodes = 16

abbrev pub slot_count : ℕ
slot_count = 32

abbrev pub slot_bytes : ℕ
slot_bytes = longest

abbrev pub memory_bytes : ℕ
memory_bytes = slot_count * slot_bytes

-- what lies in a slot is no longer than the slot
abbrev pub FitsSlot : Option Filled → Type 0
FitsSlot None = Unit {0}
FitsSlot (Some frame) = frame.length ≤ slot_bytes

-- what every network keeps
pub record Keeps (count : ℕ) (slots : List (Option Filled)) : Type 0 where
  pub few : count ≤ most_nodes
  pub fit : All FitsSlot slots
