-- The refusals of a network, each with its number, and of bytes that are no frame the place and the kind.
use Rattle.std.specs.Prelude.{ℕ, List, [], ◌∷◌, ◌++◌, Some, None, Option, codes}
use Rattle.std.specs.Fmt.{decimal}
use Rattle.synopsis.specs.declared.fault.DecodeFault.{DecodeFault}
use Rattle.synopsis.specs.declared.fault.EncodeFault.{EncodeFault}
use Rattle.synopsis.specs.declared.fault.EncodeFault.TheVariants as no_encoding
use Rattle.synopsis.specs.Faults.{reason_number, numbered}
use Rattle.network.specs.declared.fault.NetworkFault.{NetworkFault}
use Rattle.network.specs.declared.fault.NetworkFault.TheVariants.{NodeCount, TooLittleLent, Overlong, NoNode, NoSlot, SlotFree, SlotFilled, Room, Synopsis}

abbrev pub fault_number : NetworkFault → ℕ
fault_number NodeCount = 1
fault_number TooLittleLent = 2
fault_number Overlong = 3
fault_number NoNode = 4
fault_number NoSlot = 5
fault_number SlotFree = 6
fault_number SlotFilled = 7
fault_number Room = 8
fault_number (Synopsis e) = reason_number e.reason

-- of bytes that are no frame, at which of them it shows and the number of the kind that refused them
abbrev pub fault_at : NetworkFault → Option (ℕ × ℕ)
fault_at (Synopsis e) = Some (e.place, e.kind)
fault_at e = None

-- the refusals from 1 to 8 by their numbers
abbrev pub fault_of : ℕ → NetworkFault
fault_of n = numbered fault_number (NodeCount ∷ TooLittleLent ∷ Overlong ∷ NoNode ∷ NoSlot ∷ SlotFree ∷ SlotFilled ∷ []) Room n

-- how a refusal is told
abbrev pub at_text : Option (ℕ × ℕ) → List ℕ
at_text None = []
at_text (Some at) = codes ", at byte " ++ decimal at.0 ++ codes ", in kind " ++ decimal at.1

abbrev pub fault_text : NetworkFault → List ℕ
fault_text e = codes "refused with " ++ decimal (fault_number e) ++ at_text (fault_at e)

-- the faults of a synopsis: of bytes that are no frame, carried whole, and of a frame that is not written
abbrev pub of_synopsis : DecodeFault → NetworkFault
of_synopsis e = Synopsis e

abbrev pub of_encoding : EncodeFault → NetworkFault
of_encoding no_encoding.Overlong = Overlong
of_encoding no_encoding.Room = Room
