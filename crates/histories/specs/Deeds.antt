-- What turns did: histories, read off the turns' arguments and which of them were accepted.
use Rattle.std.specs.Prelude.{ℕ, Bool, true, false, List, [], ◌∷◌}
use Rattle.readings.specs.declared.Reading.{Reading}
use Rattle.histories.specs.declared.Call.{Call}
use Rattle.histories.specs.declared.Call.TheVariants.{Generate, Arrive, Send, Deliver, Drop, Read}
use Rattle.histories.specs.declared.Turn.{Turn}

-- what an accepted GENERATE or ARRIVE brings to a node: a reading, or the bytes of a frame from outside
pub data Contribution : Type 0 where
  reading : Reading → Contribution
  frame : List ℕ → Contribution

-- what a turn did: an accepted GENERATE or ARRIVE gave something to a node, SEND sent from a node into a slot,
-- DELIVER delivered a slot to a node, DROP dropped a slot; a READ and a refused turn did nothing
pub data Deed : Type 0 where
  contributed : (node : ℕ) (g : Contribution) → Deed
  sent : (node slot : ℕ) → Deed
  delivered : (slot node : ℕ) → Deed
  dropped : (slot : ℕ) → Deed
  nothing : Deed

-- the newest deed first; turns are counted from 1, so the newest has the length as its number
abbrev pub History : Type 0
History = List Deed

-- what a call did, if it was accepted
abbrev pub deed_of : Call → Deed
deed_of (Generate n r) = contributed n (reading r)
deed_of (Arrive n bytes) = contributed n (frame bytes.now)
deed_of (Send n s) = sent n s
deed_of (Deliver s n) = delivered s n
deed_of (Drop s) = dropped s
deed_of (Read n room) = nothing

abbrev pub deed : Call → Bool → Deed
deed call true = deed_of call
deed call false = nothing

-- the history after more turns, from their arguments and which of them were accepted
abbrev pub history_after : History → List Turn → List Bool → History
history_after h [] accepted = h
history_after h (t ∷ ts) [] = h
history_after h (t ∷ ts) (a ∷ accepted) = history_after (deed t.call a ∷ h) ts accepted
