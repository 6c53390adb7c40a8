-- What each turn must answer, by the history alone.
use Rattle.std.specs.Prelude.{ℕ, Bool, cond, ◌||◌, List, [], ◌∷◌, ◌++◌, length, None, Some, Ok, Err, Result, nat_le, nat_lt}
use Rattle.synopsis.specs.declared.fault.DecodeFault.{DecodeFault}
use Rattle.synopsis.specs.Faults.{reason_number}
use Rattle.synopsis.specs.Kind.{Kind}
use Rattle.histories.specs.declared.Call.{Call}
use Rattle.histories.specs.declared.Call.TheVariants.{Generate, Arrive, Send, Deliver, Drop, Read}
use Rattle.histories.specs.declared.Turn.{Turn}
use Rattle.histories.specs.Deeds.{deed, History}
use Rattle.histories.specs.Search.{filled}
use Rattle.histories.specs.Folds.{node_form}
use Rattle.network.specs.Tables.{slot_count, memory_bytes}
use Rattle.diffusion.specs.Turns.{Told, done, bytes, refused, is_accepted}

-- refused with a number, where the test says so
abbrev pub refused_if : Bool → ℕ → Told → Told
refused_if test number rest = cond test (refused number None) rest

module _ (k : Kind) (nodes : ℕ) where
  -- bytes that are no frame are refused with the number, the place and the kind of DECODE's fault
  abbrev pub of_decoding : Result k.Form DecodeFault → Told
  of_decoding (Ok x) = done
  of_decoding (Err e) = refused (reason_number e.reason) (Some (e.place, e.kind))

  -- a node not below the count, and a slot above 31
  abbrev pub at_node : ℕ → Told → Told
  at_node n rest = refused_if (nat_le nodes n) 4 rest

  abbrev pub at_slot : ℕ → Told → Told
  at_slot s rest = refused_if (nat_le slot_count s) 5 rest

  -- each call's refusals in its own order; filled and free are read off the history, and READ gives the encoding of
  -- the fold over the contributions that reached the node
  abbrev pub call_owes : History → Call → Told
  call_owes h (Generate n r) = at_node n done
  call_owes h (Arrive n frame) = at_node n (of_decoding (k.decoding frame.now))
  call_owes h (Send n s) = at_node n (at_slot s (refused_if (filled h s) 7 done))
  call_owes h (Deliver s n) = at_slot s (at_node n (cond (filled h s) done (refused 6 None)))
  call_owes h (Drop s) = at_slot s (cond (filled h s) done (refused 6 None))
  call_owes h (Read n room) = at_node n (refused_if (nat_lt room (length (k.encoding (node_form k h n)))) 8 (bytes (k.encoding (node_form k h n))))

  -- first, whether enough values and memory were lent
  abbrev pub owes : History → Turn → Told
  owes h t = refused_if (nat_lt t.values nodes || nat_lt t.bytes memory_bytes) 2 (call_owes h t.call)

  -- every turn was answered as the history before it owes, and the history grew by what it did
  pub data Answered : List Turn → List Told → History → Type 0 where
    none : Answered [] [] []
    more : {ts : List Turn} {ws : List Told} {h : History} → Answered ts ws h → (t : Turn) → Answered (ts ++ t ∷ []) (ws ++ owes h t ∷ []) (deed t.call (is_accepted (owes h t)) ∷ h)

  -- the same, computed: the history after some turns, and all their answers
  abbrev pub past : History → List Turn → History
  past h [] = h
  past h (t ∷ ts) = past (deed t.call (is_accepted (owes h t)) ∷ h) ts

  abbrev pub due : History → List Turn → List Told
  due h [] = []
  due h (t ∷ ts) = owes h t ∷ due (deed t.call (is_accepted (owes h t)) ∷ h) ts
