-- What a turn tells and leaves, by the contracts of the calls.
use Rattle.std.specs.Prelude.{◌≡◌, ◌≢◌, ℕ, min, Bool, true, false, cond, List, map, length, take, None, Some, Option, Ok, Err, Result, slice_index_or, slice_set}
use Rattle.synopsis.specs.Kind.{Kind}
use Rattle.histories.specs.declared.Call.{Call}
use Rattle.histories.specs.declared.Call.TheVariants.{Generate, Arrive, Send, Deliver, Drop, Read}
use Rattle.histories.specs.declared.Turn.{Turn}
use Rattle.histories.specs.Folds.{read_as}
use Rattle.network.specs.declared.fault.NetworkFault.{NetworkFault}
use Rattle.network.specs.Faults.{fault_number, fault_at}
use Rattle.network.specs.Tables.{Table}
use Rattle.network.specs.Calls.{generate_answer, arrive_answer, send_answer, deliver_answer, drop_answer, read_answer, slot_start, slot_frame, no_slot, placed, slot_of, switched}
use Rattle.diffusion.specs.declared.answer.Answer.{Answer}
use Rattle.diffusion.specs.declared.answer.Answer.TheVariants as answer

-- what an answer tells: that the call was done, the bytes that a READ gave, or the number of the refusal, and of bytes that
-- are no frame also the place and the kind
pub data Told : Type 0 where
  done : Told
  bytes : List ℕ → Told
  refused : (number : ℕ) → (at : Option (ℕ × ℕ)) → Told

abbrev pub is_accepted : Told → Bool
is_accepted done = true
is_accepted (bytes bs) = true
is_accepted (refused number at) = false

abbrev pub refusal : NetworkFault → Told
refusal e = refused (fault_number e) (fault_at e)

-- an answer as the code has it
abbrev pub tells : Answer → Told
tells answer.Done = done
tells (answer.Bytes bs) = bytes bs.now
tells (answer.Refused e) = refusal e

abbrev pub plainly : Result (Unit {0}) NetworkFault → Told
plainly (Ok u) = done
plainly (Err e) = refusal e

abbrev pub with_bytes : List ℕ → Result ℕ NetworkFault → Told
with_bytes bs (Ok n) = bytes bs
with_bytes bs (Err e) = refusal e

-- the table of the network, the forms of all values that the caller has, the nodes first, and the memory
pub record State (k : Kind) : Type 0 where
  pub net : Table
  pub forms : List k.Form
  pub memory : List ℕ

module _ (k : Kind) where
  -- the form of a node
  abbrev pub form_of : State k → ℕ → k.Form
  form_of st n = slice_index_or st.forms n k.none

  -- what a call tells, lent so many values and so many bytes
  abbrev pub call_tells : State k → (values memory : ℕ) → Call → Told
  call_tells st v m (Generate n r) = plainly (generate_answer k st.net v m n)
  call_tells st v m (Arrive n frame) = plainly (arrive_answer k st.net v m n frame.now)
  call_tells st v m (Send n s) = plainly (send_answer k st.net v m n s)
  call_tells st v m (Deliver s n) = plainly (deliver_answer k st.net v m (take m st.memory) s n)
  call_tells st v m (Drop s) = plainly (drop_answer k st.net v m s)
  call_tells st v m (Read n room) = with_bytes (k.encoding (form_of st n)) (read_answer k st.net v m n (form_of st n) room)

  -- a turn lends a front part of the values and of the memory
  abbrev pub turn_tells : State k → Turn → Told
  turn_tells st t = call_tells st (min t.values (length st.forms)) (min t.bytes (length st.memory)) t.call

  -- one node joined with a form
  abbrev pub fused : State k → ℕ → k.Form → State k
  fused st n x = record { net = st.net; forms = slice_set st.forms n (k.join (form_of st n) x); memory = st.memory }

  -- what an accepted call leaves
  abbrev pub call_leaves : State k → Call → State k
  call_leaves st (Generate n r) = fused st n (k.single r)
  call_leaves st (Arrive n frame) = fused st n (read_as k (k.decoding frame.now))
  call_leaves st (Send n s) = record {
    net = switched st.net s (slot_of n (length (k.encoding (form_of st n))));
    forms = st.forms;
    memory = placed st.memory (slot_start s) (k.encoding (form_of st n));
  }
  call_leaves st (Deliver s n) = fused st n (read_as k (k.decoding (slot_frame st.memory s (slice_index_or st.net.slots s no_slot))))
  call_leaves st (Drop s) = record { net = switched st.net s None; forms = st.forms; memory = st.memory }
  call_leaves st (Read n room) = st

  -- a refused turn leaves everything as it was
  abbrev pub turn_leaves : State k → Turn → State k
  turn_leaves st t = cond (is_accepted (turn_tells st t)) (call_leaves st t.call) st

-- the state that a network, values and memory are
abbrev pub state_of : {S : Type 0} (k : Kind) → (S → k.Form) → Table → List S → List ℕ → State k
state_of k form net values memory = record { net = net; forms = map form values; memory = memory }

-- what a call, lent exactly these values and this memory, leaves
abbrev pub call_after : (k : Kind) → State k → Told → Call → State k
call_after k st told call = cond (is_accepted told) (call_leaves k st call) st

-- the node whose value a call may write: that of an accepted GENERATE, ARRIVE or DELIVER
abbrev pub written_node : Call → Option ℕ
written_node (Generate n r) = Some n
written_node (Arrive n frame) = Some n
written_node (Send n s) = None
written_node (Deliver s n) = Some n
written_node (Drop s) = None
written_node (Read n room) = None

-- none where the call is refused
abbrev pub if_accepted : Bool → Option ℕ → Option ℕ
if_accepted true written = written
if_accepted false written = None

abbrev pub written_by : Told → Call → Option ℕ
written_by told call = if_accepted (is_accepted told) (written_node call)

-- the very same values, or all but that of one node
abbrev pub SameBut : {S : Type 0} → Option ℕ → (before after : List S) → Type 0
SameBut None before after = after ≡ before
SameBut {S} (Some n) before after = (i : ℕ) (d : S) → (i ≢ n) → slice_index_or after i d ≡ slice_index_or before i d
