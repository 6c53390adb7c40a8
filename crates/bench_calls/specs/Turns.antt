-- Turns of a network of seven nodes, each told by a word, and what they come to.
use Rattle.std.specs.Prelude.{ℕ, ◌+◌, ◌*◌, ◌/◌, ◌%◌, ◌^◌, cond, nat_lt, List, ◌++◌, length, drop, replicate, Ok, Err, Result}
use Rattle.std.specs.Borrow.{Bor}
use Rattle.std.specs.List.{fold}
use Rattle.synopsis.specs.Kind.{Kind}
use Rattle.histories.specs.declared.Call.{Call}
use Rattle.histories.specs.declared.Call.TheVariants as call
use Rattle.network.specs.declared.fault.NetworkFault.{NetworkFault}
use Rattle.network.specs.Faults.{fault_number}
use Rattle.network.specs.Calls.{opened_network}
use Rattle.diffusion.specs.Turns.{Told, done, bytes, refused, State, call_tells, call_after}
use Rattle.bench_calls.specs.declared.turns.Act.{Act}
use Rattle.bench_calls.specs.declared.turns.Act.TheVariants.{Count, Arrive, Send, Deliver, Free, Read}
use Rattle.bench_calls.specs.declared.turns.Task.{Task}
use Rattle.bench_calls.specs.Counting.{reading_of}
use Rattle.bench_calls.specs.Values.{frame_at}

-- from its lowest bits up a word tells what is done, at which node, at which slot, and a number
abbrev pub act_of : ℕ → Act
act_of n =
    cond (nat_lt n 2) Count
    (cond (nat_lt n 3) Arrive
    (cond (nat_lt n 7) Send
    (cond (nat_lt n 11) Deliver
    (cond (nat_lt n 14) Free Read))))

abbrev pub task_of : ℕ → Task
task_of word = record { act = act_of (word % 16); node = word / 16 % 8; slot = word / 128 % 64; number = word / 8192 }

abbrev pub lent : List ℕ → Bor (List ℕ)
lent bs = record { ref_ptr = (0, 0); now = bs }

-- the call: an item, or the place of a frame among 64, is told by the number; READ has all of the room
abbrev pub call_by : (room size : ℕ) (frames : List ℕ) → Task → Act → Call
call_by room size frames t Count = call.Generate t.node (reading_of t.number)
call_by room size frames t Arrive = call.Arrive t.node (lent (frame_at size frames (t.number % 64)))
call_by room size frames t Send = call.Send t.node t.slot
call_by room size frames t Deliver = call.Deliver t.slot t.node
call_by room size frames t Free = call.Drop t.slot
call_by room size frames t Read = call.Read t.node room

-- what an answer adds to the sum of answers: the number of a refusal, the length of what READ gives
abbrev pub weight : Told → ℕ
weight done = 0
weight (bytes bs) = length bs
weight (refused number at) = number

abbrev pub weight_of : Result (Unit {0}) NetworkFault → ℕ
weight_of (Ok u) = 0
weight_of (Err e) = fault_number e

-- READ puts its bytes at the front of the room
abbrev pub room_after : Told → List ℕ → List ℕ
room_after done room = room
room_after (bytes bs) room = bs ++ drop (length bs) room
room_after (refused number at) room = room

-- the network, the forms and the memory; the room; and the sum of the answers
pub record Course (k : Kind) : Type 0 where
  pub state : State k
  pub room : List ℕ
  pub sum : ℕ

module _ (k : Kind) (size : ℕ) (frames : List ℕ) where
  abbrev pub call_in : Course k → Task → Call
  call_in c t = call_by (length c.room) size frames t t.act

  abbrev pub tells_in : Course k → Task → Told
  tells_in c t = call_tells k c.state (length c.state.forms) (length c.state.memory) (call_in c t)

  -- one turn more
  abbrev pub turned : Course k → ℕ → Course k
  turned c word = record {
    state = call_after k c.state (tells_in c (task_of word)) (call_in c (task_of word));
    room = room_after (tells_in c (task_of word)) c.room;
    sum = (c.sum * 31 % 2 ^ 64 + weight (tells_in c (task_of word))) % 2 ^ 64;
  }

  module _ (words memory room : List ℕ) where
    abbrev pub begun : Course k
    begun = record { state = record { net = opened_network 7; forms = replicate 7 k.none; memory = memory }; room = room; sum = 0 }

    -- all turns, or where OPEN is refused none, and then the sum is the refusal's number
    abbrev pub ended : Result (Unit {0}) NetworkFault → Course k
    ended (Ok u) = fold turned begun words
    ended (Err e) = record { state = begun.state; room = room; sum = fault_number e }
