-- What a line asks for.
use Rattle.std.specs.Prelude.{ℕ, ◌^◌, ◌++◌, Bool, false, cond, ◌==◌, List, [], ◌∷◌, length, take, drop, Ok, Err, Result}
use Rattle.std.specs.Borrow.{Bor}
use Rattle.histories.specs.declared.Call.{Call}
use Rattle.histories.specs.declared.Call.TheVariants.{Generate, Arrive, Send, Deliver, Drop, Read}
use Rattle.script.specs.declared.fault.LineFault.{LineFault}
use Rattle.script.specs.declared.fault.LineFault.TheVariants.{Form}
use Rattle.script.specs.declared.fault.LineFault.TheVariants as fault
use Rattle.script.specs.declared.ask.KindLetter.{KindLetter}
use Rattle.script.specs.declared.ask.KindLetter.TheVariants.{Bitmaps, LeastValues, Sample, Pile}
use Rattle.script.specs.declared.ask.Stage.{Stage}
use Rattle.script.specs.declared.ask.Stage.TheVariants as stage
use Rattle.script.specs.declared.ask.Request.{Request}
use Rattle.script.specs.declared.ask.Request.TheVariants as request
use Rattle.script.specs.declared.ask.Ask.{Ask}
use Rattle.script.specs.declared.ask.Ask.TheVariants as ask
use Rattle.script.specs.Lines.{fields}
use Rattle.script.specs.Fields.{◌>>=◌, given, one, two, four, number, below, bytes}

-- the kind of a letter: b, v, s, p
abbrev pub kind_by : ℕ → Result KindLetter LineFault
kind_by c =
    cond (c == 98) (Ok Bitmaps)
    (cond (c == 118) (Ok LeastValues)
    (cond (c == 115) (Ok Sample)
    (cond (c == 112) (Ok Pile)
    (Err Form))))

abbrev pub kind_of : List ℕ → Result KindLetter LineFault
kind_of (c ∷ []) = kind_by c
kind_of _ = Err Form

-- the fields that come after the letter and a space
abbrev pub fields_of : List ℕ → Result (List (List ℕ)) LineFault
fields_of [] = Err Form
fields_of (b ∷ rest) = given (b == 32) Form (fields rest)

-- the same, where nothing is open
abbrev pub opening : Stage → List ℕ → Result (List (List ℕ)) LineFault
opening stage.Closed rest = fields_of rest
opening (stage.Open pages) rest = Err fault.Stage

-- the same, where a network is open
abbrev pub calling : Stage → List ℕ → Result (List (List ℕ)) LineFault
calling stage.Closed rest = Err fault.Stage
calling (stage.Open pages) rest = fields_of rest

-- whether what is open has a page
abbrev pub has_page : Stage → Bool
has_page stage.Closed = false
has_page (stage.Open pages) = pages

-- a reference to bytes, wherever they lie
abbrev pub lent : List ℕ → Bor (List ℕ)
lent bs = record { ref_ptr = (0, 0); now = bs }

-- the places of each letter in turn: all of their forms are read first, and then how great their numbers are
abbrev pub opens : List (List ℕ) → Result (KindLetter × ℕ) LineFault
opens fs = do
  f ← two fs
  kind ← kind_of f.0
  count ← number f.1
  nodes ← below (2 ^ 32) count
  Ok (kind, nodes)

abbrev pub generates : List (List ℕ) → Result Call LineFault
generates fs = do
  f ← four fs
  node ← number f.0
  tenant ← number f.1
  item ← number f.2
  amount ← number f.3
  n ← below (2 ^ 32) node
  t ← below (2 ^ 32) tenant
  i ← below (2 ^ 64) item
  a ← below (2 ^ 64) amount
  Ok (Generate n (record { tenant = t; item = i; amount = a }))

abbrev pub arrives : List (List ℕ) → Result Call LineFault
arrives fs = do
  f ← two fs
  node ← number f.0
  frame ← bytes f.1
  n ← below (2 ^ 32) node
  Ok (Arrive n (lent frame))

abbrev pub sends : List (List ℕ) → Result Call LineFault
sends fs = do
  f ← two fs
  node ← number f.0
  slot ← number f.1
  n ← below (2 ^ 32) node
  s ← below (2 ^ 32) slot
  Ok (Send n s)

abbrev pub delivers : List (List ℕ) → Result Call LineFault
delivers fs = do
  f ← two fs
  slot ← number f.0
  node ← number f.1
  s ← below (2 ^ 32) slot
  n ← below (2 ^ 32) node
  Ok (Deliver s n)

abbrev pub drops : List (List ℕ) → Result Call LineFault
drops fs = do
  f ← one fs
  slot ← number f
  s ← below (2 ^ 32) slot
  Ok (Drop s)

-- a read has room for any frame
abbrev pub reads : List (List ℕ) → Result Call LineFault
reads fs = do
  f ← one fs
  node ← number f
  n ← below (2 ^ 32) node
  Ok (Read n 2048)

abbrev pub usages : Bool → List (List ℕ) → Result ℕ LineFault
usages pages fs = do
  f ← one fs
  node ← number f
  n ← below (2 ^ 32) node
  given pages fault.Page n

-- what is asked for where the fields are right
abbrev pub opened : Result (KindLetter × ℕ) LineFault → Result Ask LineFault
opened r = r >>= (λ a. Ok (ask.Open a.0 a.1))

abbrev pub called : Result Call LineFault → Result Ask LineFault
called r = r >>= (λ call. Ok (ask.Call call))

abbrev pub used : Result ℕ LineFault → Result Ask LineFault
used r = r >>= (λ node. Ok (ask.Usage node))

-- what a line asks for, by what follows its letter
abbrev pub asked_open : Stage → List ℕ → Result Ask LineFault
asked_open stage rest = opened (opening stage rest >>= opens)

abbrev pub asked_generate : Stage → List ℕ → Result Ask LineFault
asked_generate stage rest = called (calling stage rest >>= generates)

abbrev pub asked_arrive : Stage → List ℕ → Result Ask LineFault
asked_arrive stage rest = called (calling stage rest >>= arrives)

abbrev pub asked_send : Stage → List ℕ → Result Ask LineFault
asked_send stage rest = called (calling stage rest >>= sends)

abbrev pub asked_deliver : Stage → List ℕ → Result Ask LineFault
asked_deliver stage rest = called (calling stage rest >>= delivers)

abbrev pub asked_drop : Stage → List ℕ → Result Ask LineFault
asked_drop stage rest = called (calling stage rest >>= drops)

abbrev pub asked_read : Stage → List ℕ → Result Ask LineFault
asked_read stage rest = called (calling stage rest >>= reads)

abbrev pub asked_usage : Stage → List ℕ → Result Ask LineFault
asked_usage stage rest = used (calling stage rest >>= usages (has_page stage))

-- what a line asks for, by the letter that opens it: o, g, a, s, d, x, r, u
abbrev pub asked_by : Stage → ℕ → List ℕ → Result Ask LineFault
asked_by stage c rest =
    cond (c == 111) (asked_open stage rest)
    (cond (c == 103) (asked_generate stage rest)
    (cond (c == 97) (asked_arrive stage rest)
    (cond (c == 115) (asked_send stage rest)
    (cond (c == 100) (asked_deliver stage rest)
    (cond (c == 120) (asked_drop stage rest)
    (cond (c == 114) (asked_read stage rest)
    (cond (c == 117) (asked_usage stage rest)
    (Err fault.Letter))))))))

abbrev pub asked : Stage → List ℕ → Result Ask LineFault
asked stage [] = Err fault.Letter
asked stage (c ∷ rest) = asked_by stage c rest

-- a call as it is seen, wherever its bytes lie
abbrev pub seen_call : Call → Call
seen_call (Generate node reading) = Generate node reading
seen_call (Arrive node frame) = Arrive node (lent frame.now)
seen_call (Send node slot) = Send node slot
seen_call (Deliver slot node) = Deliver slot node
seen_call (Drop slot) = Drop slot
seen_call (Read node room) = Read node room

abbrev pub seen_ask : Ask → Ask
seen_ask (ask.Open kind nodes) = ask.Open kind nodes
seen_ask (ask.Call call) = ask.Call (seen_call call)
seen_ask (ask.Usage node) = ask.Usage node

-- what a request asks for, with the bytes of a room
abbrev pub ask_of : Request → List ℕ → Ask
ask_of (request.Open kind nodes) room = ask.Open kind nodes
ask_of (request.Call call) room = ask.Call (seen_call call)
ask_of (request.Arrive node count) room = ask.Call (Arrive node (lent (take count room)))
ask_of (request.Usage node) room = ask.Usage node

abbrev pub shown : Result Request LineFault → List ℕ → Result Ask LineFault
shown r room = r >>= (λ q. Ok (ask_of q room))

-- what a room holds after a line: the bytes of an arrival at its front, and else what it held
abbrev pub room_by : Ask → List ℕ → List ℕ
room_by (ask.Call (Arrive node frame)) room = frame.now ++ drop (length frame.now) room
room_by _ room = room

abbrev pub room_after : Result Ask LineFault → List ℕ → List ℕ
room_after (Ok a) room = room_by a room
room_after (Err e) room = room

-- the fields of a text, wherever it lies
abbrev pub fields_now : Result (Bor (List ℕ)) LineFault → Result (List (List ℕ)) LineFault
fields_now r = r >>= (λ text. Ok (fields text.now))
