-- How a line is written that asks for something.
use Rattle.std.specs.Prelude.{◌≡◌, ℕ, ◌+◌, ◌/◌, ◌%◌, ◌^◌, ◌<◌, ◌≤◌, ⊤, true, cond, nat_lt, List, [], ◌∷◌, length, codes, Ok}
use Rattle.std.specs.Fmt.{decimal}
use Rattle.std.specs.List.{All, join_with_byte}
use Rattle.histories.specs.declared.Call.{Call}
use Rattle.histories.specs.declared.Call.TheVariants.{Generate, Arrive, Send, Deliver, Drop, Read}
use Rattle.script.specs.declared.ask.KindLetter.{KindLetter}
use Rattle.script.specs.declared.ask.KindLetter.TheVariants.{Bitmaps, LeastValues, Sample, Pile}
use Rattle.script.specs.declared.ask.Stage.{Stage}
use Rattle.script.specs.declared.ask.Stage.TheVariants as stage
use Rattle.script.specs.declared.ask.Ask.{Ask}
use Rattle.script.specs.declared.ask.Ask.TheVariants as ask
use Rattle.script.specs.Asking.{asked, seen_ask}

-- bytes as pairs of capital hex digits
abbrev pub hex_digit : ℕ → ℕ
hex_digit d = cond (nat_lt d 10) (d + 48) (d + 55)

abbrev pub hex_pairs : List ℕ → List ℕ
hex_pairs [] = []
hex_pairs (b ∷ rest) = hex_digit (b / 16) ∷ hex_digit (b % 16) ∷ hex_pairs rest

abbrev pub kind_letter : KindLetter → List ℕ
kind_letter Bitmaps = codes "b"
kind_letter LeastValues = codes "v"
kind_letter Sample = codes "s"
kind_letter Pile = codes "p"

-- the letter and the fields
abbrev pub call_words : Call → List (List ℕ)
call_words (Generate node r) = codes "g" ∷ decimal node ∷ decimal r.tenant ∷ decimal r.item ∷ decimal r.amount ∷ []
call_words (Arrive node frame) = codes "a" ∷ decimal node ∷ hex_pairs frame.now ∷ []
call_words (Send node slot) = codes "s" ∷ decimal node ∷ decimal slot ∷ []
call_words (Deliver slot node) = codes "d" ∷ decimal slot ∷ decimal node ∷ []
call_words (Drop slot) = codes "x" ∷ decimal slot ∷ []
call_words (Read node room) = codes "r" ∷ decimal node ∷ []

abbrev pub words : Ask → List (List ℕ)
words (ask.Open kind nodes) = codes "o" ∷ kind_letter kind ∷ decimal nodes ∷ []
words (ask.Call call) = call_words call
words (ask.Usage node) = codes "u" ∷ decimal node ∷ []

-- parted by one space
abbrev pub spelled : Ask → List ℕ
spelled a = join_with_byte 32 (words a)

-- numbers and bytes that a line can show
abbrev pub IsCallInRange : Call → Type 0
IsCallInRange (Generate node r) = (node < 2 ^ 32) × (r.tenant < 2 ^ 32) × (r.item < 2 ^ 64) × (r.amount < 2 ^ 64)
IsCallInRange (Arrive node frame) = (node < 2 ^ 32) × (1 ≤ length frame.now) × (length frame.now ≤ 2048) × All (λ b. b < 256) frame.now
IsCallInRange (Send node slot) = (node < 2 ^ 32) × (slot < 2 ^ 32)
IsCallInRange (Deliver slot node) = (slot < 2 ^ 32) × (node < 2 ^ 32)
IsCallInRange (Drop slot) = slot < 2 ^ 32
IsCallInRange (Read node room) = (node < 2 ^ 32) × (room ≡ 2048)

abbrev pub IsInRange : Ask → Type 0
IsInRange (ask.Open kind nodes) = nodes < 2 ^ 32
IsInRange (ask.Call call) = IsCallInRange call
IsInRange (ask.Usage node) = node < 2 ^ 32

-- what a stage lets a line ask for
abbrev pub Admits : Stage → Ask → Type 0
Admits stage.Closed (ask.Open kind nodes) = ⊤
Admits stage.Closed (ask.Call call) = ⊥
Admits stage.Closed (ask.Usage node) = ⊥
Admits (stage.Open pages) (ask.Open kind nodes) = ⊥
Admits (stage.Open pages) (ask.Call call) = ⊤
Admits (stage.Open pages) (ask.Usage node) = pages ≡ true

-- a line that is written is read as it was meant
abbrev pub ReadsBack : Type 0
ReadsBack = (s : Stage) (a : Ask) → Admits s a → IsInRange a → asked s (spelled a) ≡ Ok (seen_ask a)
