-- The numbers of the refusals of a synopsis.
use Rattle.std.specs.Prelude.{ℕ, cond, List, [], ◌∷◌, ◌++◌, codes, ◌==◌}
use Rattle.std.specs.Fmt.{decimal}
use Rattle.synopsis.specs.declared.fault.Reason.{Reason}
use Rattle.synopsis.specs.declared.fault.Reason.TheVariants.{Overlong, Short, OtherKind, Count, End, Order, Offset}
use Rattle.synopsis.specs.declared.fault.EncodeFault.{EncodeFault}
use Rattle.synopsis.specs.declared.fault.EncodeFault.TheVariants as no_encoding
use Rattle.synopsis.specs.declared.fault.DecodeFault.{DecodeFault}

-- why bytes are refused as a frame
abbrev pub reason_number : Reason → ℕ
reason_number Overlong = 3
reason_number Short = 9
reason_number OtherKind = 10
reason_number Count = 11
reason_number End = 12
reason_number Order = 13
reason_number Offset = 14

-- why no frame is written
abbrev pub encode_number : EncodeFault → ℕ
encode_number no_encoding.Overlong = 3
encode_number no_encoding.Room = 8

-- the case among some that has this number; the last one stands for every other number
abbrev pub numbered : {A : Type 0} → (A → ℕ) → List A → A → ℕ → A
numbered number [] last n = last
numbered number (case ∷ cases) last n = cond (number case == n) case (numbered number cases last n)

-- the refusals by their numbers
abbrev pub reason_of : ℕ → Reason
reason_of n = numbered reason_number (Overlong ∷ Short ∷ OtherKind ∷ Count ∷ End ∷ Order ∷ []) Offset n

abbrev pub encode_fault_of : ℕ → EncodeFault
encode_fault_of n = numbered encode_number (no_encoding.Overlong ∷ []) no_encoding.Room n

abbrev pub fault : Reason → ℕ → ℕ → DecodeFault
fault why at kind = record { reason = why; place = at; kind = kind }

-- what bytes are refused with: the number of the refusal, the place where it shows, and the number of the kind
abbrev pub refusal : (number place kind : ℕ) → DecodeFault
refusal number place kind = fault (reason_of number) place kind

-- how each is written: the number of the refusal, and of bytes that are no frame the place and the kind
abbrev pub fault_text : DecodeFault → List ℕ
fault_text e = codes "number " ++ decimal (reason_number e.reason) ++ codes ", at byte " ++ decimal e.place ++ codes ", in kind " ++ decimal e.kind

abbrev pub encode_text : EncodeFault → List ℕ
encode_text e = codes "number " ++ decimal (encode_number e)
