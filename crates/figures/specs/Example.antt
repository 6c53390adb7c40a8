-- A worked list of turns on a network of two nodes of least values: a frame carries what its sender held when it was
-- sent, and not what the sender holds now.
use Rattle.std.specs.Prelude.{◌≡◌, ℕ, List, [], ◌∷◌, None}
use Rattle.least.specs.declared.row.LeastValues.{LeastValues}
use Rattle.least.specs.Least.{least_kind, least_form}
use Rattle.histories.specs.declared.Call.{Call}
use Rattle.histories.specs.declared.Call.TheVariants.{Generate, Send, Deliver, Read}
use Rattle.histories.specs.declared.Turn.{Turn}
use Rattle.histories.specs.Deeds.{History}
use Rattle.histories.specs.Paths.{Reaches}
use Rattle.diffusion.specs.Turns.{Told, done, bytes, refused}
use Rattle.diffusion.specs.Runs.{Rack, Opened, Ran}
use Rattle.diffusion.specs.Owed.{due, past}

-- a turn that is lent all that it needs
abbrev turn : Call → Turn
turn call = record { values = 2; bytes = 65536; call = call }

abbrev pub six_turns : List Turn
six_turns =
    turn (Generate 0 (record { tenant = 7; item = 0; amount = 500 })) ∷ turn (Send 0 3) ∷ turn (Generate 0 (record { tenant = 7; item = 9; amount = 900 }))
    ∷ turn (Deliver 3 1) ∷ turn (Read 1 2048) ∷ turn (Deliver 4 1) ∷ []

-- the fifth reads the first client alone, and the sixth finds a free slot
abbrev pub six_answers : List Told
six_answers =
    done ∷ done ∷ done ∷ done ∷ bytes (0x02 ∷ 0x01 ∷ 0x00 ∷ 0x0C ∷ 0xE2 ∷ 0x20 ∷ 0xA8 ∷ 0x39 ∷ 0x7B ∷ 0x1D ∷ 0xCD ∷ 0xAF ∷ []) ∷ refused 6 None ∷ []

abbrev pub six_deeds : History
six_deeds = past least_kind 2 [] six_turns

pub record Example : Type 0 where
  -- whoever makes these turns gets these answers, whatever the values and the memory held
  pub made : (values : List LeastValues) (memory : List ℕ) (first last : Rack LeastValues) (answers : List Told) (h : History) → Opened least_kind least_form 2 values memory first → Ran least_kind least_form first six_turns answers h last → answers ≡ six_answers
  -- by the definitions of paths alone
  pub answers : due least_kind 2 [] six_turns ≡ six_answers
  -- the contribution of turn 1 has a path to node 1, that of turn 3 has none
  pub first : Reaches six_deeds 1 1
  pub second : Reaches six_deeds 3 1 → ⊥
