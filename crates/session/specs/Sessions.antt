-- A network that is served line by line.
use Rattle.std.specs.Prelude.{ℕ, List}
use Rattle.synopsis.specs.Kind.{Kind}
use Rattle.histories.specs.declared.Turn.{Turn}
use Rattle.histories.specs.Deeds.{History}
use Rattle.diffusion.specs.Turns.{Told}
use Rattle.diffusion.specs.Runs.{Rack, Opened, Ran}

-- the rack is where a run of accepted turns led, from an accepted OPEN of so many nodes, with this history
pub record After {S : Type 0} (k : Kind) (form : S → k.Form) (nodes : ℕ) (h : History) (r : Rack S) : Type 0 where
  pub values : List S
  pub memory : List ℕ
  pub first : Rack S
  pub opened : Opened k form nodes values memory first
  pub turns : List Turn
  pub told : List Told
  pub ran : Ran k form first turns told h r
