-- Why not all turns of a list were made.
use Rattle.std.specs.Prelude.{List, ℕ, Some, Option}
use Rattle.network.specs.Faults.{fault_text}
use Rattle.diffusion.specs.declared.fault.RunFault.{RunFault}
use Rattle.diffusion.specs.declared.fault.RunFault.TheVariants.{Refused, Stopped}

-- how it is told: as the refusal, or as what the listener stopped with
abbrev pub run_fault_text : {E : Type 0} → (E → Option (List ℕ)) → RunFault E → Option (List ℕ)
run_fault_text text (Refused e) = Some (fault_text e)
run_fault_text text (Stopped e) = text e
