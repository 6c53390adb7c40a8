-- The refusals of the lines of a script, each with its number and its text.
use Rattle.std.specs.Prelude.{ℕ, List, [], ◌++◌, None, Some, Option, codes}
use Rattle.std.specs.Fmt.{decimal}
use Rattle.network.specs.declared.fault.NetworkFault.{NetworkFault}
use Rattle.network.specs.Faults.{fault_number, fault_at}
use Rattle.script.specs.declared.fault.LineFault.{LineFault}
use Rattle.script.specs.declared.fault.LineFault.TheVariants.{Letter, Form, Great, Stage, Page}
use Rattle.script.specs.declared.fault.ScriptReason.{ScriptReason}
use Rattle.script.specs.declared.fault.ScriptReason.TheVariants.{Line, Network}
use Rattle.script.specs.declared.fault.ScriptFault.{ScriptFault}

-- why a line asks for no call
abbrev pub line_number : LineFault → ℕ
line_number Letter = 20
line_number Form = 21
line_number Great = 22
line_number Stage = 23
line_number Page = 24

abbrev pub line_text : LineFault → List ℕ
line_text e = codes "refused with " ++ decimal (line_number e)

-- why a line is refused
abbrev pub reason_number : ScriptReason → ℕ
reason_number (Line e) = line_number e
reason_number (Network e) = fault_number e

-- of bytes that are no frame also the place and the kind
abbrev pub reason_at : ScriptReason → Option (ℕ × ℕ)
reason_at (Line e) = None
reason_at (Network e) = fault_at e

abbrev pub where_text : Option (ℕ × ℕ) → List ℕ
where_text None = []
where_text (Some at) = codes " " ++ decimal at.0 ++ codes " " ++ decimal at.1

abbrev pub reason_text : ScriptReason → List ℕ
reason_text e = codes "no " ++ decimal (reason_number e) ++ where_text (reason_at e)

abbrev pub of_line : LineFault → ScriptReason
of_line e = Line e

-- the fault of a network, carried whole
abbrev pub of_network : NetworkFault → ScriptReason
of_network e = Network e

-- and which line it is
abbrev pub fault_text : ScriptFault → List ℕ
fault_text e = decimal e.line ++ (codes " " ++ reason_text e.why)
