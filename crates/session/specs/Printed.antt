-- What is printed for the bytes of an input.
use Rattle.std.specs.Prelude.{ℕ, ◌+◌, cond, List, [], ◌∷◌, ◌++◌, codes, length, nat_lt}
use Rattle.std.specs.Fmt.{decimal}
use Rattle.hex.specs.Hex.{encode_upper}
use Rattle.script.specs.Faults.{where_text}
use Rattle.diffusion.specs.Turns.{Told, done, bytes, refused}
use Rattle.script.specs.Lines.{lines}
use Rattle.session.specs.Standing.{closed, answers}

-- an answer: ok, bytes as capital hex pairs, or no and the number
abbrev pub told_text : Told → List ℕ
told_text done = codes "ok"
told_text (bytes bs) = encode_upper bs
told_text (refused number at) = codes "no " ++ decimal number ++ where_text at

-- a line of output, and the lines from a number on
abbrev pub line_text : ℕ → Told → List ℕ
line_text n w = decimal n ++ (codes " " ++ (told_text w ++ codes "\n"))

abbrev pub printed_from : ℕ → List Told → List ℕ
printed_from n [] = []
printed_from n (w ∷ more) = line_text n w ++ printed_from (n + 1) more

-- how many bytes an input has at most
abbrev pub longest_input : ℕ
longest_input = 65536

abbrev pub printed : List ℕ → List ℕ
printed input = cond (nat_lt longest_input (length input)) (codes "0 no 25\n") (printed_from 1 (answers closed (lines input)))
