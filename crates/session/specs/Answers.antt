-- What a line is answered.
use Rattle.diffusion.specs.Turns.{Told, tells}
use Rattle.session.specs.declared.answer.Said.{Said}
use Rattle.session.specs.declared.answer.Said.TheVariants as said
use Rattle.session.specs.Owing.{line_refusal}

abbrev pub said_tells : Said → Told
said_tells (said.Told a) = tells a
said_tells (said.Bad e) = line_refusal e
