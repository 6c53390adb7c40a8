-- What an answer with bytes of its own tells.
use Rattle.diffusion.specs.Turns.{Told, done, bytes, refusal}
use Rattle.diffusion.specs.declared.answers.OwnedAnswer.{OwnedAnswer}
use Rattle.diffusion.specs.declared.answers.OwnedAnswer.TheVariants.{Done, Bytes, Refused}

abbrev pub owned_tells : OwnedAnswer → Told
owned_tells Done = done
owned_tells (Bytes v) = bytes v.items
owned_tells (Refused e) = refusal e
