use Rattle.arrayvec.specs.declared.array_string.ArrayString.{ArrayString}
use Rattle.session.specs.Answers.{said_tells}
use Rattle.session.proofs.Saying.{said, said_as, refusal_line}
use Rattle.session.proofs.answer.OutputLine.say.Goals as goal

pub returns-in-Some-clause-text : goal.returns-in-Some-clause-text
returns-in-Some-clause-text c = said_as (λ (t : ArrayString 4118). t.bytes) c.write.result _ _ _ _ c.clear.ensures c.write.ensures.writes (refusal_line c.args.self.now.number c.in-Some.why (said_tells c.args.said) c.in-Some.ensures)

pub returns-clause-text : goal.returns-clause-text
returns-clause-text c = said (λ (t : ArrayString 4118). t.bytes) c.write-2.result _ _ _ c.clear.ensures c.write-2.ensures.writes
