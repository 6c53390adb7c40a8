use Rattle.session.proofs.Written.{nothing_yet}
use Rattle.session.proofs.replay.put_line.Goals as goal

pub returns-then-is_err : goal.returns-then-is_err
returns-then-is_err g c = (_, nothing_yet (g.W.Write.contents c.args.writer.now) _)
