use Rattle.std.proofs.Common.{Some, ap, arith}
use Rattle.usage.specs.Pages.{pile_form}
use Rattle.session.proofs.Paging.{no_fault, page_there}
use Rattle.session.proofs.kinds.StandardPilePaged.write_page.Goals as goal

pub returns-in-Ok-clause-bytes : goal.returns-in-Ok-clause-bytes
returns-in-Ok-clause-bytes c =
    let u = c.in-Ok.ensures in
    ap Some (page_there (pile_form c.args.self.now) c.args.room.now (omega arith) c.in-Ok.end c.usage.new.out u.answer u.after (u.named (pile_form c.args.self.now)))

pub returns-in-Err-clause-bytes : goal.returns-in-Err-clause-bytes
returns-in-Err-clause-bytes c = absurd (no_fault (pile_form c.args.self.now) c.args.room.now (omega arith) _ c.in-Err.ensures.answer)
