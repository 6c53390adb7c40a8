use Rattle.std.proofs.Common.{◌≡◌, [], Ok, Err, refl}
use Rattle.diffusion.specs.Turns.{done, refusal}
use Rattle.script.specs.Lines.{lines}
use Rattle.session.specs.Owing.{opens}
use Rattle.session.proofs.Written.{after_error}
use Rattle.session.proofs.Opening.{told_by_open, opened_session, first_said, line_and_more}
use Rattle.session.proofs.replay.open.Goals as goal

pub returns-in_err-put_line-in-Ok : goal.returns-in_err-put_line-in-Ok
returns-in_err-put_line-in-Ok g c =
    let k = g.S.Synopsis.kind in
    let r = c.from_residual in
    let told : done ≡ opens k c.args.nodes = told_by_open k c.args.nodes _ _ (Ok tt) c.requires.nodes c.requires.slots c.in-Ok.ensures.answer in
    let w = c.in_err-put_line-in-Ok.ensures in
    after_error r.result _ _ _ _ _ r.ensures.0 (first_said k g.S.Paged.page c.args.nodes c.args.number (lines c.args.left.now) (g.W.Write.contents c.args.writer.now) (g.W.Write.contents c.put_line.new.writer) done w.0 told w.1)

pub returns-in_err-play-in-Ok : goal.returns-in_err-play-in-Ok
returns-in_err-play-in-Ok g c =
    let k = g.S.Synopsis.kind in
    let r = c.from_residual-in_err-play-in-Ok in
    let e = c.in-Ok.ensures in
    let told : done ≡ opens k c.args.nodes = told_by_open k c.args.nodes _ _ (Ok tt) c.requires.nodes c.requires.slots e.answer in
    let w = c.in_err-play-in-Ok.ensures c.args.nodes (opened_session k g.S.Synopsis.form c.args.nodes c.open.new.self c.args.values.now c.open.new.values c.args.memory.now e.answer e.table e.after) in
    after_error r.result _ _ _ _ _ r.ensures.0 (line_and_more k g.S.Paged.page c.args.nodes c.args.number (lines c.args.left.now) (g.W.Write.contents c.args.writer.now) (g.W.Write.contents c.put_line.new.writer) (g.W.Write.contents c.play.new.writer) done w.0 told refl c.in_ok-put_line-in-Ok.ensures w.1)

pub returns-in_ok-play-in-Ok : goal.returns-in_ok-play-in-Ok
returns-in_ok-play-in-Ok g c =
    let k = g.S.Synopsis.kind in
    let e = c.in-Ok.ensures in
    let told : done ≡ opens k c.args.nodes = told_by_open k c.args.nodes _ _ (Ok tt) c.requires.nodes c.requires.slots e.answer in
    let w = c.in_ok-play-in-Ok.ensures c.args.nodes (opened_session k g.S.Synopsis.form c.args.nodes c.open.new.self c.args.values.now c.open.new.values c.args.memory.now e.answer e.table e.after) in
    line_and_more k g.S.Paged.page c.args.nodes c.args.number (lines c.args.left.now) (g.W.Write.contents c.args.writer.now) (g.W.Write.contents c.put_line.new.writer) (g.W.Write.contents c.play.new.writer) done [] told refl c.in_ok-put_line-in-Ok.ensures w

pub returns-in_err-put_line-in-Err : goal.returns-in_err-put_line-in-Err
returns-in_err-put_line-in-Err g c =
    let k = g.S.Synopsis.kind in
    let r = c.from_residual-in_err-put_line-in-Err in
    let told : refusal c.in-Err.fault ≡ opens k c.args.nodes = told_by_open k c.args.nodes _ _ (Err c.in-Err.fault) c.requires.nodes c.requires.slots c.in-Err.ensures.answer in
    let w = c.in_err-put_line-in-Err.ensures in
    after_error r.result _ _ _ _ _ r.ensures.0 (first_said k g.S.Paged.page c.args.nodes c.args.number (lines c.args.left.now) (g.W.Write.contents c.args.writer.now) (g.W.Write.contents c.put_line-in-Err.new.writer) (refusal c.in-Err.fault) w.0 told w.1)
