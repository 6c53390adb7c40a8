use Rattle.std.proofs.Common.{◌≡◌, ◌+◌, ◌*◌, ◌<◌, length, sym, ◌∙◌, arith}
use Rattle.std.proofs.lemmas.Bool.{cond-true}
use Rattle.synopsis.proofs.Fits.{fitted_not, over_not}
use Rattle.records.specs.RecordFrames.{fits_frame, frame_of}
use Rattle.records.proofs.RecordFrames.{length_of_frame}
use Rattle.records.proofs.frame.encode_records.Goals as goal

pub returns-then-out-end : goal.returns-then-out-end
returns-then-out-end g c =
    let layout = g.E.Record.layout in
    let items = c.args.items.now in
    let out = c.args.out.now in
    let frame = frame_of c.args.kind layout items in
    let fits = c.in-Some.ensures in
    let long : length frame ≡ 4 + length items * layout.width = length_of_frame layout g.met.E.Record.readable c.args.kind items in
    let lt : length out < length frame = omega (arith, c.if-out-end.true, long, c.from-end.ensures, fits.2) in
    record {
      answer = fitted_not frame (length out) lt ∙ sym (cond-true (fits_frame layout (length items)) _ _ fits.0);
      after = over_not frame out lt ∙ sym (cond-true (fits_frame layout (length items)) _ _ fits.0);
    }
