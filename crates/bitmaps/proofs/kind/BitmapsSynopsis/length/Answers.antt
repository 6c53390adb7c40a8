use Rattle.std.proofs.Common.{sym, ◌∙◌}
use Rattle.bitmaps.specs.Bitmaps.{bitmaps_form}
use Rattle.bitmaps.specs.Forms.{frame_long}
use Rattle.bitmaps.proofs.kind.BitmapsSynopsis.length.Goals as goal

pub returns : goal.returns
returns c = c.greatest_length.ensures ∙ sym (frame_long (bitmaps_form c.args.self.now))
