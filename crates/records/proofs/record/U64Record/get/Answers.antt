use Rattle.records.proofs.Layouts.{got_sized}
use Rattle.records.proofs.record.U64Record.get.Goals as goal

pub returns : goal.returns
returns c =
    let got = got_sized 8 c.args.bytes.now c.get_sized.result c.get_sized.ensures.small c.get_sized.ensures.value in
    record { whole = got.0; value = got.1 }
