use Rattle.std.proofs.Common.{◌≡◌, length, replicate, rules}
use Rattle.std.proofs.lemmas.List.{length-replicate}
use Rattle.records.proofs.Rows.{read_row}
use Rattle.records.proofs.frame.decode_row.Goals as goal

pub returns : goal.returns
returns g c =
    let e = c.in_ok-count.ensures.answer in
    let d = c.default-places.result in
    let places : length (replicate g.row.N d) ≡ g.row.N = length-replicate g.row.N d in
    let long : length c.decode_run.new.out ≡ g.row.N = search rules in
    read_row c.args.kind g.row.N g.E.Record.layout g.E.Ord.cmp g.E.Element.blank d (g.met.E.Fresh.fresh d c.default-places.ensures) c.args.frame.now c.in_ok-count.count c.decode_run.new.out long (rw places at e.0) (rw places at e.1) e.2 e.3 e.4
