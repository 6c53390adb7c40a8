use Rattle.std.proofs.Common.{sym, refl, arith}
use Rattle.script.proofs.Pairing.{length-pair_bytes, one_written, all_written}
use Rattle.script.proofs.pairs.write_pairs.Goals as goal

pub loop-place-preserved : goal.loop-place-preserved
loop-place-preserved c =
    let l = c.loop-place in
    record {
      so_far = one_written c.args.pairs.now c.args.room.now l.room l.place _ l.invariant.so_far (omega arith) (omega arith) (grind (arith, c.hex_value.ensures.value, c.hex_value-in-loop-place.ensures.value));
      short = l.invariant.short;
      hex = l.invariant.hex;
    }

pub returns-clause-count : goal.returns-clause-count
returns-clause-count c = sym (length-pair_bytes c.args.pairs.now)

pub returns-clause-room : goal.returns-clause-room
returns-clause-room c = all_written c.args.pairs.now c.args.room.now c.loop-place.room _ (grind arith) refl
