use Rattle.std.proofs.Common.{ℕ, ◌-◌, ◌≤◌, List, length, take, length-append, length-take, length-drop, sym, subst, arith}
use Rattle.std.specs.Io.KnownBytes.{Consumes}
use Rattle.std.proofs.KnownBytes.{Consumes-trans}
use Rattle.session.proofs.Filling.{front_read}
use Rattle.session.proofs.stream.fill.Goals as goal

pub loop-at-preserved : goal.loop-at-preserved
loop-at-preserved g c =
    let l = c.loop-at in
    let n = c.in_ok-count.count in
    let w = c.in_ok-count.ensures in
    let part = length l.buffer - l.at in
    let a = g.R.Read.remaining c.args.reader.now in
    let b = g.R.Read.remaining c.read.new.self in
    let fits : n ≤ length c.read.new.buf = w.bound.0 in
    record {
      taken = subst (λ (xs : List ℕ). Consumes a b xs) (sym (front_read l.at part n l.buffer c.read.new.buf l.invariant.within fits)) (Consumes-trans a (g.R.Read.remaining l.reader) b (take l.at l.buffer) (take n c.read.new.buf) l.invariant.taken w.bytes.0);
      within = simp (length-append, length-take, length-drop) (omega arith);
    }
