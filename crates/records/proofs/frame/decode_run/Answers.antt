use Rattle.std.proofs.Common.{◌≡◌, ℕ, true, ltb, ◌+◌, ◌-◌, ◌*◌, ◌^◌, ◌<◌, ◌≤◌, length, take, None, sym, ap, ◌∙◌, arith, rules}
use Rattle.std.proofs.lemmas.List.{length-take}
use Rattle.std.proofs.lemmas.Bool.{ltb-true, and_parts}
use Rattle.runs.specs.Runs.{first_fall}
use Rattle.runs.proofs.Forms.{fall_inside, rising_if_none}
use Rattle.records.specs.Records.{Layout}
use Rattle.records.specs.RecordFrames.{end_of, fits_frame}
use Rattle.records.specs.RunKind.{rising_or, in_order}
use Rattle.records.proofs.RecordFrames.{end_mono}
use Rattle.records.proofs.frame.decode_run.Given as given
use Rattle.records.proofs.frame.decode_run.Goals as goal
use Rattle.records.proofs.frame.decode_run.Goals.{In-Some}

-- the place of a record that does not rise is within a frame that the records fit
fall_fits : {E : Type 0} (l : Layout E) (i n v : ℕ) → i < n → fits_frame l n ≡ true → v ≡ l.width → 4 + i * v < 65536
fall_fits l i n v lt fits same =
    let short = ltb-true (end_of l n) 65536 (and_parts (ltb n 256) (ltb (end_of l n) 65536) fits).1 in
    let m = end_mono l i n (omega arith) in
    let q : i * v ≡ i * l.width = ap (λ (k : ℕ). i * k) same in
    omega arith

-- the place of the record that does not rise
fall_place : (g : given.Over) (c : In-Some g) → 4 + c.in-Some.i * c.width-width.result < 65536
fall_place g c =
    let n = c.in_ok-count.count in
    let items = take (n - 0) c.decode_records.new.out in
    let few : length items ≤ n = simp length-take (omega arith) in
    let lt = fall_inside g.E.Ord.cmp items c.in-Some.i (sym c.in-Some.ensures) in
    fall_fits g.E.Record.layout c.in-Some.i n c.width-width.result (omega arith) c.in_ok-count.ensures.fits c.width-width.ensures

pub overflow_mul-i : goal.overflow_mul-i
overflow_mul-i g c =
    let fits = fall_place g c in
    let lt : c.in-Some.i * c.width-width.result < 2 ^ 64 = omega arith in
    search rules

pub overflow_add-i : goal.overflow_add-i
overflow_add-i g c = let fits = fall_place g c in search rules

pub returns-clause-answer : goal.returns-clause-answer
returns-clause-answer g c =
    let order = g.E.Ord.cmp in
    let layout = g.E.Record.layout in
    let most = length c.args.out.now in
    let p = c.in_ok-count.ensures in
    let n = c.in_ok-count.count in
    let after = c.decode_records.new.out in
    let items = take n after in
    let z : n - 0 ≡ n = omega arith in
    let none : first_fall order items ≡ None = sym (c.in_default.ensures ∙ ap (λ (k : ℕ). first_fall order (take k after)) z) in (
      p.within,
      ap (in_order c.args.kind most layout order) p.reads ∙ ap (rising_or c.args.kind most layout order items) none,
      rising_if_none order items none,
      p.back,
      p.rest,
    )
