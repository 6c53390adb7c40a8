use Rattle.std.proofs.Common.{◌≡◌, [], ◌∷◌, length, sym, ap, ◌∙◌, arith}
use Rattle.std.proofs.lemmas.List.{take_all}
use Rattle.readings.specs.Readings.{mark_of}
use Rattle.figures.proofs.Table.{table}
use Rattle.figures.proofs.Worked.{worked}
use Rattle.figures.proofs.Scripted.{worked_script}
use Rattle.figures.proofs.figures.Goals as goal

pub returns : goal.returns
returns c =
    let hash : c.mix-hash_of_0.result ≡ 0xE220A8397B1DCDAF = c.mix-hash_of_0.ensures in
    let mark : c.mark.result ≡ (47, 1) = c.mark.ensures ∙ ap mark_of hash ∙ table.mark_of_that in
    let zero : c.mark-2.result ≡ (0, 31) = c.mark-2.ensures ∙ table.mark_of_0 in
    let count : c.union.result ≡ 2 = c.union.ensures.count in
    let long : length c.union.new.out ≡ 2 = c.union.auto.out in
    let two : c.union.new.out ≡ 1 ∷ 2 ∷ [] = sym (take_all c.union.result c.union.new.out (omega (arith, count, long))) ∙ c.union.ensures.value in
    let low : c.lowest_zero.result ≡ 0 = c.lowest_zero.ensures.value ∙ table.lowest_zeros.0 in
    let seven : c.lowest_zero-2.result ≡ 3 = c.lowest_zero-2.ensures.value ∙ table.lowest_zeros.1 in
    let ones : c.lowest_zero-3.result ≡ 32 = c.lowest_zero-3.ensures.value ∙ table.lowest_zeros.2 in
    record {
      calls = λ i. record {
        hash_of_0 = hash i;
        mark_of_that = mark i;
        mark_of_0 = zero i;
        two_least = two i;
        lowest_zeros = low i ∷ seven i ∷ ones i ∷ [];
        lengths = c.greatest_lengths.ensures i;
      };
      definitions = table;
      example = worked;
      script = worked_script;
    }
