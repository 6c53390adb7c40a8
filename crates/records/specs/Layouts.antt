-- The layouts of numbers read back what they wrote, and write what they read.
use Rattle.std.specs.Prelude.{ℕ, suc, ◌<◌}
use Rattle.std.proofs.Common.{sym, ap, ◌∙◌}
use Rattle.std.proofs.lemmas.List.Elements.{recursion_from_All}
use Rattle.frames.specs.Numbers.{in_bytes, from_bytes}
use Rattle.frames.proofs.Numbers.{from_in_bytes, in_from_bytes, length_in}
use Rattle.records.specs.Records.{Readable, numbers}

pub numbers_readable : (w : ℕ) → Readable (numbers (suc w))
numbers_readable w = record {
  sized = length_in (suc w);
  back = from_in_bytes w;
  whole = λ bytes long small. ap (λ (n : ℕ). in_bytes n (from_bytes bytes)) (sym long) ∙ in_from_bytes bytes (recursion_from_All (λ b. b < 256) bytes small);
}
