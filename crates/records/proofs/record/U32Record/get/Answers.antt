use Rattle.std.proofs.Common.{◌≡◌, ℕ, ◌%◌, ◌^◌, ap, ◌∙◌, arith}
use Rattle.frames.specs.Numbers.{from_bytes}
use Rattle.records.specs.Records.{of_width, numbers}
use Rattle.records.proofs.Layouts.{got_sized}
use Rattle.records.proofs.record.U32Record.get.Goals as goal

pub returns : goal.returns
returns c =
    let n = from_bytes (of_width (numbers 4) c.args.bytes.now) in
    let low : n % 2 ^ 64 % 2 ^ 32 ≡ n % 2 ^ 32 = omega arith in
    let got = got_sized 4 c.args.bytes.now (c.get_sized.result % 2 ^ 32) c.get_sized.ensures.small (ap (λ (m : ℕ). m % 2 ^ 32) c.get_sized.ensures.value ∙ low) in
    record { whole = got.0; value = got.1 }
