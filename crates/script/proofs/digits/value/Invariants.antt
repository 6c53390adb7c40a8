use Rattle.std.proofs.Common.{◌≡◌, ◌<◌, ◌^◌, true, drop}
use Rattle.std.specs.Char.{is_ascii_digit}
use Rattle.std.specs.List.{list_all}
use Rattle.script.specs.Fields.{value_after, value}
use Rattle.script.proofs.digits.value.Given as goal

-- the digits that are left complete the number
abbrev pub invariant-loop-digit : goal.invariant-loop-digit
invariant-loop-digit l = record {
  rest : value_after l.number (drop l.digit-index l.digits) ≡ value l.digits;
  digits : list_all is_ascii_digit l.digits ≡ true;
  fits : l.number < 2 ^ 64;
}
