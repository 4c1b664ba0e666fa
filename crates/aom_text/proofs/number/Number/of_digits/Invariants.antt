use Rattle.std.proofs.Common.{◌≡◌, ◌≤◌, ◌^◌, take, true}
use Rattle.std.specs.List.{list_all}
use Rattle.aom_text.specs.Numbers.{digits_size, is_digit, most}
use Rattle.aom_text.proofs.number.Number.of_digits.Given as goal

abbrev pub invariant-loop-digit : goal.invariant-loop-digit
invariant-loop-digit l = record {
  digits : list_all is_digit (take l.digit-index l.digits) ≡ true;
  size : l.size ≡ most (digits_size (take l.digit-index l.digits));
  bounded : l.size ≤ 2 ^ 50;
}
