use Rattle.std.proofs.Common.{◌≡◌, ◌<◌, ◌^◌, take}
use Rattle.aom_source_tokens.specs.Numbers.{hexadecimal_value}
use Rattle.aom_source_tokens.proofs.lexeme.hexadecimal_value.Given as goal

abbrev pub invariant-loop-byte : goal.invariant-loop-byte
invariant-loop-byte l = record {
  so_far : l.value ≡ hexadecimal_value (take l.byte-index l.digits);
  small : l.value < 2 ^ 32;
}
