use Rattle.std.proofs.Common.{arith}
use Rattle.aom_source_tokens.proofs.Values.{past, hexadecimal_grows}
use Rattle.aom_source_tokens.specs.Numbers.{hexadecimal_more}
use Rattle.aom_source_tokens.proofs.lexeme.hexadecimal_value.Goals as goal

pub returns-then-value : goal.returns-then-value
returns-then-value c = past hexadecimal_more hexadecimal_grows c.args.digits.now c.loop-byte.byte-index c.loop-byte.value (omega arith)
    c.loop-byte.invariant.so_far (omega arith)
