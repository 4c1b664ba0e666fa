use Rattle.std.proofs.Common.{arith}
use Rattle.aom_source_tokens.proofs.Values.{past, decimal_grows, decimal_past}
use Rattle.aom_source_tokens.specs.Numbers.{decimal_more}
use Rattle.aom_source_tokens.proofs.lexeme.decimal_value.Goals as goal

pub returns-then-value : goal.returns-then-value
returns-then-value c = past decimal_more decimal_grows c.args.digits.now c.loop-byte.byte-index c.loop-byte.value (omega arith) c.loop-byte.invariant.so_far
    (decimal_past _ _ c.if-byte-ne95.true (omega arith))
