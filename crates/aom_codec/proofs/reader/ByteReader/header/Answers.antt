-- The fields are read one after the other.
use Rattle.std.proofs.Common.{refl, rules}
use Rattle.aom_codec.proofs.reader.ByteReader.header.Goals as goal

pub returns-in_err-fixed_byte-clause-read : goal.returns-in_err-fixed_byte-clause-read
returns-in_err-fixed_byte-clause-read c = search rules

pub returns-clause-read : goal.returns-clause-read
returns-clause-read c = rw (
  c.in_ok-cells.ensures.read,
  c.in_ok-messages.ensures.read,
  c.in_ok-natives.ensures.read,
  c.in_ok-fixed_byte.ensures,
  c.in_ok-root.ensures,
  c.in_ok-expect_u16.ensures,
  c.in_ok-budget.ensures,
) refl
