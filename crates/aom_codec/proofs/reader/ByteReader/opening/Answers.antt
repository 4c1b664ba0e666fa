-- First the counts are read, and then what stands behind them.
use Rattle.std.proofs.Common.{refl}
use Rattle.aom_codec.proofs.reader.ByteReader.opening.Goals as goal

pub returns-clause-read : goal.returns-clause-read
returns-clause-read c =
    rw (c.in_ok-expect_u32.ensures, c.in_ok-version.ensures, c.in_ok-classes.ensures.read, c.in_ok-methods.ensures.read, c.in_ok-header.ensures.read)
    (rw (← c.in_ok-header.ensures.version) refl)
