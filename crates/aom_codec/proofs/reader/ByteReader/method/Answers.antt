-- The parts of a method are read one after the other, and what was read is it.
use Rattle.std.proofs.Common.{refl}
use Rattle.aom_codec.proofs.reader.ByteReader.method.Goals as goal

pub returns : goal.returns
returns c =
    rw (c.in_ok-class.ensures, c.in_ok-role.ensures, c.in_ok-flags.ensures, c.in_ok-before.ensures, c.in_ok-after.ensures, c.in_ok-count.ensures.read)
    (rw (c.in_ok-sort.ensures, c.in_ok-arguments.ensures, c.in_ok-unused_pairs.ensures, c.in_ok-gives.ensures, c.in_ok-length.ensures.read, c.in_ok-over.ensures, c.in_ok-code.ensures)
    (rw (c.from_vec.ensures, c.from_vec-2.ensures) refl))
