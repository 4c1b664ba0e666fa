-- The parts of a class are read one after the other, and what was read is it.
use Rattle.std.proofs.Common.{refl}
use Rattle.aom_codec.proofs.reader.ByteReader.class.Goals as goal

pub returns : goal.returns
returns c = rw (
  c.in_ok-sort.ensures,
  c.in_ok-words.ensures.read,
  c.in_ok-count.ensures.read,
  c.in_ok-kind.ensures,
  c.in_ok-fields.ensures,
  c.in_ok-unused_pairs.ensures,
  c.in_ok-class.ensures,
  c.in_ok-class-2.ensures,
) (rw c.from_vec.ensures refl)
