-- What a method promises is read one after the other.
use Rattle.std.proofs.Common.{rules}
use Rattle.aom_syntax.proofs.reader.WordReader.promised.Goals as goal

pub returns : goal.returns
returns c = rw (
  ← c.kind_of-kind.ensures,
  ← c.all_states.ensures.all,
  ← c.default_states-default_before.ensures.before,
  ← c.default_states-default_before.ensures.after,
  ← c.default_words.ensures,
  ← c.default_gives.ensures,
) (rw (c.in_ok-before.ensures, c.in_ok-after.ensures, c.in_ok-arguments.ensures, c.in_ok-gives.ensures, c.from_vec.ensures) (search rules))
