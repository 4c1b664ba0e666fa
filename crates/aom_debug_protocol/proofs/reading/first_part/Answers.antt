-- The first dot parts what stands before it from what stands behind it.
use Rattle.std.proofs.Common.{sym}
use Rattle.aom_debug_protocol.proofs.TextLemmas.{split_none, split_some}
use Rattle.aom_debug_protocol.specs.Ways.{is_dot}
use Rattle.aom_debug_protocol.proofs.reading.first_part.Goals as goal

pub returns-in-Some-clause-parts : goal.returns-in-Some-clause-parts
returns-in-Some-clause-parts c = split_some is_dot c.args.bytes.now c.in-Some.at (sym c.in-Some.ensures.value)

pub returns-in-None-clause-parts : goal.returns-in-None-clause-parts
returns-in-None-clause-parts c = split_none is_dot c.args.bytes.now (sym c.in-None.ensures.value)
