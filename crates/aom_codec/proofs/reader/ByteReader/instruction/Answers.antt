-- The opcode is read, then operands of the kinds that it asks, and the instruction is made of both.
use Rattle.std.proofs.Common.{refl}
use Rattle.aom_codec.proofs.reader.ByteReader.instruction.Goals as goal

pub returns : goal.returns
returns c =
    let read = rw (c.kinds.ensures, c.row-row.ensures) at c.in_ok-operands.ensures in
    rw (c.in_ok-mnemonic.ensures, c.make.ensures) (rw read refl)
