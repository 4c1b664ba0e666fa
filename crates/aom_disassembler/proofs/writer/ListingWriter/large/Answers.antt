use Rattle.std.proofs.Common.{rules}
use Rattle.aom_disassembler.proofs.writer.ListingWriter.large.Goals as goal

pub returns-in-Method : goal.returns-in-Method
returns-in-Method c = search rules
