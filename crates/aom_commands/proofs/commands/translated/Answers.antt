-- Each translation is what its own call says.
use Rattle.aom_commands.proofs.commands.translated.Goals as goal

pub returns-in-Asm-clause-ok : goal.returns-in-Asm-clause-ok
returns-in-Asm-clause-ok c = rw c.in-Asm.is c.assemble_bytes.ensures.ok

pub returns-in-Dis-clause-ok : goal.returns-in-Dis-clause-ok
returns-in-Dis-clause-ok c = rw c.in-Dis.is c.disassemble_bytes.ensures.ok

pub returns-in-Dot-clause-ok : goal.returns-in-Dot-clause-ok
returns-in-Dot-clause-ok c = rw c.in-Dot.is (rw c.none.ensures at c.draw_bytes.ensures.ok)

pub returns-in-Dot-clause-err : goal.returns-in-Dot-clause-err
returns-in-Dot-clause-err c = rw c.in-Dot.is c.draw_bytes.ensures.err
