-- A fault of a text has its line and its number.
use Rattle.std.proofs.Common.{arith, refl}
use Rattle.aom_commands.proofs.fault_line.add_fault.Goals as goal

pub returns-in-Asm-clause-text : goal.returns-in-Asm-clause-text
returns-in-Asm-clause-text c = rw (c.in-Asm.is, c.add_count-in-Asm-2.ensures.text, c.add_count-in-Asm.ensures.text, c.requires, c.number-in-Asm.ensures) refl

pub returns-in-Asm-clause-short : goal.returns-in-Asm-clause-short
returns-in-Asm-clause-short c = omega (arith, c.add_count-in-Asm-2.ensures.short, rw c.requires at c.add_count-in-Asm.ensures.short)

pub returns-in-Script-clause-text : goal.returns-in-Script-clause-text
returns-in-Script-clause-text c =
    rw (c.in-Script.is, c.add_count-in-Script-2.ensures.text, c.add_count-in-Script.ensures.text, c.requires, c.number-in-Script.ensures) refl

pub returns-in-Script-clause-short : goal.returns-in-Script-clause-short
returns-in-Script-clause-short c = omega (arith, c.add_count-in-Script-2.ensures.short, rw c.requires at c.add_count-in-Script.ensures.short)
