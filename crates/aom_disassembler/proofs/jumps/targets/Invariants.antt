use Rattle.std.proofs.Common.{take}
use Rattle.aom_disassembler.specs.Jumps.{Reports}
use Rattle.aom_disassembler.proofs.jumps.targets.Given as goal

abbrev pub invariant-loop-instr : goal.invariant-loop-instr
invariant-loop-instr l = Reports l.targets (take l.instr-index l.code)
