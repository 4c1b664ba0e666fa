use Rattle.aom_disassembler.proofs.Targets.{none_reported, reported_more}
use Rattle.aom_disassembler.proofs.jumps.targets.Goals as goal

pub loop-instr-init : goal.loop-instr-init
loop-instr-init c = none_reported

pub loop-instr-preserved : goal.loop-instr-preserved
loop-instr-preserved c = reported_more _ _ _ _ _ c.loop-instr-test.true c.instr-item.is c.mark.ensures c.loop-instr.invariant
