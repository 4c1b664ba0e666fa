use Rattle.std.proofs.Common.{◌∙◌, ap}
use Rattle.aom_instructions.specs.Operands.{place_said}
use Rattle.aom_disassembler.proofs.Targets.{none_said}
use Rattle.aom_disassembler.proofs.jumps.jump_of.Goals as goal

pub returns-in_default : goal.returns-in_default
returns-in_default c = none_said _ c.in_default.not-Place ∙ ap (λ o. place_said o.d) c.operands-d.ensures
