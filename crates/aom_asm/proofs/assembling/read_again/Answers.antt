use Rattle.aom_asm.proofs.assembling.read_again.Goals as goal

pub returns : goal.returns
returns c = c.read_program-program.ensures
