use Rattle.std.proofs.Common.{rules}
use Rattle.aom_asm.proofs.Images.{reads_well}
use Rattle.aom_asm.proofs.assembling.assemble.Goals as goal

pub into_image-image-requires : goal.into_image-image-requires
into_image-image-requires c = reads_well c.args.text.now _ c.in_ok-read_text.ensures

pub returns-clause-fault : goal.returns-clause-fault
returns-clause-fault c = search rules
