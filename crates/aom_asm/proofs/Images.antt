-- What a text denotes is a well-formed image.
use Rattle.std.proofs.Common.{◌≡◌, ℕ, List, Ok}
use Rattle.aom_image.specs.Image.{Image}
use Rattle.aom_image.specs.WellFormed.{WellFormed}
use Rattle.aom_asm.proofs.SyntaxLemmas.{class_within, header_within, heading_within, instruction_within}
use Rattle.aom_asm.specs.Denoted.{denoted}
use Rattle.aom_asm.proofs.WellRead.{text_well}

pub reads_well : (text : List ℕ) (i : Image) → denoted text ≡ Ok i → WellFormed i
reads_well text i is =
    text_well (λ scope strict. (header_within scope strict).each)
    (λ scope version natives place servers. (class_within scope version natives place servers).each)
    (λ before natives scope version settled place. (heading_within before natives scope version settled place).each)
    (λ scope version strict labels place. (instruction_within scope version strict labels place).each) text i is
