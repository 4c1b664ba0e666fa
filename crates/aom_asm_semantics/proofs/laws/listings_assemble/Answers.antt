use Rattle.aom_asm_semantics.proofs.Assembling.{listing_assembles}
use Rattle.aom_asm_semantics.proofs.laws.listings_assemble.Goals as goal

pub returns : goal.returns
returns c = listing_assembles
