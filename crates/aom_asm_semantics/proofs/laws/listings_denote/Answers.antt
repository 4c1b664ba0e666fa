use Rattle.aom_disassembler.specs.Listing.{listing_text}
use Rattle.aom_asm_semantics.proofs.Assembling.{listing_assembles}
use Rattle.aom_asm_semantics.proofs.Denoting.{read_denotes}
use Rattle.aom_asm_semantics.proofs.laws.listings_denote.Goals as goal

pub returns : goal.returns
returns c i formed quiet short = read_denotes (listing_text i) i (listing_assembles i formed quiet short)
