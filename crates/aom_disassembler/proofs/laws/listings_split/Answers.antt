use Rattle.aom_disassembler.proofs.Split.{listing_splits}
use Rattle.aom_disassembler.proofs.laws.listings_split.Goals as goal

pub returns : goal.returns
returns c = listing_splits
