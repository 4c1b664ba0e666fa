-- The text of a listing denotes its image.
use Rattle.std.proofs.lemmas.Bool.Decides.{nat_tests}
use Rattle.std.proofs.Common.{arith, ◌≡◌, ◌≤◌, ◌^◌, length, Ok}
use Rattle.std.proofs.lemmas.Bool.{le-leb}
use Rattle.aom_image.specs.Image.{Image}
use Rattle.aom_image.specs.WellFormed.{WellFormed}
use Rattle.aom_disassembler.specs.Listing.{listing_text}
use Rattle.aom_asm_semantics.proofs.DisassemblerLemmas.{listing_splits, words_placed}
use Rattle.aom_asm.specs.Denoted.{denoted}
use Rattle.aom_asm_semantics.specs.Texts.{AllSayQuiet}
use Rattle.aom_asm_semantics.proofs.WholesBack.{statements_denote}

pub listing_assembles : (i : Image) → WellFormed i → AllSayQuiet i → length (listing_text i) ≤ 2 ^ 20 → denoted (listing_text i) ≡ Ok i
listing_assembles i formed quiet short = search (arith, nat_tests, le-leb, listing_splits i formed, statements_denote i formed quiet, words_placed 1)
