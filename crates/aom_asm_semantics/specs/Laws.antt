-- The laws: the assembler answers what a text denotes, and a listing denotes the image that it is of.
use Rattle.std.specs.Prelude.{ℕ, ◌≡◌, ◌↔◌, ◌≤◌, ◌^◌, List, length, Ok}
use Rattle.aom_image.specs.Image.{Image}
use Rattle.aom_image.specs.WellFormed.{WellFormed}
use Rattle.aom_asm.specs.Denoted.{denoted}
use Rattle.aom_disassembler.specs.Listing.{listing_text}
use Rattle.aom_asm_semantics.specs.Texts.{AllSayQuiet}
use Rattle.aom_asm_semantics.specs.Denotes.{Denotes}

-- reading a text gives an image where the text denotes it, and only there; so a text denotes one image at most
pub record TextsDenote : Type 0 where
  pub read : (text : List ℕ) (i : Image) → (denoted text ≡ Ok i) ↔ Denotes text i
  pub one : (text : List ℕ) (i j : Image) → Denotes text i → Denotes text j → i ≡ j

-- the text of a listing denotes its image, where each method that is quiet by its role says so and the text is not too long
abbrev pub ListingsDenote : Type 0
ListingsDenote = (i : Image) → WellFormed i → AllSayQuiet i → length (listing_text i) ≤ 2 ^ 20 → Denotes (listing_text i) i
