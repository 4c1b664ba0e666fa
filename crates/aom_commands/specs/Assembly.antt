-- A text and the bytes of the image that it denotes, bytes and their listing, and why there is none.
use Rattle.std.specs.Prelude.{ℕ, ◌≡◌, ◌≤◌, ◌^◌, List, length, Some, Err}
use Rattle.aom_image.specs.Image.{Image}
use Rattle.aom_codec.specs.Serialization.{serialize}
use Rattle.aom_codec.specs.Format.{first_fault}
use Rattle.aom_text.specs.declared.fault.AsmFault.{AsmFault}
use Rattle.aom_asm.specs.Denoted.{denoted}
use Rattle.aom_disassembler.specs.Listing.{listing_text}
use Rattle.aom_asm_semantics.specs.Texts.{AllSayQuiet}
use Rattle.aom_asm_semantics.specs.Denotes.{Denotes}
use Rattle.aom_commands.specs.declared.faults.Fault.{Fault}
use Rattle.aom_commands.specs.declared.faults.Fault.TheVariants.{Asm, Load, Memory}
use Rattle.aom_commands.specs.Acceptable.{IsSerialized}

-- the bytes spell the image that the text denotes
pub record Makes (text bytes : List ℕ) : Type 0 where
  pub image : Image
  pub denotes : Denotes text image
  pub serialization : bytes ≡ serialize image

-- the text denotes no image, and that is its first fault
pub record IsFaulty (text : List ℕ) (fault : AsmFault) : Type 0 where
  pub meaningless : (i : Image) → Denotes text i → ⊥
  pub first : denoted text ≡ Err fault

-- why a text makes no bytes: its first fault, or memory was wanting
abbrev pub RefusesText : List ℕ → Fault → Type 0
RefusesText text (Asm fault) = IsFaulty text fault
RefusesText text Memory = Unit {0}
RefusesText text _ = ⊥

-- the text is the listing of the image that the bytes spell; and it denotes that image, where each method that is quiet by its role says so and the text is not too long
pub record Lists (bytes text : List ℕ) : Type 0 where
  pub image : Image
  pub serialized : IsSerialized bytes image
  pub listing : text ≡ listing_text image
  pub denotes : AllSayQuiet image → length text ≤ 2 ^ 20 → Denotes text image

-- why bytes make no listing: they are no image, or memory was wanting
abbrev pub RefusesBytes : List ℕ → Fault → Type 0
RefusesBytes bytes (Load fault) = first_fault bytes ≡ Some fault
RefusesBytes bytes Memory = Unit {0}
RefusesBytes bytes _ = ⊥
