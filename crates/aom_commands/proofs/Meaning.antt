-- What was assembled or listed is what a text denotes, by the law that joins reading and meaning.
use Rattle.std.proofs.lemmas.Bool.Decides.{nat_tests}
use Rattle.std.proofs.Common.{arith, ◌≡◌, ◌≢◌, ℕ, List, Ok, Err, sym, ◌∙◌}
use Rattle.aom_text.specs.declared.fault.AsmFault.{AsmFault}
use Rattle.aom_text.specs.declared.fault.AsmFaultKind.{AsmFaultKind}
use Rattle.aom_text.specs.declared.fault.AsmFaultKind.TheVariants as kinds
use Rattle.aom_image.specs.Image.{Image}
use Rattle.aom_codec.specs.Serialization.{serialize}
use Rattle.aom_image.specs.WellFormed.{WellFormed}
use Rattle.aom_asm.specs.Denoted.{denoted}
use Rattle.aom_commands.proofs.AsmLemmas.{no_ok}
use Rattle.aom_disassembler.specs.Listing.{listing_text}
use Rattle.aom_commands.proofs.AsmSemanticsLemmas.{denotes_read, listing_assembles, read_denotes}
use Rattle.aom_commands.specs.Status.{of_asm, of_asm_kind}
use Rattle.aom_commands.specs.Assembly.{IsFaulty, Lists, Makes, RefusesText}

pub makes : (text bytes : List ℕ) (i : Image) → denoted text ≡ Ok i → bytes ≡ serialize i → Makes text bytes
makes text bytes i read serialized = record { image = i; denotes = read_denotes text i read; serialization = serialized }

pub means_nothing : (text : List ℕ) (fault : AsmFault) → denoted text ≡ Err fault → IsFaulty text fault
means_nothing text fault is = record { meaningless = λ i d. no_ok fault i (sym is ∙ denotes_read text i d); first = is }

-- a fault is the text's first, unless it is that memory was wanting
no_image_of : (text : List ℕ) (fault : AsmFault) (kind : AsmFaultKind) → (kind ≢ kinds.OutOfMemory → denoted text ≡ Err fault) →
    RefusesText text (of_asm_kind fault kind)
no_image_of text fault kind is = grind (arith, nat_tests, means_nothing text fault)

pub no_image : (text : List ℕ) (fault : AsmFault) → (fault.kind ≢ kinds.OutOfMemory → denoted text ≡ Err fault) → RefusesText text (of_asm fault)
no_image text fault is = no_image_of text fault fault.kind is

pub lists : (bytes text : List ℕ) (i : Image) → WellFormed i → bytes ≡ serialize i → text ≡ listing_text i → Lists bytes text
lists bytes text i formed serialized listed = search (arith, nat_tests, read_denotes, listing_assembles i formed)
