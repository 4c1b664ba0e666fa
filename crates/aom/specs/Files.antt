-- What a call is about, by its files.
use Rattle.std.specs.Prelude.{ℕ, ◌≡◌, Bool, true, false, List, Option, None, Some}
use Rattle.aom_diagnostic_commands.specs.declared.program.Program.{Program}
use Rattle.aom_diagnostic_commands.specs.declared.program.Program.TheVariants.{Image, Text, ImageOfText}

-- an assembly text where the words say so, and else an image, with the text that is named beside it
abbrev pub IsProgramOf : (file : List ℕ) (asm : Bool) (text : Option (List ℕ)) → Program → Type 0
IsProgramOf file asm text (Image bytes) = (asm ≡ false) × (text ≡ None) × (bytes.now ≡ file)
IsProgramOf file asm text (Text source) = (asm ≡ true) × (source.now ≡ file)
IsProgramOf file asm text (ImageOfText bytes source) = (asm ≡ false) × (text ≡ Some source.now) × (bytes.now ≡ file)
