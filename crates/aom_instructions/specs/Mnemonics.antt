-- Mnemonics.
use Rattle.std.specs.Prelude.{ℕ, ◌==◌, Bool, List, Option}
use Rattle.std.specs.List.{find}
use Rattle.std.specs.Str.{bytes_eq}
use Rattle.aom_instructions.specs.declared.mnemonic.Mnemonic.{Mnemonic}
use Rattle.aom_instructions.specs.declared.version.Version.{Version}
use Rattle.aom_instructions.specs.Table.{mnemonics, row}
use Rattle.aom_instructions.specs.Versions.{includes}

-- how each is written
abbrev pub mnemonic_text : Mnemonic → List ℕ
mnemonic_text m = (row m).text

-- an image of that version may have the instruction
abbrev pub is_in : Version → Mnemonic → Bool
is_in version m = includes version (row m).since

-- the mnemonic that a word is
abbrev pub mnemonic_of : List ℕ → Option Mnemonic
mnemonic_of word = find (λ m. bytes_eq (mnemonic_text m) word) mnemonics

-- the mnemonic of an opcode
abbrev pub with_opcode : ℕ → Option Mnemonic
with_opcode opcode = find (λ m. (row m).opcode == opcode) mnemonics
