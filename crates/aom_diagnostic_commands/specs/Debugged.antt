-- By which names a debugger tells.
use Rattle.std.specs.Prelude.{ℕ, List, Option, None, Some}
use Rattle.aom_debug_symbols.specs.NameLists.{NameLists, names_in, unnamed}
use Rattle.aom_debug_symbols.specs.declared.file.TextFile.{TextFile}

-- those of the text that the image is of, where there is one, which is told to be in that file
abbrev pub debug_names : TextFile → Option (List ℕ) → NameLists
debug_names file None = unnamed
debug_names file (Some text) = names_in file text
