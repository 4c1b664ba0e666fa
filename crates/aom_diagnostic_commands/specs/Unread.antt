-- What explains that a file cannot be read.
use Rattle.std.specs.Prelude.{ℕ, List, ◌++◌, codes}
use Rattle.aom_diagnostics.specs.Entries.{entry_text, sentence}
use Rattle.aom_diagnostics.specs.Table.{word_texts}
use Rattle.aom_diagnostics.specs.declared.word.Unnumbered.TheVariants.{File}

-- why, behind a name
abbrev pub reason_words : (why : List ℕ) → List ℕ
reason_words why = codes ": " ++ sentence why

-- which file, by the name that it was given, and why
abbrev pub file_line : (name why : List ℕ) → List ℕ
file_line name why = codes "Not read: " ++ name ++ reason_words why

-- behind what is told of such a fault
abbrev pub unread_text : (name why : List ℕ) → List ℕ
unread_text name why = entry_text (word_texts File) ++ file_line name why
