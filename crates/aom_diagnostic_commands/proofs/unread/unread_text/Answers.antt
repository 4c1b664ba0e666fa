-- The file's line is written behind the entry.
use Rattle.std.proofs.Common.{◌≡◌, ◌∙◌, ◌++◌, ap, ap₂}
use Rattle.aom_diagnostics.specs.Entries.{entry_text}
use Rattle.aom_diagnostics.specs.Table.{word_texts}
use Rattle.aom_diagnostics.specs.declared.word.Unnumbered.TheVariants.{File}
use Rattle.aom_diagnostic_commands.specs.Unread.{file_line}
use Rattle.aom_diagnostic_commands.proofs.unread.unread_text.Goals as goal

pub returns : goal.returns
returns c =
    let begun : c.write_entry.new.out ≡ entry_text (word_texts File) = c.in_ok-write_entry.ensures
    ∙ ap₂ (λ t e. t ++ entry_text e) c.new-out.ensures c.word_entry.ensures in
    c.into_text.ensures ∙ c.in_ok-write_file.ensures ∙ ap (λ t. t ++ file_line c.args.name.now c.args.why.now) begun
