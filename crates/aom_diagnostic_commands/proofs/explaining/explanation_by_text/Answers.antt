-- The place is written behind the entry.
use Rattle.std.proofs.Common.{◌≡◌, ◌∙◌, ◌++◌, ap₂, subst, sym}
use Rattle.aom_diagnostics.specs.Entries.{entry_text}
use Rattle.aom_diagnostic_commands.specs.Explained.{AddsBeside, ExplainsByText, texts_of}
use Rattle.aom_diagnostic_commands.proofs.explaining.explanation_by_text.Goals as goal

pub returns : goal.returns
returns c =
    let begun : c.write_entry.new.out ≡ entry_text (texts_of c.args.fault.now) = c.in_ok-write_entry.ensures
    ∙ ap₂ (λ t e. t ++ entry_text e) c.new-out.ensures c.entry_of.ensures in
    subst (λ said. ExplainsByText c.args.image.now c.args.text.now c.args.script.now c.args.fault.now said) (sym c.into_text.ensures)
    (subst (λ before. AddsBeside c.args.image.now c.args.text.now c.args.script.now c.args.fault.now before c.write_beside.new.out) begun c.in_ok-write_beside.ensures)
