-- What was written went out whole, or the failure is left to be told.
use Rattle.std.proofs.Common.{◌∙◌, refl, sym, inl}
use Rattle.aom_diagnostic_commands.proofs.CommandsLemmas.{cut}
use Rattle.aom_diagnostic_commands.proofs.commands.try_send.Goals as goal

pub returns-then-has_failed : goal.returns-then-has_failed
returns-then-has_failed g c =
    let written = c.write_text.ensures in
    λ errors status reported. cut c.args.bytes.now _ errors status
    (sym c.has_failed.ensures ∙ c.if-has_failed.true) (record { count = written.prefix.0; part = written.prefix.2; whole = written.whole }) reported

pub returns : goal.returns
returns g c = λ errors silent. inl (refl, c.write_text.ensures.whole (sym c.has_failed.ensures ∙ c.if-has_failed.false), silent)
