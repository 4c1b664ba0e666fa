-- The lines were said; or the bytes spell no image, or the program has none, and nothing was.
use Rattle.std.proofs.Common.{refl}
use Rattle.aom_diagnostic_commands.specs.Warned.WarnsOfScript.{said, unloaded, unread}
use Rattle.aom_diagnostic_commands.proofs.Saying.{says_same}
use Rattle.aom_diagnostic_commands.proofs.script_warned.warn_script.Goals as goal

pub returns-in-Ok-script_warned_text : goal.returns-in-Ok-script_warned_text
returns-in-Ok-script_warned_text g c =
    let written = c.write_text.ensures in
    said c.in-Ok.loaded.image c.in-Ok.loaded.text c.in-Ok-script_warned_text.text.items c.in-Ok.ensures.ok c.in-Ok-script_warned_text.ensures.ok
    (says_same _ _ _ c.deref.ensures.value (record { count = written.prefix.0; part = written.prefix.2; whole = written.whole }))

pub returns-in-Ok : goal.returns-in-Ok
returns-in-Ok g c = unread c.in-Ok.loaded.image c.in-Ok.loaded.text c.in-Err-script_warned_text.field-0 c.in-Ok.ensures.ok c.in-Err-script_warned_text.ensures.err refl

pub returns : goal.returns
returns g c = unloaded c.in-Err.field-0 c.in-Err.ensures.err refl
