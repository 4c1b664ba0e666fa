-- The bytes that are sent are the fault's line.
use Rattle.std.proofs.Common.{◌∙◌}
use Rattle.aom_commands.proofs.Untelling.{says_same}
use Rattle.aom_commands.proofs.faults.report.Goals as goal

pub returns : goal.returns
returns g c =
    let written = c.write_text.ensures in
    (c.status.ensures, says_same c.as_bytes.result.now _ _ (c.as_bytes.ensures ∙ c.fault_line-line.ensures) (record { count = written.prefix.0; part = written.prefix.2; whole = written.whole }))
