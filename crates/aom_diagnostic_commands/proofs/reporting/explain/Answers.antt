-- The explanation goes out, or the line of want of memory.
use Rattle.aom_diagnostic_commands.proofs.Saying.{failed_err, failed_no_ok, made_no_err, made_ok, says_same}
use Rattle.aom_diagnostic_commands.proofs.reporting.explain.Goals as goal

pub returns-in-Ok : goal.returns-in-Ok
returns-in-Ok g c =
    let written = c.write_text.ensures in
    record {
      ok = made_ok c.args.said c.in-Ok.said _ c.in-Ok.is
          (says_same _ _ _ c.deref.ensures.value (record { count = written.prefix.0; part = written.prefix.2; whole = written.whole }));
      err = made_no_err c.args.said c.in-Ok.said _ c.in-Ok.is;
    }

pub returns-in-Err : goal.returns-in-Err
returns-in-Err g c = record {
  ok = failed_no_ok c.args.said c.in-Err.field-0 _ c.in-Err.is;
  err = failed_err c.args.said c.in-Err.field-0 _ c.in-Err.is c.report.ensures.1;
}
