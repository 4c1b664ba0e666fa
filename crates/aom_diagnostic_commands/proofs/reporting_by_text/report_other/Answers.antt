-- The explanation begins where the line has ended.
use Rattle.std.proofs.Common.{refl}
use Rattle.aom_diagnostic_commands.proofs.Saying.{said_or_reported}
use Rattle.aom_diagnostic_commands.proofs.reporting_by_text.report_other.Goals as goal

pub returns : goal.returns
returns g c =
    let written = c.write_text.ensures in
    record {
      line = _;
      begins = refl;
      reported = record { count = written.prefix.0; part = written.prefix.2; whole = written.whole };
      explained = said_or_reported c.other_explanation.result (λ v. v.items) _ _ c.other_explanation.ensures c.explain.ensures.ok c.explain.ensures.err;
    }
