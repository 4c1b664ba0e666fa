-- The line of want of memory begins where the word has ended.
use Rattle.std.proofs.Common.{refl}
use Rattle.aom_diagnostic_commands.proofs.one_line.report_other_plainly.Goals as goal

pub returns : goal.returns
returns g c =
    let written = c.write_text.ensures in
    record {
      line = _;
      begins = refl;
      reported = record { count = written.prefix.0; part = written.prefix.2; whole = written.whole };
      memory = c.report.ensures.1;
    }
