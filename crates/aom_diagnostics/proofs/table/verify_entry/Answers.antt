-- Each fault has its own texts.
use Rattle.std.proofs.Common.{ap, rules, sym}
use Rattle.aom_diagnostics.specs.Table.{verify_texts}
use Rattle.aom_diagnostics.proofs.table.verify_entry.Goals as goal

pub returns-in-IssuedAtLeave : goal.returns-in-IssuedAtLeave
returns-in-IssuedAtLeave c = search rules

pub returns-in-NotFresh : goal.returns-in-NotFresh
returns-in-NotFresh c = sym (ap verify_texts c.in-NotFresh.is)
