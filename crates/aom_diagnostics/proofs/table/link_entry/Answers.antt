use Rattle.std.proofs.Common.{ap, rules, sym}
use Rattle.aom_diagnostics.specs.Table.{link_texts}
use Rattle.aom_diagnostics.proofs.table.link_entry.Goals as goal

pub returns-in-NoMain : goal.returns-in-NoMain
returns-in-NoMain c = search rules

pub returns-in-ClassOrder : goal.returns-in-ClassOrder
returns-in-ClassOrder c = sym (ap link_texts c.in-ClassOrder.is)
