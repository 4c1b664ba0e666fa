use Rattle.std.proofs.Common.{◌≡◌, ◌++◌}
use Rattle.aom_cost_report.specs.Text.{by_number, method_line}
use Rattle.aom_cost_report.proofs.writer.FigureWriter.methods.Given as goal

abbrev pub invariant-loop-index : goal.invariant-loop-index
invariant-loop-index l = l.self ≡ l.fn.self ++ by_number (method_line l.names l.figures) l.index
