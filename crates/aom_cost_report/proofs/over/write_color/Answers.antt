use Rattle.std.proofs.Common.{rules}
use Rattle.aom_cost_report.specs.Over.{color_text}
use Rattle.aom_cost_report.proofs.over.write_color.Goals as goal

pub returns-then-is_over : goal.returns-then-is_over
unfolding color_text
returns-then-is_over c = search rules
