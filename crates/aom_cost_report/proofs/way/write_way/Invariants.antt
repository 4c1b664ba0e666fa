use Rattle.std.proofs.Common.{◌≡◌, ◌-◌, ◌++◌}
use Rattle.aom_link_conditions.specs.Roles.{main_of}
use Rattle.aom_cost_report.specs.Way.{way_of, way_text}
use Rattle.aom_cost_report.proofs.way.write_way.Given as goal

abbrev pub invariant-loop : goal.invariant-loop
invariant-loop l = l.out ++ way_text l.linked l.figures.prices (l.count - l.counter) l.at ≡ l.fn.out ++ way_of l.linked l.figures.prices (main_of l.linked)
