-- How far a step goes: by a line of a source, or by a step of the machine where there is no source.
use Rattle.std.specs.Prelude.{ℕ, true, false, if◌then◌else◌}
use Rattle.aom_debug_symbols.specs.NameLists.{NameLists, has_lines}
use Rattle.aom_debug_stepping.specs.declared.over.Awaited.TheVariants as scopes
use Rattle.aom_debug_stepping.specs.declared.run_goals.RunGoal.{RunGoal}
use Rattle.aom_debug_stepping.specs.declared.run_goals.RunGoal.TheVariants as course

-- so many steps; the lines of a method that is called count
abbrev pub step_course : NameLists → ℕ → RunGoal
step_course ns n = if has_lines ns then course.Lines (record { names = ns; enters = true; count = n }) else course.Steps n

-- over one, with all that it calls
abbrev pub next_course : NameLists → RunGoal
next_course ns = if has_lines ns then course.Lines (record { names = ns; enters = false; count = 1 }) else course.Over scopes.Step
