use Rattle.std.proofs.Common.{ap, sym}
use Rattle.aom_roles.specs.Shapes.{gives_nothing}
use Rattle.aom_roles.proofs.shapes.gives_nothing.Goals as goal

pub returns-in-Nothing : goal.returns-in-Nothing
unfolding gives_nothing
returns-in-Nothing c = sym (ap gives_nothing c.in-Nothing.is)
