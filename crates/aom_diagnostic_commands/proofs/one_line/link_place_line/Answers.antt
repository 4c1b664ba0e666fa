-- The line is that of the place that was found.
use Rattle.std.proofs.Common.{◌∙◌, None, Some, ap, refl}
use Rattle.aom_diagnostics.specs.Linking.{link_line}
use Rattle.aom_diagnostic_commands.proofs.one_line.link_place_line.Goals as goal

pub returns-in-Some : goal.returns-in-Some
returns-in-Some c =
    record { place = Some c.in-Some.place; fails = c.in-Some.ensures; is = c.link_line.ensures ∙ ap (λ t. link_line t c.in-Some.place) c.bytes.ensures.value }

pub returns-in-None : goal.returns-in-None
returns-in-None c = record { place = None; fails = c.in-None.ensures; is = refl }
