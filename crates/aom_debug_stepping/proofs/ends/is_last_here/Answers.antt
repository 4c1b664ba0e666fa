-- A dispatch at its end is on top on both sides.
use Rattle.std.proofs.Common.{refl, sym, ◌∙◌}
use Rattle.aom_debug_stepping.proofs.NextPlaces.{ends_reported}
use Rattle.aom_debug_stepping.specs.Next.{is_last, is_last_in}
use Rattle.aom_debug_stepping.proofs.ends.is_last_here.Goals as goal

pub returns-in-Some : goal.returns-in-Some
returns-in-Some c = λ p s st. ends_reported p _ s st _ is_last is_last_in c.is_last.result (λ e ts. refl) (sym c.ending.ensures ∙ c.in-Some.is) c.is_last.ensures
