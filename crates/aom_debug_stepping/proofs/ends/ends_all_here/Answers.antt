-- A dispatch at its end is on top on both sides.
use Rattle.std.proofs.Common.{refl, sym, ◌∙◌}
use Rattle.aom_debug_stepping.proofs.NextPlaces.{ends_reported}
use Rattle.aom_debug_stepping.specs.Next.{ends_all, ends_all_in}
use Rattle.aom_debug_stepping.proofs.ends.ends_all_here.Goals as goal

pub returns-in-Some : goal.returns-in-Some
returns-in-Some c = λ s st. ends_reported c.args.linked.now c.args.parts.now s st c.in-Some.dispatch
    (ends_all c.args.linked.now) (ends_all_in c.args.linked.now) c.ends_all.result (λ e ts. refl) (sym c.ending.ensures ∙ c.in-Some.is) c.ends_all.ensures
